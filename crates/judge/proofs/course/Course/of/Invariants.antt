use Rattle.judge.proofs.Running.{Ran}
use Rattle.judge.proofs.course.Course.of.Given as goal

abbrev pub invariant-loop-ran : goal.invariant-loop-ran
invariant-loop-ran g l = Ran (g.D.Domain.meaning l.domain) l.list l.ran l.last l.cost
