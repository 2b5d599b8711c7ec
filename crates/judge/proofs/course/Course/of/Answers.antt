use Rattle.std.proofs.Common.{arith}
use Rattle.judge.proofs.Running.{ran_more}
use Rattle.judge.proofs.course.Course.of.Goals as goal

pub loop-ran-preserved : goal.loop-ran-preserved
loop-ran-preserved g c =
    let loop = c.loop-ran in
    ran_more (g.D.Domain.meaning c.args.domain.now) c.args.list.now loop.ran loop.last loop.cost loop.invariant c.next-last.result c.from-cost.result c.loop-ran-test.true (cc) c.next-last.ensures (cc) (omega arith)
