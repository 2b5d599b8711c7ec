use Rattle.search.specs.Searching.{stage_of, SettledRow, Expanded}
use Rattle.search.proofs.settle.expand.Given as goal

abbrev pub invariant-loop-action : goal.invariant-loop-action
invariant-loop-action g l = let before = stage_of l.initial.rows l.initial.list l.initial.progress in SettledRow before l.row l.here × Expanded (g.D.Domain.meaning l.domain) before l.row l.action (stage_of l.rows l.list l.progress)
