use Rattle.std.proofs.Common.{◌-◌, length}
use Rattle.search.specs.Searching.{stage_of, settled_count}
use Rattle.search.specs.Solved.{Exploring}
use Rattle.search.proofs.explore.explore.Given as goal

abbrev pub invariant-loop-row : goal.invariant-loop-row
invariant-loop-row g l = Exploring (g.D.Domain.meaning l.domain) (stage_of l.rows l.list l.progress)

abbrev pub decreases-loop-row : goal.decreases-loop-row
decreases-loop-row g l = length l.initial.rows - settled_count l.progress
