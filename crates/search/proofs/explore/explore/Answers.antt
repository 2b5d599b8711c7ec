use Rattle.std.proofs.Common.{length, subst, sym, ap, arith}
use Rattle.table.specs.Rows.{node}
use Rattle.search.specs.Searching.{Stage}
use Rattle.search.specs.Solved.{Solved}
use Rattle.search.proofs.Exploring.{next_row, next_searching, exploring_on, solved, left_falls}
use Rattle.search.proofs.explore.explore.Goals as goal

pub expand-requires-clause-row : goal.expand-requires-clause-row
expand-requires-clause-row g c = next_row (c.in-Some.ensures _ _ c.loop-row.invariant.searching)

pub expand-requires-clause-searching : goal.expand-requires-clause-searching
expand-requires-clause-searching g c = next_searching (c.in-Some.ensures _ _ c.loop-row.invariant.searching)

pub loop-row-smaller : goal.loop-row-smaller
loop-row-smaller g c = left_falls c.loop-row.invariant (c.in-Some.ensures _ _ c.loop-row.invariant.searching) c.in_ok-expand.ensures (length c.begin-progress.new.rows) (omega arith)

pub loop-row-preserved : goal.loop-row-preserved
loop-row-preserved g c = exploring_on c.loop-row.invariant (c.in-Some.ensures _ _ c.loop-row.invariant.searching) c.in_ok-expand.ensures

pub returns : goal.returns
returns g c =
    let before = c.loop-row in
    let told = c.in_default.ensures _ _ before.invariant.searching in (
      omega (arith, before.invariant.searching.indexed.fits, ap (λ s. s.progress.known) told.1),
      subst (λ (s : Stage). Solved (g.D.Domain.meaning c.args.domain.now) (node s.rows) s.progress.known) (sym told.1) (solved told.0 before.invariant),
    )
