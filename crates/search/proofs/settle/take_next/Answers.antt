use Rattle.std.proofs.Common.{arith, rules}
use Rattle.search.proofs.Settling.{taken_row, settled_next}
use Rattle.search.proofs.settle.take_next.Goals as goal

pub bounds-rows-entry : goal.bounds-rows-entry
bounds-rows-entry c =
    let told = c.in_ok-entry.ensures in
    omega (arith, taken_row c.args.rows.now c.args.progress.now.known c.in_ok-entry.entry _ _ c.requires.known c.requires.waiting told.taken.entries, told.kept.long)

pub offset_bounds-rows-entry : goal.offset_bounds-rows-entry
offset_bounds-rows-entry c =
    let h = taken_row c.args.rows.now c.args.progress.now.known c.in_ok-entry.entry _ _ c.requires.known c.requires.waiting c.in_ok-entry.ensures.taken.entries in
    search rules

pub returns : goal.returns
returns c = λ m level so.
    let told = c.in_ok-entry.ensures in
    settled_next so c.take_least.new.rows _ c.take_least.new.list c.in_ok-entry.waiting c.in_ok-entry.entry told.taken told.kept told.tracked (search rules)
