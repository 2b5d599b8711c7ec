use Rattle.std.proofs.Common.{◌≡◌, ◌+◌, length, drop}
use Rattle.files.specs.Writing.{records_of}
use Rattle.files.proofs.write_file.room_after.Given as goal

abbrev pub invariant-loop-item : goal.invariant-loop-item
invariant-loop-item g l =
    let records = records_of l.layout g.R.Record.written in
    l.left + length (records l.items) ≡ l.room + length (records (drop l.item-index l.items))
