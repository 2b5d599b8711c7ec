use Rattle.std.proofs.Common.{drop}
use Rattle.files.specs.Writing.{records_of}
use Rattle.files.proofs.WriteSteps.{Begun}
use Rattle.files.proofs.write_file.write_parts.Given as goal

abbrev pub invariant-loop-item : goal.invariant-loop-item
invariant-loop-item g l =
    let records = records_of l.layout g.R.Record.written in
    Begun (records l.items) (records (drop l.item-index l.items)) l.initial.place l.place l.count
