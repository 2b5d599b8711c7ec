use Rattle.std.proofs.Common.{◌≤◌, length}
use Rattle.std.specs.Iterator.Adapters.{zip_first, zip_second}
use Rattle.std.specs.Slice.Iter.{iter_rest}
use Rattle.files.specs.Contents.{all_field_bytes, record_bytes}
use Rattle.files.proofs.WriteSteps.{Begun}
use Rattle.files.proofs.layout.Layout.write_record.Given as goal

abbrev pub invariant-loop-field : goal.invariant-loop-field
invariant-loop-field g l =
    let fs = iter_rest (zip_first l.field-iterator) in
    let vs = iter_rest (zip_second l.field-iterator) in
    record {
      few : length fs ≤ length vs;
      begun : Begun (record_bytes l.fn.self.kind l.fn.self.part (g.R.Record.written l.item)) (all_field_bytes fs vs) l.fn.place l.place l.count;
    }
