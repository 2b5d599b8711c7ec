use Rattle.std.proofs.Common.{◌≡◌, ◌+◌, ◌*◌, ◌^◌, ◌≤◌, length}
use Rattle.std.specs.Iterator.Adapters.{zip_first, zip_second}
use Rattle.std.specs.Slice.Iter.{iter_rest}
use Rattle.files.specs.Contents.{bit_map, mark_bit}
use Rattle.files.specs.Formats.{fields_of}
use Rattle.files.proofs.layout.Layout.bit_map.Given as goal

abbrev pub invariant-loop-field : goal.invariant-loop-field
invariant-loop-field g l =
    let fs = iter_rest (zip_first l.field-iterator) in
    let vs = iter_rest (zip_second l.field-iterator) in
    let e = g.R.Record.written l.item in
    let top = mark_bit l.self.part e in
    record {
      few : length fs ≤ length vs;
      bits : l.bit * 2 ^ length fs ≤ 16;
      map : l.map + l.bit * bit_map fs vs top ≡ bit_map (fields_of l.self.kind l.self.part) e.values top;
    }
