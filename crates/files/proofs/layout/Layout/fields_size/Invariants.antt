use Rattle.std.proofs.Common.{◌≡◌, ◌+◌, drop}
use Rattle.files.specs.Reading.{size_of}
use Rattle.files.proofs.layout.Layout.fields_size.Given as goal

abbrev pub invariant-loop-field : goal.invariant-loop-field
invariant-loop-field l = l.size + size_of l.rest (drop l.field-index l.field-items) ≡ size_of l.map l.field-items
