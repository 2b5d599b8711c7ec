use Rattle.std.proofs.Common.{ap, ◌∙◌, arith}
use Rattle.files.specs.Contents.{mark_bit}
use Rattle.files.specs.Formats.{fields_of}
use Rattle.files.specs.Reading.{size_of}
use Rattle.files.proofs.Fields.{size_written}
use Rattle.files.proofs.layout.Layout.record_length.Goals as goal

pub returns : goal.returns
returns g c =
    let fs = fields_of c.args.self.kind c.args.self.part in
    let e = g.R.Record.written c.args.item.now in
    let size = c.fields_size.ensures ∙ ap (λ m. size_of m fs) c.bit_map.ensures ∙ size_written fs e.values (mark_bit c.args.self.part e) in
    omega (arith, size)
