use Rattle.std.proofs.Common.{length, take, ap, ◌∙◌}
use Rattle.files.proofs.Numerals.{spelled_written}
use Rattle.files.proofs.numbers.write_number.Goals as goal

pub returns : goal.returns
returns c =
    let n = length c.args.place.now in
    c.copy_from_slice.ensures.after ∙ ap (take n) c.to_le_bytes.ensures ∙ spelled_written n c.args.value c.requires
