use Rattle.std.proofs.Common.{◌++◌, List, ℕ, [], ◌∷◌, length, drop, refl, ap, ◌∙◌, w64, arith}
use Rattle.std.specs.Int.{from_le_bytes}
use Rattle.std.proofs.lemmas.List.{length-append, length-drop}
use Rattle.files.proofs.Numerals.{little_read}
use Rattle.files.proofs.numbers.read_number.Goals as goal

pub returns : goal.returns
returns c =
    let bs = c.args.bytes.now in
    let n = length bs in
    let zeros : List ℕ = 0 ∷ (0 ∷ (0 ∷ (0 ∷ (0 ∷ (0 ∷ (0 ∷ (0 ∷ []))))))) in
    c.from_le_bytes.ensures
    ∙ ap (λ t. from_le_bytes w64 (t ++ drop n zeros)) c.copy_from_slice.ensures.after
    ∙ little_read bs zeros n refl (omega (arith, length-append bs (drop n zeros), length-drop n zeros))
