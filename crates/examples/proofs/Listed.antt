-- The worked examples, by tests that antt computes.
use Rattle.std.proofs.Common.{◌≡◌, ℕ, Bool, true, false, ltb, List, [], ◌∷◌, Ok, refl}
use Rattle.std.specs.List.{list_all, AllByRecursion as All}
use Rattle.std.proofs.lemmas.Bool.{ltb-true}
use Rattle.std.proofs.lemmas.List.Sums.{AllPass-from_list_all}
use Rattle.domain.specs.Meaning.{Limits}
use Rattle.files.specs.declared.kind.Kind.TheVariants as kind
use Rattle.files.specs.Numbers.{Bytes}
use Rattle.files.proofs.WholeFiles.{read_exactly}
use Rattle.cards.specs.CardFiles.{read_card}
use Rattle.cards.specs.Cards as cards
use Rattle.cards.specs.Contents as card
use Rattle.cards.proofs.FileLaws.{card_exactly}
use Rattle.cards.specs.Laws as card_laws
use Rattle.maps.specs.Contents as map
use Rattle.maps.specs.MapFiles.{read_map}
use Rattle.maps.specs.Maps as maps
use Rattle.maps.proofs.FileLaws.{map_exactly}
use Rattle.maps.specs.Laws as map_laws
use Rattle.examples.specs.Samples.{calibration, slews}
use Rattle.examples.specs.Worked.{Holds, calibration_lines, marked_lines, slews_lines, WorkedExamples}
use Rattle.examples.proofs.Lines.{Shown, lines_hold}

-- what is read from bytes keeps the limits
abbrev pub are_bytes : List ℕ → Bool
are_bytes bs = list_all (λ b. ltb b 256) bs

bytes : (bs : List ℕ) → are_bytes bs ≡ true → Bytes bs
bytes bs h = λ i d l. ltb-true _ _ (AllPass-from_list_all (λ b. ltb b 256) bs h i d l)

card_limits : (bs : List ℕ) (c : card.Contents) → are_bytes bs ≡ true → read_card bs ≡ Ok c → Limits (cards.meaning_of c)
card_limits bs c are read = card_laws.limits c ((card_exactly bs (read_exactly kind.Card bs (bytes bs are))).only c read).0

map_limits : (bs : List ℕ) (c : map.Contents) → are_bytes bs ≡ true → read_map bs ≡ Ok c → Limits (maps.meaning_of c)
map_limits bs c are read = map_laws.limits c ((map_exactly bs (read_exactly kind.Map bs (bytes bs are))).only c read).0

-- a plan of each least cost, where there is one
abbrev plans : List ℕ → List ℕ → Shown
plans without with = record { without = without; with = with }

calibration_holds : Limits (cards.meaning_of (calibration false)) → All (Holds (cards.meaning_of (calibration false))) calibration_lines
calibration_holds limits =
    lines_hold (cards.meaning_of (calibration false)) limits calibration_lines
    (plans (1 ∷ 2 ∷ []) (1 ∷ 2 ∷ [])
    ∷ plans (0 ∷ 3 ∷ []) (0 ∷ 3 ∷ [])
    ∷ plans (1 ∷ 2 ∷ 0 ∷ 3 ∷ []) (1 ∷ 2 ∷ 0 ∷ 3 ∷ [])
    ∷ plans (0 ∷ 3 ∷ []) (1 ∷ 0 ∷ 3 ∷ [])
    ∷ plans (1 ∷ 2 ∷ []) (1 ∷ 2 ∷ 0 ∷ [])
    ∷ plans (1 ∷ 2 ∷ []) (1 ∷ 2 ∷ 4 ∷ [])
    ∷ plans (1 ∷ 2 ∷ []) (1 ∷ 2 ∷ 1 ∷ [])
    ∷ [])
    (refl, (refl, (refl, (refl, (refl, (refl, (refl, tt)))))))
    refl

marked_holds : Limits (cards.meaning_of (calibration true)) → All (Holds (cards.meaning_of (calibration true))) marked_lines
marked_holds limits = lines_hold (cards.meaning_of (calibration true)) limits marked_lines (plans (1 ∷ 2 ∷ []) (1 ∷ 4 ∷ 1 ∷ 2 ∷ []) ∷ []) (refl, tt) refl

slews_holds : Limits (maps.meaning_of slews) → All (Holds (maps.meaning_of slews)) slews_lines
slews_holds limits =
    lines_hold (maps.meaning_of slews) limits slews_lines
    (plans (2 ∷ 3 ∷ []) (2 ∷ 3 ∷ []) ∷ plans (2 ∷ 4 ∷ []) [] ∷ plans [] [] ∷ [])
    (refl, (refl, (refl, tt)))
    refl

pub worked_examples : (card_file marked_file map_file : List ℕ)
    → are_bytes card_file ≡ true → read_card card_file ≡ Ok (calibration false)
    → are_bytes marked_file ≡ true → read_card marked_file ≡ Ok (calibration true)
    → are_bytes map_file ≡ true → read_map map_file ≡ Ok slews
    → WorkedExamples card_file marked_file map_file
worked_examples card_file marked_file map_file b c d e f g = record {
  card_read = c;
  card_holds = calibration_holds (card_limits card_file (calibration false) b c);
  marked_read = e;
  marked_holds = marked_holds (card_limits marked_file (calibration true) d e);
  map_read = g;
  map_holds = slews_holds (map_limits map_file slews f g);
}
