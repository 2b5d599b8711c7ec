-- The worked examples: what the definitions say of the goals of the sample domains, under some logs.
use Rattle.std.specs.Prelude.{◌≡◌, ℕ, true, false, List, [], ◌∷◌, Some, None, Ok, Option}
use Rattle.std.specs.List.{AllByRecursion}
use Rattle.domain.specs.Meaning.{Meaning}
use Rattle.cards.specs.CardFiles.{read_card}
use Rattle.cards.specs.Cards as card
use Rattle.maps.specs.MapFiles.{read_map}
use Rattle.maps.specs.Maps as map
use Rattle.plans.specs.declared.verdict.Verdict.{Verdict}
use Rattle.plans.specs.declared.verdict.Verdict.TheVariants as verdicts
use Rattle.plans.specs.Logs.{Admitted, Whole, Stands}
use Rattle.plans.specs.Plans.{LeastCost}
use Rattle.plans.specs.Verdicts.{verdict_of}
use Rattle.examples.specs.Samples.{calibration, slews}

-- a line of the list: a log and a goal, the least cost of an admitted plan and of a whole one, and the verdict
pub record Line : Type 0 where
  pub log : List ℕ
  pub goal : ℕ
  pub without : Option ℕ
  pub with : Option ℕ
  pub verdict : Verdict

abbrev pub line : List ℕ → ℕ → Verdict → Option ℕ → Option ℕ → Line
line log goal v without with = record { log = log; goal = goal; without = without; with = with; verdict = v }

-- what a line says of a domain
pub record Holds (d : Meaning) (l : Line) : Type 0 where
  pub without : LeastCost d (Admitted d l.log l.goal) l.without
  pub with : LeastCost d (Whole d l.log l.goal) l.with
  pub verdict : verdict_of l.without l.with ≡ l.verdict
  -- the goal stands exactly when the verdict says so
  pub says_so : l.verdict ≡ verdicts.Stands → Stands d l.log l.goal
  pub is_so : Stands d l.log l.goal → l.verdict ≡ verdicts.Stands

-- the card
abbrev pub calibration_lines : List Line
calibration_lines =
    line [] 0 verdicts.Stands (Some 3) (Some 3)
    ∷ line [] 1 verdicts.Stands (Some 4) (Some 4)
    ∷ line [] 2 verdicts.Stands (Some 7) (Some 7)
    ∷ line (1 ∷ []) 1 verdicts.CostsMore (Some 4) (Some 5)
    ∷ line (0 ∷ []) 0 verdicts.CostsMore (Some 3) (Some 4)
    ∷ line (4 ∷ []) 0 verdicts.Stands (Some 3) (Some 3)
    ∷ line (1 ∷ 1 ∷ []) 0 verdicts.CostsMore (Some 3) (Some 4)
    ∷ []

-- the card with a marked lamp
abbrev pub marked_lines : List Line
marked_lines = line (4 ∷ 1 ∷ []) 0 verdicts.CostsMore (Some 3) (Some 4) ∷ []

-- the map
abbrev pub slews_lines : List Line
slews_lines =
    line (2 ∷ []) 0 verdicts.Stands (Some 4) (Some 4)
    ∷ line (0 ∷ []) 1 verdicts.CutOff (Some 2) None
    ∷ line (0 ∷ []) 2 verdicts.NoPlan None None
    ∷ []

-- the whole list, of the domains that are read from three files
pub record WorkedExamples (card_file marked_file map_file : List ℕ) : Type 0 where
  pub card_read : read_card card_file ≡ Ok (calibration false)
  pub card_holds : AllByRecursion (Holds (card.meaning_of (calibration false))) calibration_lines
  pub marked_read : read_card marked_file ≡ Ok (calibration true)
  pub marked_holds : AllByRecursion (Holds (card.meaning_of (calibration true))) marked_lines
  pub map_read : read_map map_file ≡ Ok slews
  pub map_holds : AllByRecursion (Holds (map.meaning_of slews)) slews_lines
