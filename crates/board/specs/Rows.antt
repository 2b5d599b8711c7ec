-- The rows of a board.
use Rattle.std.specs.Prelude.{◌≡◌, ℕ, Bool, true, false, List, length, Some, None, Option, nat_eq, nat_lt}
use Rattle.std.specs.List.{All}
use Rattle.plans.specs.declared.verdict.Verdict.{Verdict}
use Rattle.plans.specs.declared.verdict.Verdict.TheVariants as verdicts
use Rattle.plans.specs.Verdicts.{verdict_of}
use Rattle.board.specs.declared.row.BoardRow.{BoardRow}

abbrev pub open_row : BoardRow
open_row = record { verdict = None; without = None; with = None }

-- the row of two least costs
abbrev pub judged_row : Option ℕ → Option ℕ → BoardRow
judged_row without with = record { verdict = Some (verdict_of without with); without = without; with = with }

-- which of the two costs exist
abbrev pub neither : Option ℕ → Option ℕ → Bool
neither None None = true
neither None (Some y) = false
neither (Some x) second = false

abbrev pub only_first : Option ℕ → Option ℕ → Bool
only_first None second = false
only_first (Some x) None = true
only_first (Some x) (Some y) = false

abbrev pub both_as : (ℕ → ℕ → Bool) → Option ℕ → Option ℕ → Bool
both_as test None second = false
both_as test (Some x) None = false
both_as test (Some x) (Some y) = test x y

-- the costs are such as the verdict says
abbrev pub fits : Option Verdict → Option ℕ → Option ℕ → Bool
fits None = neither
fits (Some verdicts.NoPlan) = neither
fits (Some verdicts.CutOff) = only_first
fits (Some verdicts.Stands) = both_as nat_eq
fits (Some verdicts.CostsMore) = both_as nat_lt

abbrev pub agrees : BoardRow → Bool
agrees row = fits row.verdict row.without row.with

abbrev pub AllAgree : List BoardRow → Type 0
AllAgree = All (λ row. agrees row ≡ true)

-- what a contract sees of a board: its rows, with what holds of those of every board
pub record BoardRows : Type 0 where
  pub rows : List BoardRow
  pub long : length rows ≡ 32
  pub agree : AllAgree rows
