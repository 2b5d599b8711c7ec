-- What compiling is for: two least costs of the compiled card tell whether a goal stands.
use Rattle.std.specs.Prelude.{◌≡◌, ℕ, ◌+◌, ◌<◌, List, length, Some, Ok}
use Rattle.domain.specs.Meaning.{Meaning}
use Rattle.cards.specs.Cards.{meaning_of}
use Rattle.cards.specs.Contents.{Contents, InLimits}
use Rattle.plans.specs.Logs.{Stands}
use Rattle.plans.specs.Plans.{PlanFor, LeastCost}
use Rattle.compile.specs.Outcome.{compile_log}

-- two goals have plans of a common least cost; two goals without plans have none
pub record SameLeastCost (d : Meaning) (g h : ℕ) : Type 0 where
  pub cost : ℕ
  pub of_first : LeastCost d (PlanFor d g) (Some cost)
  pub of_second : LeastCost d (PlanFor d h) (Some cost)

-- a goal of the card stands exactly when it has, on the compiled card, a least cost in common with the same goal together with the log
pub record StandsByCosts (c : Contents) (log : List ℕ) (new : Contents) : Type 0 where
  pub stands_same : (g : ℕ) → g < length c.goals → Stands (meaning_of c) log g → SameLeastCost (meaning_of new) g (length c.goals + g)
  pub same_stands : (g : ℕ) → g < length c.goals → SameLeastCost (meaning_of new) g (length c.goals + g) → Stands (meaning_of c) log g

-- of every card and every log that is compiled into it
abbrev pub CompileLaw : Type 0
CompileLaw = (c : Contents) (log : List ℕ) (new : Contents) → InLimits c → compile_log c log ≡ Ok new → StandsByCosts c log new
