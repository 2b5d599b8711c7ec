-- What the two least costs of a goal tell.
use Rattle.std.specs.Prelude.{◌≡◌, ℕ, if◌then◌else◌, List, Some, None, Option, ◌==◌, codes}
use Rattle.plans.specs.declared.verdict.Verdict.{Verdict}
use Rattle.plans.specs.declared.verdict.Verdict.TheVariants as verdict
use Rattle.plans.specs.Logs.{Admitted, Whole, Stands}
use Rattle.domain.specs.Meaning.{Meaning}
use Rattle.plans.specs.Plans.{LeastCost}

-- the first cost is that of an admitted plan, the second that of a whole one, which is never less
abbrev pub verdict_of : Option ℕ → Option ℕ → Verdict
verdict_of None second = verdict.NoPlan
verdict_of (Some first) None = verdict.CutOff
verdict_of (Some first) (Some second) = if first == second then verdict.Stands else verdict.CostsMore

-- a verdict as it is printed
abbrev pub verdict_words : Verdict → List ℕ
verdict_words verdict.Stands = codes "stands"
verdict_words verdict.CostsMore = codes "costs-more"
verdict_words verdict.CutOff = codes "cut-off"
verdict_words verdict.NoPlan = codes "no-plan"

-- a verdict on the least costs says that a goal stands exactly when it does; so two absent costs do not make it stand
pub record JudgesRightly (first second : Option ℕ) (v : Verdict) : Type 0 where
  pub says_so : (d : Meaning) (log : List ℕ) (g : ℕ) → LeastCost d (Admitted d log g) first → LeastCost d (Whole d log g) second → v ≡ verdict.Stands → Stands d log g
  pub is_so : (d : Meaning) (log : List ℕ) (g : ℕ) → LeastCost d (Admitted d log g) first → LeastCost d (Whole d log g) second → Stands d log g → v ≡ verdict.Stands
