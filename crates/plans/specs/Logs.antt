-- Logs of actions, and the plans that account for them.
use Rattle.std.specs.Prelude.{◌≡◌, ℕ, ◌<◌, Bool, true, List, length, ◌==◌, slice_index}
use Rattle.std.specs.List.{list_any}
use Rattle.domain.specs.Meaning.{Meaning}
use Rattle.plans.specs.Plans.{after, PlanFor, Cheapest}

-- a plan carries a log: each entry has a place in the plan that holds the same action, and the places rise strictly
pub record Carries (log plan : List ℕ) : Type 0 where
  pub place : ℕ → ℕ
  pub within : (j : ℕ) → j < length log → place j < length plan
  pub same : (j : ℕ) → j < length log → slice_index plan (place j) ≡ slice_index log j
  pub rising : (i j : ℕ) → i < j → j < length log → place i < place j

-- the action is in the list
abbrev pub occurs : ℕ → List ℕ → Bool
occurs a list = list_any (λ x. x == a) list

-- every marked action of the list is in the log
abbrev pub Logged : Meaning → List ℕ → List ℕ → Type 0
Logged d log list = (a : ℕ) → occurs a list ≡ true → d.marked a ≡ true → occurs a log ≡ true

-- an admitted plan has no marked action that is not in the log, since the console would have logged it
pub record Admitted (d : Meaning) (log : List ℕ) (g : ℕ) (plan : List ℕ) : Type 0 where
  pub plan_for : PlanFor d g plan
  pub logged : Logged d log plan

-- a whole plan is admitted, carries the log, and ends in a complete state
pub record Whole (d : Meaning) (log : List ℕ) (g : ℕ) (plan : List ℕ) : Type 0 where
  pub admitted : Admitted d log g plan
  pub carries : Carries log plan
  pub complete : d.complete (after d d.start plan) ≡ true

-- a goal stands when some cheapest admitted plan for it is whole
abbrev pub Stands : Meaning → List ℕ → ℕ → Type 0
Stands d log g = (plan : List ℕ) × (Cheapest d (Admitted d log g) plan × Whole d log g plan)
