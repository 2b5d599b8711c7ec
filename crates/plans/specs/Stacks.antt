-- Several logs on one domain: a watched domain over a watched domain, and so on.
use Rattle.std.specs.Prelude.{◌≡◌, ℕ, true, List, [], ◌∷◌, All}
use Rattle.plans.specs.Logs.{Carries, Logged}
use Rattle.domain.specs.Meaning.{Meaning, Limits}
use Rattle.plans.specs.Plans.{after, PlanFor, CompletePlan}
use Rattle.plans.specs.Laws.{Watchable}
use Rattle.plans.specs.Watched.{watched}

-- the outermost log comes first
abbrev pub stack : Meaning → List (List ℕ) → Meaning
stack b [] = b
stack b (log ∷ logs) = watched (stack b logs) log

abbrev pub Stackable : Meaning → List (List ℕ) → Type 0
Stackable b [] = Limits b
Stackable b (log ∷ logs) = Watchable (stack b logs) log × Stackable b logs

-- the innermost log alone judges the marks of the domain at the bottom
abbrev pub MarksLogged : Meaning → List (List ℕ) → List ℕ → Type 0
MarksLogged b [] plan = Unit {0}
MarksLogged b (log ∷ []) plan = Logged b log plan
MarksLogged b (log ∷ (inner ∷ logs)) plan = MarksLogged b (inner ∷ logs) plan

-- a list of actions that is whole for all the logs, in the words of the domain at the bottom
pub record WholeBelow (b : Meaning) (logs : List (List ℕ)) (g : ℕ) (plan : List ℕ) : Type 0 where
  pub plan_for : PlanFor b g plan
  pub marks : MarksLogged b logs plan
  pub carries : All (λ log. Carries log plan) logs
  pub complete : b.complete (after b b.start plan) ≡ true

-- a plan of the stack that ends complete is whole for all its logs, and the other way round
pub record StackLaws (b : Meaning) (logs : List (List ℕ)) : Type 0 where
  pub complete_whole : (g : ℕ) (plan : List ℕ) → CompletePlan (stack b logs) g plan → WholeBelow b logs g plan
  pub whole_complete : (g : ℕ) (plan : List ℕ) → WholeBelow b logs g plan → CompletePlan (stack b logs) g plan
