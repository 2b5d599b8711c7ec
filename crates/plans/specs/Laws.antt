-- What the plans of a watched domain are, in the words of the domain below.
use Rattle.std.specs.Prelude.{◌≡◌, ℕ, ◌<◌, ◌≤◌, true, List, [], length}
use Rattle.plans.specs.Logs.{Carries, Admitted, Whole}
use Rattle.domain.specs.Meaning.{Meaning, Limits}
use Rattle.plans.specs.Plans.{after, PlanFor, CompletePlan}
use Rattle.plans.specs.Watched.{watched}

-- the domains and logs that the laws speak of: at most 20 entries, and none over a width above 55
pub record Watchable (d : Meaning) (log : List ℕ) : Type 0 where
  pub limits : Limits d
  pub few : length log ≤ 20
  pub wide : 55 < d.width → log ≡ []

-- the last state of a list of actions, run from the start of the watched domain
abbrev pub last_state : Meaning → List ℕ → List ℕ → ℕ
last_state d log plan = after (watched d log) (watched d log).start plan

pub record PlanLaws (d : Meaning) (log : List ℕ) : Type 0 where
  -- a list is a plan of the watched domain exactly when it is an admitted plan
  pub plan_admitted : (g : ℕ) (plan : List ℕ) → PlanFor (watched d log) g plan → Admitted d log g plan
  pub admitted_plan : (g : ℕ) (plan : List ℕ) → Admitted d log g plan → PlanFor (watched d log) g plan
  -- its last state is then complete exactly when the list carries the log and ends complete below
  pub complete_carries : (g : ℕ) (plan : List ℕ) → Admitted d log g plan → (watched d log).complete (last_state d log plan) ≡ true → Carries log plan × (d.complete (after d d.start plan) ≡ true)
  pub carries_complete : (g : ℕ) (plan : List ℕ) → Admitted d log g plan → Carries log plan → d.complete (after d d.start plan) ≡ true → (watched d log).complete (last_state d log plan) ≡ true

-- so the plans that end complete are exactly the whole plans
pub record WholeLaws (d : Meaning) (log : List ℕ) : Type 0 where
  pub complete_whole : (g : ℕ) (plan : List ℕ) → CompletePlan (watched d log) g plan → Whole d log g plan
  pub whole_complete : (g : ℕ) (plan : List ℕ) → Whole d log g plan → CompletePlan (watched d log) g plan
