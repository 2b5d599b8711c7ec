-- Least costs over a watched domain are least costs over the domain below.
use Rattle.std.proofs.Common.{◌≡◌, ℕ, ◌+◌, List, [], ◌∷◌, Some, None, Option, sym, refl, ap, ◌∙◌, arith}
use Rattle.domain.specs.Meaning.{Meaning}
use Rattle.plans.specs.Laws.{Watchable}
use Rattle.plans.specs.Logs.{Admitted, Whole}
use Rattle.plans.specs.Plans.{cost_of, PlanFor, CompletePlan, Cheapest, LeastCost}
use Rattle.plans.specs.Watched.{watched}
use Rattle.plans.proofs.Watching.{plan_laws, whole_laws}

-- a log changes no cost
pub watched_cost : (d : Meaning) (log plan : List ℕ) → cost_of (watched d log) plan ≡ cost_of d plan
watched_cost d log [] = refl
watched_cost d log (a ∷ plan) = ap (λ n. d.cost a + n) (watched_cost d log plan)

-- two domains with the same costs, and two kinds of the same lists
module _ (m d : Meaning) (same : (plan : List ℕ) → cost_of m plan ≡ cost_of d plan) (P Q : List ℕ → Type 0) (to : (plan : List ℕ) → P plan → Q plan) (back : (plan : List ℕ) → Q plan → P plan) where
  pub cheapest_over : (plan : List ℕ) → Cheapest m P plan → Cheapest d Q plan
  cheapest_over plan c = record { of_kind = to plan c.of_kind; least = λ other q. omega (arith, same plan, same other, c.least other (back other q)) }

  pub least_over : (c : Option ℕ) → LeastCost m P c → LeastCost d Q c
  least_over None l = λ plan q. l plan (back plan q)
  least_over (Some c) l = (l.0, (cheapest_over l.0 l.1.0, sym (same l.0) ∙ l.1.1))

module _ (d : Meaning) (log : List ℕ) (ok : Watchable d log) (g : ℕ) where
  pub least_admitted : (c : Option ℕ) → LeastCost (watched d log) (PlanFor (watched d log) g) c → LeastCost d (Admitted d log g) c
  least_admitted = least_over (watched d log) d (watched_cost d log) (PlanFor (watched d log) g) (Admitted d log g) ((plan_laws d log ok).plan_admitted g) ((plan_laws d log ok).admitted_plan g)

  pub least_whole : (c : Option ℕ) → LeastCost (watched d log) (CompletePlan (watched d log) g) c → LeastCost d (Whole d log g) c
  least_whole = least_over (watched d log) d (watched_cost d log) (CompletePlan (watched d log) g) (Whole d log g) ((whole_laws d log ok).complete_whole g) ((whole_laws d log ok).whole_complete g)
