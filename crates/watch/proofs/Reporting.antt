-- What the search answers on a watched domain, in the words of the domain below.
use Rattle.std.proofs.Common.{◌≡◌, ℕ, List, [], ◌∷◌, take, Some, None, Option, sym, refl, ap, ◌∙◌, subst, arith}
use Rattle.std.proofs.lemmas.Grind.{common_steps}
use Rattle.domain.specs.Meaning.{Meaning, Limits}
use Rattle.plans.specs.declared.verdict.Verdict.{Verdict}
use Rattle.plans.specs.declared.verdict.Verdict.TheVariants as verdicts
use Rattle.plans.specs.Laws.{Watchable}
use Rattle.plans.specs.Logs.{Admitted, Whole, Stands}
use Rattle.plans.specs.Plans.{cost_of, PlanFor, CompletePlan, Cheapest, LeastCost}
use Rattle.plans.specs.Stacks.{stack, Stackable, WholeBelow}
use Rattle.plans.specs.Verdicts.{verdict_of}
use Rattle.plans.specs.Watched.{watched}
use Rattle.plans.proofs.Judging.{judges_rightly}
use Rattle.plans.proofs.LeastCosts.{watched_cost, cheapest_over, least_admitted, least_whole}
use Rattle.plans.proofs.Stacking.{stack_laws}
use Rattle.plans.proofs.Watching.{plan_laws, whole_laws}
use Rattle.search.specs.Answers.{Sizes, ShownKind, Accepted}
use Rattle.watch.specs.Book.{log_after, book_from, book}
use Rattle.watch.specs.Calls.{Call, Report, Event}
use Rattle.watch.specs.Reports.{ShownBy, RightBelow, RightReport}

-- The log of a book can be watched: it has at most 20 entries, and none over a width above 55.
watchable_after : (d : Meaning) (log : List ℕ) (c : Call) → Watchable d log → Watchable d (log_after d log c)
watchable_after d log c ok = grind (arith, common_steps)

watchable_from : (d : Meaning) (log : List ℕ) (run : List Event) → Watchable d log → Watchable d (book_from d log run)
watchable_from d log [] ok = ok
watchable_from d log (e ∷ run) ok = watchable_from d (log_after d log e.0) run (watchable_after d log e.0 ok)

pub watchable : (d : Meaning) (run : List Event) → Limits d → Watchable d (book d run)
watchable d run limits = watchable_from d [] run (record { limits = limits; few = omega arith; wide = λ h. refl })

-- Cheapest plans of the watched domain are cheapest plans of the domain below.
module _ (d : Meaning) (log : List ℕ) (ok : Watchable d log) (g : ℕ) where
  admitted_cheapest : (plan : List ℕ) → Cheapest (watched d log) (PlanFor (watched d log) g) plan → Cheapest d (Admitted d log g) plan
  admitted_cheapest = cheapest_over (watched d log) d (watched_cost d log) (PlanFor (watched d log) g) (Admitted d log g) ((plan_laws d log ok).plan_admitted g) ((plan_laws d log ok).admitted_plan g)

  planned_cheapest : (plan : List ℕ) → Cheapest d (Admitted d log g) plan → Cheapest (watched d log) (PlanFor (watched d log) g) plan
  planned_cheapest = cheapest_over d (watched d log) (λ plan. sym (watched_cost d log plan)) (Admitted d log g) (PlanFor (watched d log) g) ((plan_laws d log ok).admitted_plan g) ((plan_laws d log ok).plan_admitted g)

  whole_cheapest : (plan : List ℕ) → Cheapest (watched d log) (CompletePlan (watched d log) g) plan → Cheapest d (Whole d log g) plan
  whole_cheapest = cheapest_over (watched d log) d (watched_cost d log) (CompletePlan (watched d log) g) (Whole d log g) ((whole_laws d log ok).complete_whole g) ((whole_laws d log ok).whole_complete g)

  -- the plan shown, by the verdict on the costs
  both_shown : (c e : ℕ) (plan : List ℕ) → LeastCost d (Admitted d log g) (Some c) → Cheapest d (Whole d log g) plan → cost_of d plan ≡ e → ShownBy d log g (verdict_of (Some c) (Some e)) plan
  both_shown c e plan one two cost = grind (arith, common_steps)

  shown_by : (without with : Option ℕ) (plan : List ℕ) → LeastCost d (Admitted d log g) without → ShownKind (watched d log) g without with plan → ShownBy d log g (verdict_of without with) plan
  shown_by None None plan one kind = kind
  shown_by None (Some e) plan one kind = absurd (one plan (whole_cheapest plan kind.0).of_kind.admitted)
  shown_by (Some c) None plan one kind = admitted_cheapest plan kind.0
  shown_by (Some c) (Some e) plan one kind = both_shown c e plan one (whole_cheapest plan kind.0) (sym (watched_cost d log plan) ∙ kind.1)

  -- in the words of the domain at the bottom of a stack
  module _ (b : Meaning) (logs : List (List ℕ)) (is : d ≡ stack b logs) (below : Stackable b logs) where
    both : Stackable b (log ∷ logs)
    both = (subst (λ m. Watchable m log) is ok, below)

    top : watched d log ≡ stack b (log ∷ logs)
    top = ap (λ m. watched m log) is

    whole_down : (plan : List ℕ) → Whole d log g plan → WholeBelow b (log ∷ logs) g plan
    whole_down plan w = (stack_laws b (log ∷ logs) both).complete_whole g plan (subst (λ m. CompletePlan m g plan) top ((whole_laws d log ok).whole_complete g plan w))

    whole_up : (plan : List ℕ) → WholeBelow b (log ∷ logs) g plan → Whole d log g plan
    whole_up plan w = (whole_laws d log ok).complete_whole g plan (subst (λ m. CompletePlan m g plan) (sym top) ((stack_laws b (log ∷ logs) both).whole_complete g plan w))

    cheapest_down : (plan : List ℕ) → Cheapest d (Admitted d log g) plan → Cheapest (stack b (log ∷ logs)) (PlanFor (stack b (log ∷ logs)) g) plan
    cheapest_down plan c = subst (λ m. Cheapest m (PlanFor m g) plan) top (planned_cheapest plan c)

    cheapest_up : (plan : List ℕ) → Cheapest (stack b (log ∷ logs)) (PlanFor (stack b (log ∷ logs)) g) plan → Cheapest d (Admitted d log g) plan
    cheapest_up plan c = admitted_cheapest plan (subst (λ m. Cheapest m (PlanFor m g) plan) (sym top) c)

    right_below : (r : Report) → (r.verdict ≡ verdicts.Stands → Stands d log g) → (Stands d log g → r.verdict ≡ verdicts.Stands) → ShownBy d log g r.verdict r.plan → RightBelow b (log ∷ logs) g r
    right_below r says is_so shown = record {
      says_so = λ e. let s = says e in (s.0, (cheapest_down s.0 s.1.0, whole_down s.0 s.1.1));
      is_so = λ s. is_so (s.0, (cheapest_up s.0 s.1.0, whole_up s.0 s.1.1));
      shown = λ e. let both_ways = subst (λ v. ShownBy d log g v r.plan) e shown in (cheapest_down r.plan both_ways.0, whole_down r.plan both_ways.1);
    }

-- an accepted search on the watched domain is a right report
pub right_report : (d : Meaning) (log : List ℕ) (g : ℕ) (s : Sizes) (without with : Option ℕ) (v : Verdict) (before after : List ℕ) (len : ℕ) → Watchable d log → v ≡ verdict_of without with → Accepted (watched d log) g s without with before after len → RightReport d log g s (record { verdict = v; without = without; with = with; plan = take len after })
right_report d log g s without with v before after len ok is a =
    let first = least_admitted d log ok g without a.found.least in
    let second = least_whole d log ok g with a.found.least_complete in
    let right = judges_rightly without with in
    let says_so : v ≡ verdicts.Stands → Stands d log g = λ e. right.says_so d log g first second (sym is ∙ e) in
    let is_so : Stands d log g → v ≡ verdicts.Stands = λ st. is ∙ right.is_so d log g first second st in
    let shown : ShownBy d log g v (take len after) = subst (λ w. ShownBy d log g w (take len after)) (sym is) (shown_by d log ok g without with (take len after) first a.found.shown.kind) in
    record {
      is_goal = a.is_goal;
      suited = a.suited;
      reachable = a.reachable;
      without = first;
      with = second;
      verdict = is;
      says_so = says_so;
      is_so = is_so;
      shown = shown;
      repeats_none = a.found.shown.repeats_none;
      below = λ b logs e below. right_below d log ok g b logs e below (record { verdict = v; without = without; with = with; plan = take len after }) says_so is_so shown;
    }
