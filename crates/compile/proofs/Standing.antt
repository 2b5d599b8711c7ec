-- A goal stands on a card with a log exactly when two goals of the compiled card have a common least cost.
use Rattle.std.proofs.Common.{◌≡◌, ℕ, ◌+◌, ◌<◌, ◌≤◌, List, length, Some, refl, ap, ◌∙◌, subst, ⊎_elim, arith}
use Rattle.std.proofs.lemmas.Bool.{cases_lt, lt-ltb, eq-eqb, cond-true, both_ways}
use Rattle.domain.specs.Meaning.{Meaning}
use Rattle.files.proofs.Outcomes.{known_ok}
use Rattle.fluents.specs.Fluents.{holds}
use Rattle.fluents.specs.declared.FluentSet.{FluentSet}
use Rattle.fluents.proofs.Sets.{holds_past}
use Rattle.cards.specs.Cards.{meaning_of}
use Rattle.cards.specs.Contents.{Contents}
use Rattle.plans.specs.Counting.{advance_all}
use Rattle.plans.specs.Logs.{Admitted, Whole, Stands}
use Rattle.plans.specs.Plans.{cost_of, PlanFor, LeastCost}
use Rattle.plans.proofs.Carrying.{counted_carries, carries_counted}
use Rattle.plans.proofs.Judging.{judges_rightly}
use Rattle.compile.specs.Compiled.{compiled}
use Rattle.compile.specs.Law.{SameLeastCost, StandsByCosts, CompileLaw}
use Rattle.compile.specs.Questions.{accepted_log}
use Rattle.compile.proofs.Accepting.{accepted_fits}
use Rattle.compile.proofs.Costs.{CostsAtMost, least_over}
use Rattle.compile.proofs.Down.{Counted, Below, ran_below}
use Rattle.compile.proofs.Meeting.{meets_below, meets_above, log_below, log_above}
use Rattle.compile.proofs.Shape.{Shape, compiled_shape}
use Rattle.compile.proofs.Steps.{Over}
use Rattle.compile.proofs.Up.{Marked, Above, ran_above}

module _ (c : Contents) (log : List ℕ) (new : Contents) (shape : Shape c log new) where
  abbrev d : Meaning
  d = meaning_of c

  abbrev m : Meaning
  m = meaning_of new

  start_over : Over c new m.start d.start
  start_over = record { state = shape.in_limits.start_in; below = shape.card.start_among; same = λ i _. ap (λ (set : FluentSet). holds i set.0) shape.start }

  start_counted : Counted c log new shape m.start 0
  start_counted j t = absurd (both_ways (holds (c.fluents + j) new.start.0) (ap (λ (set : FluentSet). holds (c.fluents + j) set.0) shape.start ∙ holds_past c.fluents (c.fluents + j) c.start.0 shape.card.start_among (omega arith)) t)

  start_marked : Marked c log new shape m.start 0
  start_marked j h = absurd (omega arith)

  module _ (g : ℕ) (h : g < length c.goals) where
    abbrev n : ℕ
    n = length c.goals

    -- a plan of the compiled card is an admitted plan of the card
    below : (list : List ℕ) (t : ℕ) → PlanFor m t list → Below c log new shape m.start d.start 0 list
    below list t p = ran_below c log new shape list m.start d.start 0 start_over start_counted (omega arith) p.runs

    plan_below : (list : List ℕ) → PlanFor m g list → CostsAtMost d (Admitted d log g) (cost_of m list)
    plan_below list p =
        let b = below list g p in
        (b.plan, (record { plan_for = record { runs = b.runs; meets = meets_below c log new shape g h _ _ b.over p.meets }; logged = b.logged }, b.cost))

    -- one for the goal with the log is a whole plan: all marks hold, so all entries are counted
    whole_below : (list : List ℕ) → PlanFor m (n + g) list → CostsAtMost d (Whole d log g) (cost_of m list)
    whole_below list p =
        let b = below list (n + g) p in
        let met = log_below c log new shape g h _ _ b.over p.meets in
        let count = advance_all log 0 b.plan in
        let all : count ≡ length log = ⊎_elim
        (λ (few : count < length log). absurd (omega (arith, b.counted count (met.1 count few))))
        (λ (all : length log ≤ count). omega (arith, b.low))
        (cases_lt count (length log)) in (
          b.plan,
          (
            record {
              admitted = record { plan_for = record { runs = b.runs; meets = met.0 }; logged = b.logged };
              carries = counted_carries log b.plan 0 (omega arith) all;
              complete = lt-ltb _ _ b.over.below;
            },
            b.cost,
          ),
        )

    -- and back
    above : (plan : List ℕ) → Admitted d log g plan → Above c log new shape m.start d.start 0 plan
    above plan p = ran_above c log new shape plan m.start d.start 0 start_over start_marked p.plan_for.runs p.logged

    plan_above : (plan : List ℕ) → Admitted d log g plan → CostsAtMost m (PlanFor m g) (cost_of d plan)
    plan_above plan p =
        let a = above plan p in
        (a.list, (record { runs = a.runs; meets = meets_above c log new shape g h _ _ a.over p.plan_for.meets }, omega (arith, a.cost)))

    whole_above : (plan : List ℕ) → Whole d log g plan → CostsAtMost m (PlanFor m (n + g)) (cost_of d plan)
    whole_above plan w =
        let a = above plan w.admitted in
        let all : advance_all log 0 plan ≡ length log = carries_counted log plan 0 (omega arith) w.carries in
        (a.list, (record { runs = a.runs; meets = log_above c log new shape g h _ _ a.over w.admitted.plan_for.meets (λ j low. a.marked j (omega arith)) }, omega (arith, a.cost)))

    same_stands : SameLeastCost m g (n + g) → Stands d log g
    same_stands same =
        let k = same.cost in
        let admitted : LeastCost d (Admitted d log g) (Some k) = least_over m d (PlanFor m g) (Admitted d log g) plan_below plan_above k same.of_first in
        let whole : LeastCost d (Whole d log g) (Some k) = least_over m d (PlanFor m (n + g)) (Whole d log g) whole_below whole_above k same.of_second in
        (judges_rightly (Some k) (Some k)).says_so d log g admitted whole (cond-true _ _ _ (eq-eqb k k refl))

    -- a plan that makes the goal stand has both least costs
    stands_same : Stands d log g → SameLeastCost m g (n + g)
    stands_same stands =
        let plan = stands.0 in
        let cheap = stands.1.0 in
        let whole = stands.1.1 in
        record {
          cost = cost_of d plan;
          of_first = least_over d m (Admitted d log g) (PlanFor m g) plan_above plan_below (cost_of d plan) (plan, (cheap, refl));
          of_second = least_over d m (Whole d log g) (PlanFor m (n + g)) whole_above whole_below (cost_of d plan) (plan, (record { of_kind = whole; least = λ other w. cheap.least other w.admitted }, refl));
        }

  stands_by_costs : StandsByCosts c log new
  stands_by_costs = record { stands_same = stands_same; same_stands = same_stands }

pub compile_law : CompileLaw
compile_law c bytes new l e =
    let was = known_ok (compiled c) (accepted_log c bytes) new e in
    let log = was.0 in
    let yes = accepted_fits c bytes log was.1 in
    subst (StandsByCosts c bytes) was.2 (subst (λ bytes. StandsByCosts c bytes (compiled c log)) yes.1 (stands_by_costs c log (compiled c log) (compiled_shape c log l yes.0)))
