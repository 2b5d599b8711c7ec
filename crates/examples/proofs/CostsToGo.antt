-- Least costs by a table of costs to go: one test of the table, which antt computes, bounds every list of actions.
use Rattle.std.proofs.Common.{◌≡◌, ℕ, zero, suc, ◌+◌, ◌<◌, min, Bool, true, false, cond, not, ◌&&◌, ◌||◌, eqb, ltb, leb, List, [], ◌∷◌, length, get_or, Some, None, Option, sym, ◌∙◌, subst, ⊎_elim, arith}
use Rattle.std.proofs.lemmas.Bool.{cases_eq, and_parts, or_cases, not_from_true, leb-true, le-leb, ltb-true, eqb-true, true≢false}
use Rattle.domain.specs.Meaning.{Meaning, Limits}
use Rattle.plans.specs.Plans.{after, RunsAll, cost_of, LeastCost}
use Rattle.plans.proofs.Running.{is_action}

-- a test that holds of every number below n
abbrev all_below : ℕ → (ℕ → Bool) → Bool
all_below zero test = true
all_below (suc n) test = test n && all_below n test

all_below_at : (n : ℕ) (test : ℕ → Bool) → all_below n test ≡ true → (k : ℕ) → k < n → test k ≡ true
all_below_at zero test all k h = absurd (omega arith)
all_below_at (suc n) test all k h =
    let both = and_parts _ _ all in
    ⊎_elim (λ e. subst (λ i. test i ≡ true) (sym e) both.0) (λ other. all_below_at n test both.1 k (omega arith)) (cases_eq k n)

implied : (a b : Bool) → (not a || b) ≡ true → a ≡ true → b ≡ true
implied a b h e = ⊎_elim (λ n. absurd (true≢false (sym n ∙ not_from_true a e))) (λ p. p) (or_cases (not a) b h)

-- Costs that may be absent; an absent one is above every number.
abbrev at_most : Option ℕ → Option ℕ → Bool
at_most x None = true
at_most None (Some y) = false
at_most (Some x) (Some y) = leb x y

abbrev plus : ℕ → Option ℕ → Option ℕ
plus c None = None
plus c (Some x) = Some (c + x)

abbrev lesser : Option ℕ → Option ℕ → Option ℕ
lesser None y = y
lesser (Some x) None = Some x
lesser (Some x) (Some y) = Some (min x y)

at_most_plus : (x y : Option ℕ) (c n : ℕ) → at_most x (plus c y) ≡ true → at_most y (Some n) ≡ true → at_most x (Some (c + n)) ≡ true
at_most_plus None (Some y) c n h k = h
at_most_plus (Some x) (Some y) c n h k = le-leb x (c + n) (omega (arith, leb-true x (c + y) h, leb-true y n k))
at_most_plus x None c n h k = absurd (true≢false (sym k))

module _ (m : Meaning) (ends : ℕ → Bool) where
  -- the lists that run from the start to a state of the end
  pub record Arrives (plan : List ℕ) : Type 0 where
    pub runs : RunsAll m m.start plan
    pub there : ends (after m m.start plan) ≡ true

  module _ (table : List (Option ℕ)) where
    abbrev to_go : ℕ → Option ℕ
    to_go s = get_or table s None

    -- what an action from a state allows of the state's cost to go, or asks of the table
    abbrev step_holds : ℕ → ℕ → Bool
    step_holds s a = not (m.runs s a) || (ltb (m.next s a) (length table) && at_most (to_go s) (plus (m.cost a) (to_go (m.next s a))))

    abbrev row_holds : ℕ → Bool
    row_holds s = (not (ends s) || at_most (to_go s) (Some 0)) && all_below m.actions (step_holds s)

    -- no row promises more than its state's end or any step from it costs
    abbrev pub is_bound : Bool
    is_bound = all_below (length table) row_holds

    module _ (limits : Limits m) (bound : is_bound ≡ true) where
      bounds : (plan : List ℕ) (s : ℕ) → s < length table → RunsAll m s plan → ends (after m s plan) ≡ true → at_most (to_go s) (Some (cost_of m plan)) ≡ true
      bounds [] s h r e = implied (ends s) _ (and_parts _ _ (all_below_at (length table) row_holds bound s h)).0 e
      bounds (a ∷ plan) s h r e =
          let row = (and_parts _ _ (all_below_at (length table) row_holds bound s h)).1 in
          let step = and_parts _ _ (implied (m.runs s a) _ (all_below_at m.actions (step_holds s) row a (is_action m limits s a r.0)) r.0) in
          at_most_plus (to_go s) (to_go (m.next s a)) (m.cost a) (cost_of m plan) step.1 (bounds plan (m.next s a) (ltb-true _ _ step.0) r.1 e)

  -- A list of actions that shows a cost.
  abbrev all_run : ℕ → List ℕ → Bool
  all_run s [] = true
  all_run s (a ∷ plan) = m.runs s a && all_run (m.next s a) plan

  runs_all : (plan : List ℕ) (s : ℕ) → all_run s plan ≡ true → RunsAll m s plan
  runs_all [] s h = tt
  runs_all (a ∷ plan) s h = let both = and_parts _ _ h in (both.0, runs_all plan (m.next s a) both.1)

  -- the least cost is that of the table at the start, and the list shows it where there is one
  abbrev is_shown : Option ℕ → Option ℕ → List ℕ → Bool
  is_shown None None plan = true
  is_shown None (Some c) plan = false
  is_shown (Some x) None plan = false
  is_shown (Some x) (Some c) plan = leb c x && (eqb (cost_of m plan) c && (all_run m.start plan && ends (after m m.start plan)))

  abbrev pub is_least : List (Option ℕ) → Option ℕ → List ℕ → Bool
  is_least table c plan = is_bound table && (ltb m.start (length table) && is_shown (to_go table m.start) c plan)

  module _ (limits : Limits m) (table : List (Option ℕ)) where
    shown_least : (x c : Option ℕ) (plan : List ℕ) → ((other : List ℕ) → Arrives other → at_most x (Some (cost_of m other)) ≡ true) → is_shown x c plan ≡ true → LeastCost m Arrives c
    shown_least None None plan low h = λ other a. true≢false (sym (low other a))
    shown_least (Some x) (Some c) plan low h =
        let one = and_parts (leb c x) (eqb (cost_of m plan) c && (all_run m.start plan && ends (after m m.start plan))) h in
        let two = and_parts (eqb (cost_of m plan) c) (all_run m.start plan && ends (after m m.start plan)) one.1 in
        let three = and_parts (all_run m.start plan) (ends (after m m.start plan)) two.1 in
        let cost : cost_of m plan ≡ c = eqb-true _ _ two.0 in
        let arrives : Arrives plan = record { runs = runs_all plan m.start three.0; there = three.1 } in
        (plan, (record { of_kind = arrives; least = λ other a. omega (arith, cost, leb-true c x one.0, leb-true x (cost_of m other) (low other a)) }, cost))
    shown_least None (Some c) plan low h = absurd (true≢false (sym h))
    shown_least (Some x) None plan low h = absurd (true≢false (sym h))

    pub least : (c : Option ℕ) (plan : List ℕ) → is_least table c plan ≡ true → LeastCost m Arrives c
    least c plan h =
        let one = and_parts _ _ h in
        let two = and_parts _ _ one.1 in
        shown_least (to_go table m.start) c plan (λ other a. bounds table limits one.0 other m.start (ltb-true _ _ two.0) a.runs a.there) two.1

  -- Such a table, worked out by rounds: in each, a row takes the best of its steps.
  abbrev best_step : List (Option ℕ) → ℕ → ℕ → Option ℕ
  best_step table s zero = cond (ends s) (Some 0) None
  best_step table s (suc a) = lesser (cond (m.runs s a) (plus (m.cost a) (to_go table (m.next s a))) None) (best_step table s a)

  abbrev tabulate : ℕ → ℕ → (ℕ → Option ℕ) → List (Option ℕ)
  tabulate s zero f = []
  tabulate s (suc n) f = f s ∷ tabulate (suc s) n f

  -- of the states below n
  abbrev pub table_after : ℕ → ℕ → List (Option ℕ)
  table_after zero n = []
  table_after (suc rounds) n = let table = table_after rounds n in tabulate 0 n (λ s. best_step table s m.actions)
