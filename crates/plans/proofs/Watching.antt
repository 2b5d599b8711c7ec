-- A watched domain runs as the domain below does, and counts the entries of its log.
use Rattle.std.proofs.Common.{◌≡◌, ℕ, ◌+◌, ◌*◌, ◌%◌, ◌^◌, ◌<◌, ◌≤◌, true, ◌&&◌, eqb, ltb, leb, List, [], ◌∷◌, length, sym, refl, ap, ◌∙◌, subst, ⊎_elim, mod-eq_of_lt, mul_comm, mul-zero, arith}
use native.Mathlib.Nat.{div-add-mod, pow-le-pow_right}
use Rattle.std.proofs.lemmas.Nat.{pow-add, pow_pos, mul-le, mod_below, shr_high, mod_low}
use Rattle.std.proofs.lemmas.Bool.Decides.{nat_tests}
use Rattle.std.proofs.lemmas.Bool.{cases_Bool, and_parts, and_from, or_cases, or_left, or_right, leb-true, le-leb, lt-ltb, ltb-true, eqb-true, eq-eqb, cond-true, cond-false, true≢false}
use Rattle.plans.specs.Logs.{occurs, Carries, Logged, Admitted}
use Rattle.domain.specs.Meaning.{Meaning, Limits}
use Rattle.plans.specs.Plans.{after, RunsAll, PlanFor}
use Rattle.plans.specs.Counting.{may_run, advance, advance_all}
use Rattle.plans.specs.Laws.{Watchable, last_state, PlanLaws, WholeLaws}
use Rattle.plans.specs.Watched.{extra_bits, log_over, below, count, joined_state, watched_by, watched}
use Rattle.plans.proofs.Carrying.{advance_low, counted_carries, carries_counted}
use Rattle.plans.proofs.Marks.{may_logged, logged_may}

module _ (d : Meaning) (log : List ℕ) (ok : Watchable d log) where
  -- the log is followed whole
  over : log_over d log ≡ log
  over = grind (arith, nat_tests, ok.wide)

  -- a state below and a count up to the log's length
  record At (x s k : ℕ) : Type 0 where
    state : s < 2 ^ d.width
    low : k ≤ length log
    is : x ≡ joined_state d s k

  module _ (x s k : ℕ) (at : At x s k) where
    shifted : x ≡ k * 2 ^ d.width + s
    shifted = omega (arith, at.is, mul_comm (2 ^ d.width) k)

    at_below : below d x ≡ s
    at_below = rw shifted (mod_low k d.width s at.state)

    at_count : count d x ≡ k
    at_count = rw shifted (shr_high k d.width s at.state)

    room : x < 2 ^ (d.width + extra_bits d)
    room =
        let w = 2 ^ d.width in
        let few : k ≤ 20 = omega (arith, at.low, ok.few) in
        grind (arith, nat_tests, at.is, at.state, pow-add 2 d.width 5, mul-le w k w 20 (omega arith) few, ok.wide, mul-zero w)

    at_room : ltb x (2 ^ (d.width + extra_bits d)) ≡ true
    at_room = lt-ltb x (2 ^ (d.width + extra_bits d)) room

    -- what runs there, and what follows
    at_runs : (a : ℕ) → (watched d log).runs x a ≡ (d.runs s a && may_run log a (d.marked a))
    at_runs a =
        let within : leb (count d x) (length (log_over d log)) ≡ true = ap (λ l. leb (count d x) (length l)) over ∙ le-leb (count d x) (length log) (omega (arith, at_count, at.low)) in
        rw (at_room, within, at_below, over) refl

    at_next : (a : ℕ) → (watched d log).runs x a ≡ true → At ((watched d log).next x a) (d.next s a) (advance log k a)
    at_next a r = record {
      state = ok.limits.next_in s a at.state;
      low = advance_low log k a at.low;
      is =
          cond-true _ _ x r ∙ rw (at_below, over, at_count) refl;
    }

    at_meets : (g : ℕ) → (watched d log).meets x g ≡ d.meets s g
    at_meets g = rw (at_room, at_below) refl

    at_complete : (watched d log).complete x ≡ (d.complete s && eqb k (length log))
    at_complete =
        rw (at_room, at_below, at_count, over) refl

  -- a list of actions, run in both
  ran_below : (plan : List ℕ) (x s k : ℕ) → At x s k → RunsAll (watched d log) x plan → RunsAll d s plan × Logged d log plan × At (after (watched d log) x plan) (after d s plan) (advance_all log k plan)
  ran_below [] x s k at r = (tt, (λ a o m. absurd (true≢false (sym o))), at)
  ran_below (b ∷ plan) x s k at r =
      let both = and_parts _ _ (sym (at_runs x s k at b) ∙ r.0) in
      let rest = ran_below plan ((watched d log).next x b) (d.next s b) (advance log k b) (at_next x s k at b r.0) r.1 in
      let here : Logged d log (b ∷ plan) = λ a o m. ⊎_elim (λ e. subst (λ c. occurs c log ≡ true) (eqb-true b a e) (may_logged log b (d.marked b) both.1 (subst (λ c. d.marked c ≡ true) (sym (eqb-true b a e)) m))) (λ later. rest.1 a later m) (or_cases _ _ o) in
      ((both.0, rest.0), here, rest.2)

  runs_above : (plan : List ℕ) (x s k : ℕ) → At x s k → RunsAll d s plan → Logged d log plan → RunsAll (watched d log) x plan
  runs_above [] x s k at r l = tt
  runs_above (b ∷ plan) x s k at r l =
      let here : (watched d log).runs x b ≡ true = at_runs x s k at b ∙ and_from _ _ r.0 (logged_may log b (d.marked b) (l b (or_left _ _ (eq-eqb b b refl)))) in
      (here, runs_above plan ((watched d log).next x b) (d.next s b) (advance log k b) (at_next x s k at b here) r.1 (λ a o m. l a (or_right _ _ o) m))

  at_start : At (watched d log).start d.start 0
  at_start = record { state = ok.limits.start_in; low = omega arith; is = omega (arith, mul-zero (2 ^ d.width)) }

  plan_admitted : (g : ℕ) (plan : List ℕ) → PlanFor (watched d log) g plan → Admitted d log g plan
  plan_admitted g plan p =
      let ran = ran_below plan d.start d.start 0 at_start p.runs in
      record { plan_for = record { runs = ran.0; meets = sym (at_meets _ _ _ ran.2 g) ∙ p.meets }; logged = ran.1 }

  admitted_plan : (g : ℕ) (plan : List ℕ) → Admitted d log g plan → PlanFor (watched d log) g plan
  admitted_plan g plan p =
      let runs = runs_above plan d.start d.start 0 at_start p.plan_for.runs p.logged in
      let ran = ran_below plan d.start d.start 0 at_start runs in
      record { runs = runs; meets = at_meets _ _ _ ran.2 g ∙ p.plan_for.meets }

  module _ (g : ℕ) (plan : List ℕ) (p : Admitted d log g plan) where
    last : At (last_state d log plan) (after d d.start plan) (advance_all log 0 plan)
    last = (ran_below plan d.start d.start 0 at_start (admitted_plan g plan p).runs).2

    complete_carries : (watched d log).complete (last_state d log plan) ≡ true → Carries log plan × (d.complete (after d d.start plan) ≡ true)
    complete_carries e =
        let both = and_parts _ _ (sym (at_complete _ _ _ last) ∙ e) in
        (counted_carries log plan 0 (omega arith) (eqb-true (advance_all log 0 plan) (length log) both.1), both.0)

    carries_complete : Carries log plan → d.complete (after d d.start plan) ≡ true → (watched d log).complete (last_state d log plan) ≡ true
    carries_complete c e = at_complete _ _ _ last ∙ and_from _ _ e (eq-eqb (advance_all log 0 plan) (length log) (carries_counted log plan 0 (omega arith) c))

  pub plan_laws : PlanLaws d log
  plan_laws = record { plan_admitted = plan_admitted; admitted_plan = admitted_plan; complete_carries = complete_carries; carries_complete = carries_complete }

  pub whole_laws : WholeLaws d log
  whole_laws = record {
    complete_whole = λ g plan p.
        let admitted = plan_admitted g plan p.plan_for in
        let both = complete_carries g plan admitted p.complete in
        record { admitted = admitted; carries = both.0; complete = both.1 };
    whole_complete = λ g plan w. record { plan_for = admitted_plan g plan w.admitted; complete = carries_complete g plan w.admitted w.carries w.complete };
  }

-- The limits of a watched domain. A state that an action runs in has its two parts.
module _ (d : Meaning) (log : List ℕ) (ok : Watchable d log) where
  parts_at : (x : ℕ) → count d x ≤ length log → At d log ok x (below d x) (count d x)
  parts_at x h = record {
    state = mod_below x (2 ^ d.width) (pow_pos d.width);
    low = h;
    is = omega (arith, div-add-mod x (2 ^ d.width));
  }

  run_at : (x a : ℕ) → (watched d log).runs x a ≡ true → At d log ok x (below d x) (count d x)
  run_at x a r =
      let within = (and_parts _ _ (and_parts _ _ r).1).0 in
      parts_at x (leb-true (count d x) (length log) (ap (λ l. leb (count d x) (length l)) (sym (over d log ok)) ∙ within))

  next_room : (x a : ℕ) → (watched d log).runs x a ≡ true → (watched d log).next x a < 2 ^ (d.width + extra_bits d)
  next_room x a r = ltb-true _ _ (at_room d log ok _ _ _ (at_next d log ok x (below d x) (count d x) (run_at x a r) a r))

  limits_of : Limits (watched d log)
  limits_of = record {
    width_low = omega (arith, ok.limits.width_low);
    width_high = grind (arith, nat_tests, ok.limits.width_high);
    actions_low = ok.limits.actions_low;
    actions_high = ok.limits.actions_high;
    goals_low = ok.limits.goals_low;
    goals_high = ok.limits.goals_high;
    start_in = ltb-true _ _ (at_room d log ok _ _ _ (at_start d log ok));
    next_in = λ x a h. ⊎_elim (next_room x a) (λ r. rw (cond-false _ _ x r) h) (cases_Bool ((watched d log).runs x a));
    cost_high = ok.limits.cost_high;
    next_same = λ x a r. cond-false _ _ x r;
    runs_no_state = λ x a h. grind (arith, nat_tests);
    meets_no_state = λ x g h. grind (arith, nat_tests);
    complete_no_state = λ x h. grind (arith, nat_tests);
    runs_no_action = λ x a h. grind (arith, ok.limits.runs_no_action (below d x) a h);
    cost_no_action = ok.limits.cost_no_action;
    marked_no_action = λ a h. refl;
    meets_no_goal = λ x g h. grind (arith, ok.limits.meets_no_goal (below d x) g h);
  }

-- a log that is followed is watchable over every domain
module _ (d : Meaning) (log : List ℕ) (l : Limits d) (few : length log ≤ 20) where
  pub over_watchable : Watchable d (log_over d log)
  over_watchable = record {
    limits = l;
    few = grind (arith, nat_tests);
    wide = λ h. grind (arith, nat_tests);
  }

  over_same : watched d (log_over d log) ≡ watched d log
  over_same = ap (watched_by d) (over d (log_over d log) over_watchable)

  pub watched_limits : Limits (watched d log)
  watched_limits = subst Limits over_same (limits_of d (log_over d log) over_watchable)

  -- the next state takes at most 60 bits
  pub next_fits : (x a : ℕ) → (watched d log).runs x a ≡ true → joined_state d (d.next (below d x) a) (advance (log_over d log) (count d x) a) < 2 ^ 60
  next_fits x a r =
      let same : (watched d log).next x a ≡ joined_state d (d.next (below d x) a) (advance (log_over d log) (count d x) a) = cond-true _ _ x r in
      let w : Limits (watched d log) = watched_limits in
      let in-state : x < 2 ^ (d.width + extra_bits d) = ltb-true _ _ (and_parts _ _ r).0 in
      let narrow : 2 ^ (d.width + extra_bits d) ≤ 2 ^ 60 = pow-le-pow_right {n = 2} (omega arith) {i = d.width + extra_bits d} {j = 60} w.width_high in
      omega (arith, same, w.next_in x a in-state)

  -- the two parts put together by a shift, which loses nothing
  pub next_sum : (x a n k w : ℕ) → (watched d log).runs x a ≡ true → n ≡ d.next (below d x) a → k ≡ advance (log_over d log) (count d x) a → w ≡ d.width
      → (n + (k * 2 ^ w) % 18446744073709551616 ≡ (watched d log).next x a) × (n + (k * 2 ^ w) % 18446744073709551616 < 2 ^ 60)
  next_sum x a n k w r en ek ew =
      let s = d.next (below d x) a in
      let m = advance (log_over d log) (count d x) a in
      let fits : s + 2 ^ d.width * m < 2 ^ 60 = next_fits x a r in
      let turned : k * 2 ^ w ≡ 2 ^ d.width * m = rw (ek, ew) (mul_comm m (2 ^ d.width)) in
      let whole : (k * 2 ^ w) % 18446744073709551616 ≡ 2 ^ d.width * m = rw turned (mod-eq_of_lt (omega arith)) in
      let sum : n + (k * 2 ^ w) % 18446744073709551616 ≡ s + 2 ^ d.width * m = omega arith in
      (sum ∙ sym (cond-true _ _ x r), omega arith)
