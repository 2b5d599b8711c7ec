-- The compiled card keeps the limits of a card.
use Rattle.std.proofs.Common.{ℕ, zero, suc, ◌+◌, ◌-◌, ◌<◌, ◌≤◌, eqb, ltb, List, map, length, get_or, arith, pow_mono}
use Rattle.std.specs.List.{range_with_len}
use Rattle.std.proofs.lemmas.Nat.{pow_pos, pow_below, or_lt}
use Rattle.std.proofs.lemmas.List.FromFn.{length-map-range_with_len, get_or-map-range_with_len}
use Rattle.std.proofs.lemmas.Bool.{ltb-true, ltb-false, cond_both}
use Rattle.fluents.specs.declared.FluentSet.{FluentSet}
use Rattle.cards.specs.Cards.{empty_set, no_action, action_at, goal_at}
use Rattle.cards.specs.Contents.{Contents, InLimits}
use Rattle.cards.specs.Limits.{Among, ActionAmong}
use Rattle.plans.specs.Counting.{may_run}
use Rattle.compile.specs.Compiled.{mark, marks, mark_before, with_log, own_action, copy, action_of, goal_of, compiled}
use Rattle.compile.specs.Questions.{Fits}

module _ (c : Contents) (log : List ℕ) (l : InLimits c) (fits : Fits c log) where
  abbrev all : ℕ
  all = c.fluents + length log

  -- a set of the card itself has no fluent but those of the compiled card
  wider : (set : FluentSet) → Among c.fluents set → Among all set
  wider set h = omega (arith, h, pow_mono {i = c.fluents} {j = all} (omega arith))

  none : Among all empty_set
  none = pow_pos all

  mark_among : (entry : ℕ) → entry < length log → Among all (mark c entry)
  mark_among entry h = pow_below (c.fluents + entry) all (omega arith)

  before_among : (entry : ℕ) → entry < length log → Among all (mark_before c entry)
  before_among entry h = cond_both (eqb entry 0) empty_set (mark c (entry - 1)) (Among all) (λ _. none) (λ _. mark_among (entry - 1) (omega arith))

  marks_among : (n : ℕ) → n ≤ length log → Among all (marks c n)
  marks_among zero h = none
  marks_among (suc n) h = or_lt all (marks c n).0 (mark c n).0 (marks_among n (omega arith)) (mark_among n (omega arith))

  own_among : (a : ℕ) → a < length c.actions → ActionAmong all (own_action c log a)
  own_among a h =
      let own = action_at c a in
      let in_card = l.actions_among a no_action h in
      let effect : (set : FluentSet) → Among c.fluents set → Among all _ = λ set among. cond_both (may_run log a own.marked) set empty_set (Among all) (λ _. wider set among) (λ _. none) in
      (wider own.needs in_card.0, effect own.adds in_card.1, effect own.deletes in_card.2, in_card.3)

  copy_among : (entry : ℕ) → entry < length log → ActionAmong all (copy c log entry)
  copy_among entry h =
      let own = action_at c (get_or log entry 0) in
      let in_card = l.actions_among (get_or log entry 0) no_action (fits.entries_below entry h) in (
        or_lt all own.needs.0 (mark_before c entry).0 (wider own.needs in_card.0) (before_among entry h),
        or_lt all own.adds.0 (mark c entry).0 (wider own.adds in_card.1) (mark_among entry h),
        wider own.deletes in_card.2,
        in_card.3,
      )

  action_among : (a : ℕ) → a < length c.actions + length log → ActionAmong all (action_of c log a)
  action_among a h =
      cond_both (ltb a (length c.actions)) (own_action c log a) (copy c log (a - length c.actions)) (ActionAmong all)
      (λ e. own_among a (ltb-true a _ e))
      (λ e. copy_among (a - length c.actions) (omega (arith, ltb-false a (length c.actions) e)))

  goal_among : (g : ℕ) → g < length c.goals + length c.goals → Among all (goal_of c log g)
  goal_among g h =
      let own : (g : ℕ) → g < length c.goals → Among all (goal_at c g) = λ g h. wider (goal_at c g) (l.goals_among g empty_set h) in
      cond_both (ltb g (length c.goals)) (goal_at c g) (with_log c log (goal_at c (g - length c.goals))) (Among all)
      (λ e. own g (ltb-true g _ e))
      (λ e. or_lt all (goal_at c (g - length c.goals)).0 (marks c (length log)).0 (own (g - length c.goals) (omega (arith, ltb-false g (length c.goals) e))) (marks_among (length log) (omega arith)))

  -- a list of so many parts, told by their numbers
  every : {X : Type 0} (P : X → Type 0) (f : ℕ → X) (n : ℕ) → ((a : ℕ) → a < n → P (f a)) → (k : ℕ) (d : X) → k < length (map f (range_with_len 0 n)) → P (get_or (map f (range_with_len 0 n)) k d)
  every P f n each k d h =
      let in_range : k < n = omega (arith, length-map-range_with_len f 0 n) in
      rw (get_or-map-range_with_len f 0 n k k d in_range (omega arith)) (each k in_range)

  pub compiled_limits : InLimits (compiled c log)
  compiled_limits =
      let actions = length-map-range_with_len (action_of c log) 0 (length c.actions + length log) in
      let goals = length-map-range_with_len (goal_of c log) 0 (length c.goals + length c.goals) in
      record {
        fluents_low = omega (arith, l.fluents_low);
        fluents_high = fits.fluents_high;
        actions_low = omega (arith, actions, l.actions_low);
        actions_high = omega (arith, actions, fits.actions_high);
        goals_low = omega (arith, goals, l.goals_low);
        goals_high = omega (arith, goals, fits.goals_high);
        start_among = wider c.start l.start_among;
        actions_among = every (ActionAmong all) (action_of c log) (length c.actions + length log) action_among;
        goals_among = every (Among all) (goal_of c log) (length c.goals + length c.goals) goal_among;
      }
