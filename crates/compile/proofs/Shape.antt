-- The compiled card, part by part.
use Rattle.std.proofs.Common.{◌≡◌, ℕ, ◌+◌, ◌-◌, ◌<◌, List, length, refl, ap, ◌∙◌, arith}
use Rattle.std.proofs.lemmas.List.FromFn.{length-map-range_with_len, get_or-map-range_with_len}
use Rattle.std.proofs.lemmas.Bool.{lt-ltb, le-ltb, cond-true, cond-false}
use Rattle.domain.specs.Meaning.{Limits}
use Rattle.cards.specs.Cards.{empty_set, no_action, action_at, goal_at, meaning_of}
use Rattle.cards.specs.Contents.{Contents, InLimits}
use Rattle.cards.specs.Laws.{limits}
use Rattle.compile.specs.Compiled.{with_log, own_action, copy, action_of, goal_of, compiled}
use Rattle.compile.specs.Questions.{Fits}
use Rattle.compile.proofs.CardLimits.{compiled_limits}

-- what the law on plans needs to know of it
pub record Shape (c : Contents) (log : List ℕ) (new : Contents) : Type 0 where
  pub card : InLimits c
  pub asked : Fits c log
  pub fluents : new.fluents ≡ c.fluents + length log
  pub start : new.start ≡ c.start
  pub actions : length new.actions ≡ length c.actions + length log
  pub goals : length new.goals ≡ length c.goals + length c.goals
  pub is_own_action : (a : ℕ) → a < length c.actions → action_at new a ≡ own_action c log a
  pub copied : (j : ℕ) → j < length log → action_at new (length c.actions + j) ≡ copy c log j
  pub own_goal : (g : ℕ) → g < length c.goals → goal_at new g ≡ goal_at c g
  pub log_goal : (g : ℕ) → g < length c.goals → goal_at new (length c.goals + g) ≡ with_log c log (goal_at c g)
  pub in_limits : Limits (meaning_of new)

module _ (c : Contents) (log : List ℕ) (l : InLimits c) (fits : Fits c log) where
  action_at_lem : (a : ℕ) → a < length c.actions + length log → action_at (compiled c log) a ≡ action_of c log a
  action_at_lem a h = get_or-map-range_with_len (action_of c log) 0 (length c.actions + length log) a a no_action h (omega arith)

  goal_at_lem : (g : ℕ) → g < length c.goals + length c.goals → goal_at (compiled c log) g ≡ goal_of c log g
  goal_at_lem g h = get_or-map-range_with_len (goal_of c log) 0 (length c.goals + length c.goals) g g empty_set h (omega arith)

  pub compiled_shape : Shape c log (compiled c log)
  compiled_shape = record {
    card = l;
    asked = fits;
    fluents = refl;
    start = refl;
    actions = length-map-range_with_len (action_of c log) 0 (length c.actions + length log);
    goals = length-map-range_with_len (goal_of c log) 0 (length c.goals + length c.goals);
    is_own_action = λ a h. action_at_lem a (omega arith) ∙ cond-true _ _ _ (lt-ltb a (length c.actions) h);
    copied = λ j h.
        let count = length c.actions in
        let back : count + j - count ≡ j = omega arith in
        action_at_lem (count + j) (omega arith) ∙ cond-false _ _ _ (le-ltb (count + j) count (omega arith)) ∙ ap (copy c log) back;
    own_goal = λ g h. goal_at_lem g (omega arith) ∙ cond-true _ _ _ (lt-ltb g (length c.goals) h);
    log_goal = λ g h.
        let count = length c.goals in
        let back : count + g - count ≡ g = omega arith in
        goal_at_lem (count + g) (omega arith) ∙ cond-false _ _ _ (le-ltb (count + g) count (omega arith)) ∙ ap (λ n. with_log c log (goal_at c n)) back;
    in_limits = limits (compiled c log) (compiled_limits c log l fits);
  }
