-- What a card means, told in the words of fluents, and its limits.
use Rattle.std.specs.Prelude.{◌≡◌, ℕ, ◌^◌, ◌<◌, ◌≤◌, ◌↔◌, not, ◌&&◌, ◌||◌, length, IsTrue, bit_and, bit_xor, nat_lt}
use Rattle.std.proofs.Common.{sym, ap, subst, ◌∙◌, ⊎_elim, arith, lit≤}
use Rattle.std.proofs.Math.Bool.{or_comm}
use Rattle.std.proofs.lemmas.Nat.{and_le_l, or_lt, xor_lt}
use Rattle.std.proofs.lemmas.List.{get_or_past}
use Rattle.std.proofs.lemmas.Bool.{cases_Bool, cases_lt, cond-true, cond-false, cond_both, le-ltb}
use Rattle.std.proofs.lemmas.Bool.Decides.{Decides-and, Decides-like, Decides-ltb, not_from_Decides, nat_tests}
use Rattle.domain.specs.Meaning.{Limits}
use Rattle.cards.specs.Cards.{no_action, action_at, goal_at, can_run, meaning_of, Runs, After, Meets}
use Rattle.cards.specs.Contents.{Contents, InLimits, contents}
use Rattle.cards.specs.declared.card.Card.{Card}
use Rattle.fluents.specs.Fluents.{holds, Within, within, changed}
use Rattle.fluents.proofs.Sets.{holds_or, holds_less, same_set, decides_within}

-- the test that `runs` and `meets` share
decides_part : (s top k n x : ℕ) → IsTrue (nat_lt s top && (nat_lt k n && within x s)) ↔ ((s < top) × (k < n) × Within x s)
decides_part s top k n x =
    Decides-like _ (λ h. (h.0, h.1.0, h.1.1)) (λ h. (h.0, (h.1, h.2)))
    (Decides-and (nat_lt s top) (nat_lt k n && within x s) (Decides-ltb s top) (Decides-and (nat_lt k n) (within x s) (Decides-ltb k n) (decides_within x s)))

module _ (c : Contents) (s : ℕ) where
  pub decides_runs : (a : ℕ) → IsTrue ((meaning_of c).runs s a) ↔ Runs c s a
  decides_runs a = decides_part s (2 ^ c.fluents) a (length c.actions) (action_at c a).needs.0

  pub decides_meets : (g : ℕ) → IsTrue ((meaning_of c).meets s g) ↔ Meets c s g
  decides_meets g = decides_part s (2 ^ c.fluents) g (length c.goals) (goal_at c g).0

  -- what is left without the deleted fluents, and then has the added ones
  pub after_from_steps : (a left t : ℕ) → ((i : ℕ) → holds i left ≡ (holds i s && not (holds i (action_at c a).deletes.0))) → ((i : ℕ) → holds i t ≡ (holds i left || holds i (action_at c a).adds.0)) → After c s a t
  after_from_steps a left t without with i = with i ∙ ap (λ b. b || holds i (action_at c a).adds.0) (without i) ∙ or_comm _ (holds i (action_at c a).adds.0)

  after_changed : (a : ℕ) → After c s a (changed s (action_at c a).deletes.0 (action_at c a).adds.0)
  after_changed a =
      let gone = (action_at c a).deletes.0 in
      after_from_steps a (bit_xor s (bit_and s gone)) _ (λ i. holds_less i s gone) (λ i. holds_or i (bit_xor s (bit_and s gone)) (action_at c a).adds.0)

  -- what holds after an action that runs
  pub after_next : (a : ℕ) → Runs c s a → After c s a ((meaning_of c).next s a)
  after_next a r = subst (After c s a) (sym (cond-true (can_run c s a) _ s ((decides_runs a).1 r))) (after_changed a)

  -- the two laws on the state that follows say which state it is
  pub next_from_laws : (a t : ℕ) → (Runs c s a → After c s a t) → ((Runs c s a → ⊥) → t ≡ s) → t ≡ (meaning_of c).next s a
  next_from_laws a t after stays =
      ⊎_elim
      (λ e. same_set _ _ (λ i. after ((decides_runs a).0 e) i ∙ sym (after_changed a i)) ∙ sym (cond-true (can_run c s a) _ s e))
      (λ e. stays (not_from_Decides (can_run c s a) (decides_runs a) e) ∙ sym (cond-false (can_run c s a) _ s e))
      (cases_Bool (can_run c s a))

changed_in : (w s d a : ℕ) → s < 2 ^ w → a < 2 ^ w → changed s d a < 2 ^ w
changed_in w s d a p q = or_lt w (bit_xor s (bit_and s d)) a (xor_lt w s (bit_and s d) p (omega (arith, and_le_l s d))) q

-- a card keeps the limits of every domain
pub limits : (c : Contents) → InLimits c → Limits (meaning_of c)
limits c l = record {
  width_low = l.fluents_low;
  width_high = omega arith;
  actions_low = l.actions_low;
  actions_high = l.actions_high;
  goals_low = l.goals_low;
  goals_high = l.goals_high;
  start_in = l.start_among;
  next_in = λ s a p. cond_both (can_run c s a) _ s (λ t. t < 2 ^ c.fluents) (λ e. changed_in _ s _ _ p (l.actions_among a no_action ((decides_runs c s a).0 e).1).1) (λ _. p);
  cost_high = λ a. ⊎_elim (λ h. (l.actions_among a no_action h).3) (λ (h : length c.actions ≤ a). rw get_or_past (lit≤ tt)) (cases_lt a (length c.actions));
  next_same = λ s a e. cond-false (can_run c s a) _ s e;
  runs_no_state = λ s a h. grind (arith, nat_tests);
  meets_no_state = λ s g h. grind (arith, nat_tests);
  complete_no_state = λ s h. le-ltb s (2 ^ c.fluents) h;
  runs_no_action = λ s a h. grind (arith, nat_tests);
  cost_no_action = λ a h. rw get_or_past;
  marked_no_action = λ a h. rw get_or_past;
  meets_no_goal = λ s g h. grind (arith, nat_tests);
}

-- every card is within its limits
pub in_limits : (c : Card) → InLimits (contents c)
in_limits c = c.in_limits
