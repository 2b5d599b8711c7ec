-- One action of the compiled card, beside the action of the card that it comes from.
use Rattle.std.proofs.Common.{◌≡◌, ℕ, ◌+◌, ◌-◌, ◌^◌, ◌<◌, ◌≤◌, true, false, ◌||◌, eqb, List, length, get_or, sym, ap, ◌∙◌, subst, arith}
use Rattle.std.proofs.Math.Bool.{and-true, or-false}
use Rattle.std.proofs.lemmas.Bool.{ne_eqb, eqb-false, cond-true, cond-false, cond_both}
use Rattle.fluents.specs.Fluents.{holds, Within}
use Rattle.fluents.specs.declared.FluentSet.{FluentSet}
use Rattle.fluents.proofs.Sets.{holds_or, holds_one, holds_past}
use Rattle.cards.specs.Cards.{empty_set, no_action, action_at, meaning_of, Runs}
use Rattle.cards.specs.Contents.{Contents}
use Rattle.cards.specs.Limits.{Among, ActionAmong}
use Rattle.cards.specs.Laws.{limits, after_next}
use Rattle.plans.specs.Counting.{may_run}
use Rattle.compile.specs.Compiled.{mark, mark_before, effect}
use Rattle.compile.proofs.Shape.{Shape}
use Rattle.compile.proofs.Unions.{first_ones, holds_none, within_none, within_one, one_within, within_both, both_within}

module _ (c new : Contents) where
  -- a state x of the compiled card that has the card's own fluents as the state s has them
  pub record Over (x s : ℕ) : Type 0 where
    pub state : x < 2 ^ new.fluents
    pub below : s < 2 ^ c.fluents
    pub same : (i : ℕ) → i < c.fluents → holds i x ≡ holds i s

  -- a set of the card's own fluents holds in both or in neither
  module _ (x s : ℕ) (over : Over x s) (set : ℕ) (own : set < 2 ^ c.fluents) where
    pub within_below : Within set x → Within set s
    within_below h i t = sym (over.same i (first_ones c.fluents set i own t)) ∙ h i t

    pub within_above : Within set s → Within set x
    within_above h i t = over.same i (first_ones c.fluents set i own t) ∙ h i t

-- the mark before an entry's own
module _ (c : Contents) (x j : ℕ) where
  pub before_holds : Within (mark_before c j).0 x → 0 < j → holds (c.fluents + (j - 1)) x ≡ true
  before_holds h later = one_within x (c.fluents + (j - 1)) (subst (λ (set : FluentSet). Within set.0 x) (cond-false (eqb j 0) empty_set (mark c (j - 1)) (ne_eqb j 0 (λ e. omega arith))) h)

  pub holds_before : (0 < j → holds (c.fluents + (j - 1)) x ≡ true) → Within (mark_before c j).0 x
  holds_before h = cond_both (eqb j 0) empty_set (mark c (j - 1)) (λ set. Within set.0 x)
      (λ _. within_none x)
      (λ e. let other = eqb-false j 0 e in within_one x (c.fluents + (j - 1)) (h (omega arith)))

module _ (c : Contents) (log : List ℕ) (new : Contents) (shape : Shape c log new) (x s : ℕ) (over : Over c new x s) where
  -- two actions that change the card's own fluents alike
  record Alike (b a : ℕ) : Type 0 where
    adds : (i : ℕ) → i < c.fluents → holds i (action_at new b).adds.0 ≡ holds i (action_at c a).adds.0
    deletes : (i : ℕ) → i < c.fluents → holds i (action_at new b).deletes.0 ≡ holds i (action_at c a).deletes.0

  next_over : (b a : ℕ) → Alike b a → Runs new x b → Runs c s a → Over c new ((meaning_of new).next x b) ((meaning_of c).next s a)
  next_over b a alike rx rs = record {
    state = shape.in_limits.next_in x b over.state;
    below = (limits c shape.card).next_in s a over.below;
    same = λ i h. cc (after_next new x b rx i, alike.adds i h, over.same i h, alike.deletes i h, after_next c s a rs i);
  }

  -- a fluent that is not deleted
  next_kept : (b i : ℕ) → Runs new x b → holds i (action_at new b).deletes.0 ≡ false → holds i ((meaning_of new).next x b) ≡ (holds i (action_at new b).adds.0 || holds i x)
  next_kept b i r e = cc (after_next new x b r i, and-true (holds i x))

  -- an action of the card itself
  module _ (a : ℕ) (h : a < length c.actions) where
    in_card : ActionAmong c.fluents (action_at c a)
    in_card = shape.card.actions_among a no_action h

    pub own_runs_below : Runs new x a → Runs c s a
    own_runs_below r = (over.below, h, within_below c new x s over (action_at c a).needs.0 in_card.0 (rw (shape.is_own_action a h) at r.2))

    pub own_runs_above : Runs c s a → Runs new x a
    own_runs_above r = (over.state, omega (arith, shape.actions, h), rw (shape.is_own_action a h) (within_above c new x s over (action_at c a).needs.0 in_card.0 r.2))

    pub own_cost : (meaning_of new).cost a ≡ (meaning_of c).cost a
    own_cost = rw (shape.is_own_action a h)

    -- a set that it adds or deletes has no mark
    effect_past : (set : FluentSet) → Among c.fluents set → (i : ℕ) → c.fluents ≤ i → holds i (effect log a (action_at c a).marked set).0 ≡ false
    effect_past set own i high = cond_both (may_run log a (action_at c a).marked) set empty_set (λ t. holds i t.0 ≡ false) (λ _. holds_past c.fluents i set.0 own high) (λ _. holds_none i)

    pub own_marks : Runs new x a → (i : ℕ) → c.fluents ≤ i → holds i ((meaning_of new).next x a) ≡ holds i x
    own_marks r i high =
        let adds : holds i (action_at new a).adds.0 ≡ false = rw (shape.is_own_action a h) (effect_past (action_at c a).adds in_card.1 i high) in
        cc (next_kept a i r (rw (shape.is_own_action a h) (effect_past (action_at c a).deletes in_card.2 i high)))

    -- one that may run changes what the card's action changes
    pub own_over : may_run log a (action_at c a).marked ≡ true → Runs new x a → Over c new ((meaning_of new).next x a) ((meaning_of c).next s a)
    own_over may r =
        let kept : (set : FluentSet) (i : ℕ) → holds i (effect log a (action_at c a).marked set).0 ≡ holds i set.0 = λ set i. ap (λ (t : FluentSet). holds i t.0) (cond-true _ set empty_set may) in
        let alike : Alike a a = record {
          adds = λ i _. rw (shape.is_own_action a h) (kept (action_at c a).adds i);
          deletes = λ i _. rw (shape.is_own_action a h) (kept (action_at c a).deletes i);
        } in
        next_over a a alike r (own_runs_below r)

    -- one that may not changes nothing
    pub idle_over : may_run log a (action_at c a).marked ≡ false → Runs new x a → Over c new ((meaning_of new).next x a) s
    idle_over idle r =
        let lost : (set : FluentSet) (i : ℕ) → holds i (effect log a (action_at c a).marked set).0 ≡ false = λ set i. ap (λ (t : FluentSet). holds i t.0) (cond-false _ set empty_set idle) ∙ holds_none i in
        record {
          state = shape.in_limits.next_in x a over.state;
          below = over.below;
          same = λ i low.
              let adds : holds i (action_at new a).adds.0 ≡ false = rw (shape.is_own_action a h) (lost (action_at c a).adds i) in
              cc (next_kept a i r (rw (shape.is_own_action a h) (lost (action_at c a).deletes i)), over.same i low);
        }

  -- the copy of an entry
  module _ (j : ℕ) (h : j < length log) where
    abbrev of : ℕ
    of = get_or log j 0

    abbrev number : ℕ
    number = length c.actions + j

    in_log : ActionAmong c.fluents (action_at c of)
    in_log = shape.card.actions_among of no_action (shape.asked.entries_below j h)

    pub copy_runs_below : Runs new x number → Runs c s of × Within (mark_before c j).0 x
    copy_runs_below r =
        let both = both_within x (action_at c of).needs.0 (mark_before c j).0 (rw (shape.copied j h) at r.2) in
        ((over.below, shape.asked.entries_below j h, within_below c new x s over (action_at c of).needs.0 in_log.0 both.0), both.1)

    pub copy_runs_above : Runs c s of → Within (mark_before c j).0 x → Runs new x number
    copy_runs_above r before = (
      over.state,
      omega (arith, shape.actions, h),
      rw (shape.copied j h) (within_both x (action_at c of).needs.0 (mark_before c j).0 (within_above c new x s over (action_at c of).needs.0 in_log.0 r.2) before),
    )

    pub copy_cost : (meaning_of new).cost number ≡ (meaning_of c).cost of
    copy_cost = rw (shape.copied j h)

    pub copy_over : Runs new x number → Over c new ((meaning_of new).next x number) ((meaning_of c).next s of)
    copy_over r =
        let alike : Alike number of = record {
          adds = λ i low. rw (shape.copied j h) (cc (holds_or i (action_at c of).adds.0 (mark c j).0, holds_one (c.fluents + j) i, ne_eqb i (c.fluents + j) (λ e. omega arith), or-false (holds i (action_at c of).adds.0)));
          deletes = λ i _. rw (shape.copied j h);
        } in
        next_over number of alike r (copy_runs_below r).0

    pub copy_marks : Runs new x number → (i : ℕ) → c.fluents ≤ i → holds i ((meaning_of new).next x number) ≡ (eqb i (c.fluents + j) || holds i x)
    copy_marks r i high =
        let adds : holds i (action_at new number).adds.0 ≡ eqb i (c.fluents + j) = rw (shape.copied j h) (cc (holds_or i (action_at c of).adds.0 (mark c j).0, holds_past c.fluents i (action_at c of).adds.0 in_log.1 high, holds_one (c.fluents + j) i)) in
        cc (next_kept number i r (rw (shape.copied j h) (holds_past c.fluents i (action_at c of).deletes.0 in_log.2 high)))
