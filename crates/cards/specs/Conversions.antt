-- A card's records and what they stand for are made of each other, and its limits are those of its file.
use Rattle.std.proofs.Common.{◌≡◌, ◌↔◌, ℕ, ◌<◌, min, Bool, List, [], ◌∷◌, refl, ap, arith}
use native.Mathlib.Nat.{min-eq_left}
use Rattle.files.specs.declared.kind.Kind.TheVariants as kind
use Rattle.files.specs.declared.kind.Part.TheVariants as part
use Rattle.files.specs.Contents.{File, ValidEntry}
use Rattle.fluents.specs.declared.FluentSet.{FluentSet}
use Rattle.fluents.specs.SetRecords.{set_entry, entry_set}
use Rattle.files.specs.Parts.{Converts, ValidParts}
use Rattle.cards.specs.declared.action.Action.{Action}
use Rattle.cards.specs.ActionRecords.{action_entry, entry_action}
use Rattle.cards.specs.Limits.{Among, ActionAmong, InLimits, card_of}

-- a record and what it stands for
action_read : (n : ℕ) (vs : List ℕ) (m : Bool) → ValidEntry kind.Card part.Action n (record { values = vs; marked = m })
    → ActionAmong n (entry_action (record { values = vs; marked = m })) × (action_entry (entry_action (record { values = vs; marked = m })) ≡ record { values = vs; marked = m })
action_read n [] m v = absurd v.0
action_read n (a ∷ []) m v = absurd v.0.1
action_read n (a ∷ (b ∷ [])) m v = absurd v.0.1.1
action_read n (a ∷ (b ∷ (d ∷ []))) m v = absurd v.0.1.1.1
action_read n (a ∷ (b ∷ (d ∷ (cost ∷ [])))) m v =
    let low : cost < 60001 = v.0.1.1.1.0 in
    let same : min cost 65535 ≡ cost = min-eq_left (omega arith) in
    ((v.0.0, v.0.1.0, v.0.1.1.0, omega arith), ap (λ x. record { values = a ∷ (b ∷ (d ∷ (x ∷ []))); marked = m }) same)
action_read n (a ∷ (b ∷ (d ∷ (cost ∷ (x ∷ xs))))) m v = absurd v.0.1.1.1.1

action_written : (n : ℕ) (a : Action) → ActionAmong n a → ValidEntry kind.Card part.Action n (action_entry a) × (entry_action (action_entry a) ≡ a)
action_written n a h =
    let same : min a.cost 65535 ≡ a.cost = min-eq_left (omega (arith, h.3)) in
    (((h.0, (h.1, (h.2, (omega (arith, h.3), tt)))), refl), ap (λ x. record { needs = a.needs; adds = a.adds; deletes = a.deletes; cost = x; marked = a.marked }) same)

goal_read : (n : ℕ) (vs : List ℕ) (m : Bool) → ValidEntry kind.Card part.Goal n (record { values = vs; marked = m })
    → Among n (entry_set (record { values = vs; marked = m })) × (set_entry (entry_set (record { values = vs; marked = m })) ≡ record { values = vs; marked = m })
goal_read n [] m v = absurd v.0
goal_read n (a ∷ []) m v = (v.0.0, ap (λ b. record { values = a ∷ []; marked = b }) v.1)
goal_read n (a ∷ (b ∷ vs)) m v = absurd v.0.1

pub converts : Converts kind.Card entry_action action_entry entry_set set_entry ActionAmong Among
converts = record {
  action_read = λ n _ e. action_read n e.values e.marked;
  action_written = λ n _. action_written n;
  goal_read = λ n _ e. goal_read n e.values e.marked;
  goal_written = λ n _ set h. (((h, tt), refl), refl);
}

pub same_limits : (f : File Action FluentSet) → InLimits (card_of f) ↔ ValidParts kind.Card entry_action action_entry entry_set set_entry ActionAmong Among f
same_limits f = (
  λ l. record {
    size_low = l.fluents_low;
    size_high = l.fluents_high;
    actions_low = l.actions_low;
    actions_high = l.actions_high;
    goals_low = l.goals_low;
    goals_high = l.goals_high;
    start_in = l.start_among;
    actions_valid = l.actions_among;
    goals_valid = l.goals_among;
  },
  λ v. record {
    fluents_low = v.size_low;
    fluents_high = v.size_high;
    actions_low = v.actions_low;
    actions_high = v.actions_high;
    goals_low = v.goals_low;
    goals_high = v.goals_high;
    start_among = v.start_in;
    actions_among = v.actions_valid;
    goals_among = v.goals_valid;
  },
)
