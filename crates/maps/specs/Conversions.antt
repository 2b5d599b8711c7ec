-- A map's records and what they stand for are made of each other, and its limits are those of its file.
use Rattle.std.proofs.Common.{◌≡◌, ◌↔◌, ℕ, ◌<◌, ◌≤◌, min, Bool, false, List, [], ◌∷◌, refl, ap, ◌∙◌, arith}
use native.Mathlib.Nat.{min-eq_left}
use Rattle.files.specs.declared.kind.Kind.TheVariants as kind
use Rattle.files.specs.declared.kind.Part.TheVariants as part
use Rattle.files.specs.Contents.{File, ValidEntry}
use Rattle.files.specs.Parts.{Converts, ValidParts}
use Rattle.maps.specs.declared.moves.Move.{Move}
use Rattle.maps.specs.declared.place.Place.{Place}
use Rattle.maps.specs.Limits.{Among, MoveAmong, InLimits, map_of}
use Rattle.maps.specs.MapRecords.{move_entry, entry_move, goal_entry, entry_goal}

-- a record and what it stands for
small : (n v : ℕ) → n ≤ 64 → v < n → min v 255 ≡ v
small n v h l = min-eq_left (omega arith)

move_read : (n : ℕ) → n ≤ 64 → (vs : List ℕ) (m : Bool) → ValidEntry kind.Map part.Action n (record { values = vs; marked = m })
    → MoveAmong n (entry_move (record { values = vs; marked = m })) × (move_entry (entry_move (record { values = vs; marked = m })) ≡ record { values = vs; marked = m })
move_read n h [] m v = absurd v.0
move_read n h (a ∷ []) m v = absurd v.0.1
move_read n h (a ∷ (b ∷ [])) m v = absurd v.0.1.1
move_read n h (a ∷ (b ∷ (cost ∷ []))) m v =
    let low : cost < 60001 = v.0.1.1.0 in
    let from = small n a h v.0.0 in
    let to = small n b h v.0.1.0 in
    let same : min cost 65535 ≡ cost = min-eq_left (omega arith) in (
      (omega (arith, from, v.0.0), omega (arith, to, v.0.1.0), omega arith),
      ap (λ x. record { values = x ∷ (min b 255 ∷ (min cost 65535 ∷ [])); marked = m }) from
          ∙ ap (λ x. record { values = a ∷ (x ∷ (min cost 65535 ∷ [])); marked = m }) to
          ∙ ap (λ x. record { values = a ∷ (b ∷ (x ∷ [])); marked = m }) same,
    )
move_read n h (a ∷ (b ∷ (cost ∷ (x ∷ xs)))) m v = absurd v.0.1.1.1

move_written : (n : ℕ) → n ≤ 64 → (m : Move) → MoveAmong n m → ValidEntry kind.Map part.Action n (move_entry m) × (entry_move (move_entry m) ≡ m)
move_written n h m l =
    let same : min m.cost 65535 ≡ m.cost = min-eq_left (omega (arith, l.2)) in (
      ((l.0, (l.1, (omega (arith, l.2), tt))), refl),
      ap (λ x. record { from = record { 0 = x }; to = record { 0 = min m.to.0 255 }; cost = min m.cost 65535; marked = m.marked }) (small n m.from.0 h l.0)
          ∙ ap (λ x. record { from = m.from; to = record { 0 = x }; cost = min m.cost 65535; marked = m.marked }) (small n m.to.0 h l.1)
          ∙ ap (λ x. record { from = m.from; to = m.to; cost = x; marked = m.marked }) same,
    )

goal_read : (n : ℕ) → n ≤ 64 → (vs : List ℕ) (m : Bool) → ValidEntry kind.Map part.Goal n (record { values = vs; marked = m })
    → Among n (entry_goal (record { values = vs; marked = m })) × (goal_entry (entry_goal (record { values = vs; marked = m })) ≡ record { values = vs; marked = m })
goal_read n h [] m v = absurd v.0
goal_read n h (a ∷ []) m v =
    let same = small n a h v.0.0 in
    (omega (arith, same, v.0.0), ap (λ x. record { values = x ∷ []; marked = false }) same ∙ ap (λ b. record { values = a ∷ []; marked = b }) v.1)
goal_read n h (a ∷ (b ∷ vs)) m v = absurd v.0.1

pub converts : Converts kind.Map entry_move move_entry entry_goal goal_entry MoveAmong Among
converts = record {
  action_read = λ n h e. move_read n h e.values e.marked;
  action_written = move_written;
  goal_read = λ n h e. goal_read n h e.values e.marked;
  goal_written = λ n h place l. (((l, tt), refl), ap (λ x. record { 0 = x }) (small n place.0 h l));
}

pub same_limits : (f : File Move Place) → InLimits (map_of f) ↔ ValidParts kind.Map entry_move move_entry entry_goal goal_entry MoveAmong Among f
same_limits f = (
  λ l. record {
    size_low = l.places_low;
    size_high = l.places_high;
    actions_low = l.moves_low;
    actions_high = l.moves_high;
    goals_low = l.goals_low;
    goals_high = l.goals_high;
    start_in = l.start_among;
    actions_valid = l.moves_among;
    goals_valid = l.goals_among;
  },
  λ v. record {
    places_low = v.size_low;
    places_high = v.size_high;
    moves_low = v.actions_low;
    moves_high = v.actions_high;
    goals_low = v.goals_low;
    goals_high = v.goals_high;
    start_among = v.start_in;
    moves_among = v.actions_valid;
    goals_among = v.goals_valid;
  },
)
