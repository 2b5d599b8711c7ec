-- A move and a goal as records of a file.
use Rattle.std.specs.Prelude.{ℕ, min, false, [], ◌∷◌, slice_index}
use Rattle.files.specs.Contents.{Entry}
use Rattle.maps.specs.declared.moves.Move.{Move}
use Rattle.maps.specs.declared.place.Place.{Place}

-- a place takes eight bits
abbrev pub place_of : ℕ → Place
place_of value = record { 0 = min value 255 }

-- a move's record, and the move that is made of one; a cost takes sixteen bits
abbrev pub move_entry : Move → Entry
move_entry m = record { values = m.from.0 ∷ (m.to.0 ∷ (m.cost ∷ [])); marked = m.marked }

abbrev pub entry_move : Entry → Move
entry_move e = record { from = place_of (slice_index e.values 0); to = place_of (slice_index e.values 1); cost = min (slice_index e.values 2) 65535; marked = e.marked }

-- a goal's record, and the goal that is made of one
abbrev pub goal_entry : Place → Entry
goal_entry place = record { values = place.0 ∷ []; marked = false }

abbrev pub entry_goal : Entry → Place
entry_goal e = place_of (slice_index e.values 0)
