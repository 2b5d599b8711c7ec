-- What the sample files hold.
use Rattle.std.specs.Prelude.{ℕ, ◌+◌, ◌^◌, Bool, false, List, [], ◌∷◌}
use Rattle.cards.specs.declared.action.Action.{Action}
use Rattle.cards.specs.Contents as card
use Rattle.fluents.specs.declared.FluentSet.{FluentSet}
use Rattle.maps.specs.declared.moves.Move.{Move}
use Rattle.maps.specs.declared.place.Place.{Place}
use Rattle.maps.specs.Contents as map

-- the set of some fluents, each named once
abbrev pub bits_of : List ℕ → ℕ
bits_of [] = 0
bits_of (i ∷ rest) = 2 ^ i + bits_of rest

abbrev pub set_of : List ℕ → FluentSet
set_of fluents = record { 0 = bits_of fluents }

abbrev pub action : List ℕ → List ℕ → List ℕ → ℕ → Bool → Action
action needs adds deletes cost marked = record { needs = set_of needs; adds = set_of adds; deletes = set_of deletes; cost = cost; marked = marked }

-- Fluents: 0 the shutter is closed, 1 the lamp is on, 2 the shutter is open, 3 a flat is taken, 4 a frame is taken.
-- The actions are open, lamp on (which may be marked), flat, frame, lamp off and close.
abbrev pub calibration : Bool → card.Contents
calibration lamp_marked = record {
  fluents = 5;
  start = set_of (0 ∷ []);
  actions =
      action (0 ∷ []) (2 ∷ []) (0 ∷ []) 1 false
      ∷ action [] (1 ∷ []) [] 1 lamp_marked
      ∷ action (0 ∷ 1 ∷ []) (3 ∷ []) [] 2 false
      ∷ action (2 ∷ []) (4 ∷ []) [] 3 false
      ∷ action (1 ∷ []) [] (1 ∷ []) 0 false
      ∷ action (2 ∷ []) (0 ∷ []) (2 ∷ []) 1 false
      ∷ [];
  goals = set_of (3 ∷ []) ∷ set_of (4 ∷ []) ∷ set_of (3 ∷ 4 ∷ []) ∷ [];
}

abbrev pub place : ℕ → Place
place n = record { 0 = n }

abbrev pub move_of : ℕ → ℕ → ℕ → Move
move_of from to cost = record { from = place from; to = place to; cost = cost; marked = false }

abbrev pub slews : map.Contents
slews = record {
  places = 6;
  start = place 0;
  moves = move_of 0 1 2 ∷ move_of 1 2 2 ∷ move_of 0 3 1 ∷ move_of 3 2 3 ∷ move_of 3 4 1 ∷ [];
  goals = place 2 ∷ place 4 ∷ place 5 ∷ [];
}
