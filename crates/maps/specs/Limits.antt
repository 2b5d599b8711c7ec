-- The parts of a map and their limits: moves and goals lie among its places, and a cost is at most 60000.
use Rattle.std.specs.Prelude.{ℕ, ◌<◌, ◌≤◌, List, length, All}
use Rattle.files.specs.Contents.{File}
use Rattle.maps.specs.declared.moves.Move.{Move}
use Rattle.maps.specs.declared.place.Place.{Place}

-- the place is one of the first n
abbrev pub Among : ℕ → Place → Type 0
Among n place = place.0 < n

-- the move goes between two of the first n places
abbrev pub MoveAmong : ℕ → Move → Type 0
MoveAmong n m = Among n m.from × Among n m.to × (m.cost ≤ 60000)

pub record Contents : Type 0 where
  pub places : ℕ
  pub start : Place
  pub moves : List Move
  pub goals : List Place

-- the map that a file tells of, and the parts of a map as its file has them
abbrev pub map_of : File Move Place → Contents
map_of f = record { places = f.size; start = record { 0 = f.start }; moves = f.actions; goals = f.goals }

abbrev pub parts_of : Contents → File Move Place
parts_of c = record { size = c.places; start = c.start.0; actions = c.moves; goals = c.goals }

-- the limits of every map
pub record InLimits (c : Contents) : Type 0 where
  pub places_low : 1 ≤ c.places
  pub places_high : c.places ≤ 64
  pub moves_low : 1 ≤ length c.moves
  pub moves_high : length c.moves ≤ 120
  pub goals_low : 1 ≤ length c.goals
  pub goals_high : length c.goals ≤ 32
  pub start_among : Among c.places c.start
  pub moves_among : All (MoveAmong c.places) c.moves
  pub goals_among : All (Among c.places) c.goals
