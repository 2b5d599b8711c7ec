-- What a field map means as a planning domain, and the same in the words of places.
use Rattle.std.specs.Prelude.{◌≡◌, ℕ, ◌^◌, ◌<◌, Bool, false, if◌then◌else◌, ◌&&◌, length, MatchOption, ◌==◌, nat_lt, slice_index_or}
use Rattle.std.specs.List.{slice_get}
use Rattle.domain.specs.Meaning.{Meaning}
use Rattle.maps.specs.Contents.{Contents}
use Rattle.maps.specs.declared.moves.Move.{Move}
use Rattle.maps.specs.declared.place.Place.{Place}

abbrev pub first_place : Place
first_place = record { 0 = 0 }

-- stands for a move that is not there: it costs nothing and is not marked
abbrev pub no_move : Move
no_move = record { from = first_place; to = first_place; cost = 0; marked = false }

abbrev pub move_at : Contents → ℕ → Move
move_at c a = slice_index_or c.moves a no_move

-- the place of a goal
abbrev pub goal_at : Contents → ℕ → Place
goal_at c g = slice_index_or c.goals g first_place

abbrev pub can_run : Contents → ℕ → ℕ → Bool
can_run c s a = nat_lt a (length c.moves) && s == (move_at c a).from.0

-- a state is the number of a place, of which there are at most 64
abbrev pub meaning_of : Contents → Meaning
meaning_of c = record {
  width = 6;
  actions = length c.moves;
  goals = length c.goals;
  start = c.start.0;
  runs = can_run c;
  next = λ s a. if can_run c s a then (move_at c a).to.0 else s;
  cost = λ a. (move_at c a).cost;
  marked = λ a. (move_at c a).marked;
  meets = λ s g. nat_lt g (length c.goals) && (s == (goal_at c g).0);
  complete = λ s. nat_lt s (2 ^ 6);
}

-- In the words of places.

-- a move runs in a state when it is one of the map's and the state is the place that it leaves
abbrev pub Runs : Contents → ℕ → ℕ → Type 0
Runs c s a = (a < length c.moves) × (s ≡ (move_at c a).from.0)

-- a goal is met in a state when it is one of the map's and the state is its place
abbrev pub Meets : Contents → ℕ → ℕ → Type 0
Meets c s g = (g < length c.goals) × (s ≡ (goal_at c g).0)

-- the cost of the map's own move, and 0 where there is none of that number
abbrev pub OwnCost : Contents → ℕ → ℕ → Type 0
OwnCost c a r = MatchOption (slice_get c.moves a) (r ≡ 0) (λ own. r ≡ own.cost)

-- its mark, and no where there is none
abbrev pub OwnMark : Contents → ℕ → Bool → Type 0
OwnMark c a r = MatchOption (slice_get c.moves a) (r ≡ false) (λ own. r ≡ own.marked)
