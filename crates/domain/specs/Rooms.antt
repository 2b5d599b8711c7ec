-- What a call hands back that puts something into a room.
use Rattle.std.specs.Prelude.{◌≡◌, Ok, Err, vec_capacity, Result}
use Rattle.domain.specs.declared.room.Room.{Room}
use Rattle.domain.specs.declared.room.Unfilled.{Unfilled}

-- what was put there, told in other words, or why nothing was
abbrev pub outcome_in : {X Y E S G : Type 0} → (X → Y) → Result X (Unfilled E S G) → Result Y E
outcome_in words (Ok x) = Ok (words x)
outcome_in words (Err u) = Err u.fault

-- a room is always empty, so only its width can differ
-- Contracts say this beside a result, since the type `Unfilled` cannot name the room that was handed over.
abbrev pub SameRoom : {S G : Type 0} → Room S G → Room S G → Type 0
SameRoom r s = (vec_capacity s.actions ≡ vec_capacity r.actions) × (vec_capacity s.goals ≡ vec_capacity r.goals)
