-- What a file holds, and the bytes that it is written as.
use Rattle.std.specs.Prelude.{◌≡◌, ℕ, ◌+◌, ◌*◌, ◌<◌, ◌≤◌, Bool, if◌then◌else◌, not, ◌&&◌, List, [], ◌∷◌, ◌++◌, length, drop, ◌==◌, nat_lt, slice_index}
use Rattle.std.specs.Int.{from_bool}
use Rattle.std.specs.List.{flat_map, All}
use Rattle.files.specs.declared.field.Field.{Field}
use Rattle.files.specs.declared.kind.Kind.{Kind}
use Rattle.files.specs.declared.kind.Part.{Part}
use Rattle.files.specs.declared.kind.Part.TheVariants.{Action, Goal}
use Rattle.files.specs.Formats.{bytes_of, absent_of, limit_of, letter_of, most_of, start_of, fields_of, is_markable}
use Rattle.files.specs.Numbers.{spelled}

-- a record after the header: the value of each field, absent ones too, and whether it is marked
pub record Entry : Type 0 where
  pub values : List ℕ
  pub marked : Bool

-- the first four values of a record, and 0 for each that it does not have; no record in a file has more
abbrev pub four_of : List ℕ → List ℕ
four_of vs = slice_index vs 0 ∷ (slice_index vs 1 ∷ (slice_index vs 2 ∷ (slice_index vs 3 ∷ [])))

-- a file by what its records stand for; size is how many fluents or places there are
pub record File (S G : Type 0) : Type 0 where
  pub size : ℕ
  pub start : ℕ
  pub actions : List S
  pub goals : List G

-- a file by its bare records
abbrev pub RawFile : Type 0
RawFile = File Entry Entry

-- The bytes of a file.

-- a field is written unless it holds its absent value
abbrev pub is_written : Field → ℕ → Bool
is_written f v = not (v == absent_of f)

-- what a field that is written may hold
abbrev pub may_hold : ℕ → Field → ℕ → Bool
may_hold size f v = nat_lt v (limit_of size f) && is_written f v

-- bit i tells whether field i is written; top stands above the fields' bits
abbrev pub bit_map : List Field → List ℕ → ℕ → ℕ
bit_map [] vs top = top
bit_map (f ∷ fs) vs top = from_bool (is_written f (slice_index vs 0)) + 2 * bit_map fs (drop 1 vs) top

abbrev pub field_bytes : Field → ℕ → List ℕ
field_bytes f v = if is_written f v then spelled (bytes_of f) v else []

abbrev pub all_field_bytes : List Field → List ℕ → List ℕ
all_field_bytes [] vs = []
all_field_bytes (f ∷ fs) vs = field_bytes f (slice_index vs 0) ++ all_field_bytes fs (drop 1 vs)

-- the bit after the last field's is the mark's
abbrev pub mark_bit : Part → Entry → ℕ
mark_bit p e = from_bool (is_markable p && e.marked)

abbrev pub record_bytes : Kind → Part → Entry → List ℕ
record_bytes k p e = bit_map (fields_of k p) e.values (mark_bit p e) ∷ all_field_bytes (fields_of k p) e.values

-- the letter, the counts of fluents or places, actions and goals, and the start
abbrev pub header_bytes : Kind → ℕ → ℕ → ℕ → ℕ → List ℕ
header_bytes k size actions goals start = letter_of k ∷ (spelled 1 size ++ (spelled 1 actions ++ (spelled 1 goals ++ spelled (bytes_of (start_of k)) start)))

abbrev pub file_bytes : Kind → RawFile → List ℕ
file_bytes k f =
    header_bytes k f.size (length f.actions) (length f.goals) f.start
    ++ (flat_map (record_bytes k Action) f.actions ++ flat_map (record_bytes k Goal) f.goals)

-- The files that there can be.

abbrev pub InRange : ℕ → List Field → List ℕ → Type 0
InRange size [] [] = Unit {0}
InRange size [] (v ∷ vs) = ⊥
InRange size (f ∷ fs) [] = ⊥
InRange size (f ∷ fs) (v ∷ vs) = (v < limit_of size f) × InRange size fs vs

-- a value in range for each field, and no mark where there is no bit for it
abbrev pub ValidEntry : Kind → Part → ℕ → Entry → Type 0
ValidEntry k p size e = InRange size (fields_of k p) e.values × ((is_markable p && e.marked) ≡ e.marked)

-- the counts are within limits, and the start, actions and goals are ones that a domain of that size may have
pub record ValidWith {S G : Type 0} (k : Kind) (ValidS : ℕ → S → Type 0) (ValidG : ℕ → G → Type 0) (f : File S G) : Type 0 where
  pub size_low : 1 ≤ f.size
  pub size_high : f.size ≤ most_of k
  pub actions_low : 1 ≤ length f.actions
  pub actions_high : length f.actions ≤ 120
  pub goals_low : 1 ≤ length f.goals
  pub goals_high : length f.goals ≤ 32
  pub start_in : f.start < limit_of f.size (start_of k)
  pub actions_valid : All (ValidS f.size) f.actions
  pub goals_valid : All (ValidG f.size) f.goals

abbrev pub ValidFile : Kind → RawFile → Type 0
ValidFile k f = ValidWith k (ValidEntry k Action) (ValidEntry k Goal) f
