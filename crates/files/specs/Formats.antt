-- The two file formats, as tables.
use Rattle.std.specs.Prelude.{ℕ, ◌+◌, ◌^◌, Bool, true, false, List, [], ◌∷◌, length}
use Rattle.std.specs.Int.{from_bool}
use Rattle.files.specs.declared.field.Field.{Field}
use Rattle.files.specs.declared.field.Field.TheVariants as field
use Rattle.files.specs.declared.kind.Kind.{Kind}
use Rattle.files.specs.declared.kind.Kind.TheVariants.{Card, Map}
use Rattle.files.specs.declared.kind.Part.{Part}
use Rattle.files.specs.declared.kind.Part.TheVariants.{Action, Goal}

-- how many bytes a field takes
abbrev pub bytes_of : Field → ℕ
bytes_of field.Set = 7
bytes_of field.Place = 1
bytes_of field.Cost = 2

-- the value that a field has when it is left out; a field that is written never holds it
abbrev pub absent_of : Field → ℕ
absent_of field.Set = 0
absent_of field.Place = 0
absent_of field.Cost = 1

-- a field's values lie below this, in a domain of so many fluents or places
abbrev pub limit_of : ℕ → Field → ℕ
limit_of size field.Set = 2 ^ size
limit_of size field.Place = size
limit_of size field.Cost = 60001

-- the first byte of a file
abbrev pub letter_of : Kind → ℕ
letter_of Card = 0x53
letter_of Map = 0x4D

-- the most fluents or places
abbrev pub most_of : Kind → ℕ
most_of Card = 55
most_of Map = 64

-- what the start is written as; it is never left out
abbrev pub start_of : Kind → Field
start_of Card = field.Set
start_of Map = field.Place

-- the letter, three counts of one byte each, and the start
abbrev pub header_length : Kind → ℕ
header_length k = 4 + bytes_of (start_of k)

-- the fields of a record, in the order of their bits
abbrev pub fields_of : Kind → Part → List Field
fields_of Card Action = field.Set ∷ field.Set ∷ field.Set ∷ field.Cost ∷ []
fields_of Card Goal = field.Set ∷ []
fields_of Map Action = field.Place ∷ field.Place ∷ field.Cost ∷ []
fields_of Map Goal = field.Place ∷ []

-- an action's record has one bit more, for its mark
abbrev pub is_markable : Part → Bool
is_markable Action = true
is_markable Goal = false

-- how many bits of a record's bit map are defined
abbrev pub bit_count : Kind → Part → ℕ
bit_count k p = length (fields_of k p) + from_bool (is_markable p)
