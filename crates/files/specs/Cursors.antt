-- Reading from a place in a file.
use Rattle.std.specs.Prelude.{ℕ, ◌+◌, true, List, Result}
use Rattle.domain.specs.declared.fault.Position.{Position}
use Rattle.domain.specs.declared.fault.ReadFault.{ReadFault}
use Rattle.files.specs.declared.field.Field.{Field}
use Rattle.files.specs.declared.layout.Layout.{Layout}
use Rattle.files.specs.declared.cursor.Cursor.{Cursor}
use Rattle.files.specs.Contents.{Entry, four_of}
use Rattle.files.specs.Formats.{fields_of}
use Rattle.files.specs.Reading.{position, known_as, read_field, read_fields, read_record, read_records, parts_with}

-- a field that is present
abbrev pub field_at : Cursor → Field → Result (ℕ × ℕ) ReadFault
field_at c f = read_field c.bytes.now c.size c.at.«record» c.at.byte f true

abbrev pub fields_at : Cursor → Layout → ℕ → Result (List ℕ × (ℕ × ℕ)) ReadFault
fields_at c l map = read_fields c.bytes.now c.size c.at.«record» c.at.byte map (fields_of l.kind l.part)

-- fields that were read, their values in an array of four
abbrev pub in_four : Result (List ℕ × (ℕ × ℕ)) ReadFault → Result (List ℕ × ℕ × ℕ) ReadFault
in_four r = known_as (λ x. (four_of x.0, x.1.0, x.1.1)) r

abbrev pub record_at : Cursor → Layout → Result (Entry × ℕ) ReadFault
record_at c l = read_record l.kind l.part c.size c.bytes.now c.at.«record» c.at.byte

-- a byte as a position in the record of a number
abbrev pub placed : {X : Type 0} → ℕ → Result (X × ℕ) ReadFault → Result (X × Position) ReadFault
placed n r = known_as (λ y. (y.0, position n y.1)) r

-- what n records stand for, and the position after them
abbrev pub parts_at : {X : Type 0} → (Entry → X) → Cursor → Layout → ℕ → Result (List X × Position) ReadFault
parts_at make c l n = placed (c.at.«record» + n) (parts_with make (read_records l.kind l.part c.size c.bytes.now n c.at.«record» c.at.byte))
