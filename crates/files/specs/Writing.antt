-- Writing a file into a place.
use Rattle.std.specs.Prelude.{◌≡◌, ℕ, ◌+◌, if◌then◌else◌, List, ◌++◌, map, length, drop, Ok, Err, Result, nat_le}
use Rattle.domain.specs.declared.fault.WriteFault.{WriteFault}
use Rattle.domain.specs.declared.fault.WriteFault.TheVariants.{Place}
use Rattle.std.specs.List.{flat_map}
use Rattle.files.specs.declared.kind.Kind.{Kind}
use Rattle.files.specs.declared.kind.Part.TheVariants.{Action, Goal}
use Rattle.files.specs.declared.layout.Layout.{Layout}
use Rattle.files.specs.Contents.{Entry, RawFile, record_bytes}
use Rattle.files.specs.Formats.{header_length}

-- the answer: how many bytes were written, or that the place is too short
abbrev pub write_outcome : List ℕ → List ℕ → Result ℕ WriteFault
write_outcome bytes place = if nat_le (length bytes) (length place) then Ok (length bytes) else Err Place

-- the place afterwards: the bytes and then its rest, or as it was
abbrev pub place_after : List ℕ → List ℕ → List ℕ
place_after bytes place = if nat_le (length bytes) (length place) then bytes ++ drop (length bytes) place else place

-- bytes stand in the front of a place, and what is behind them is as it was
-- each of the four functions that write asks that the bytes fit, and promises this: a trait with both would need a type for each thing that is written, as a field with its value, or an item with its layout.
pub record Wrote (bytes before after : List ℕ) (count : ℕ) : Type 0 where
  pub count_is : count ≡ length bytes
  pub place_is : after ≡ bytes ++ drop count before

-- a file whose parts are written by given entries
abbrev pub raw_of : {S G : Type 0} → (S → Entry) → (G → Entry) → ℕ → ℕ → List S → List G → RawFile
raw_of written_s written_g size start actions goals = record { size = size; start = start; actions = map written_s actions; goals = map written_g goals }

-- the records of items, one after another
abbrev pub records_of : {X : Type 0} → Layout → (X → Entry) → List X → List ℕ
records_of l written items = flat_map (λ x. record_bytes l.kind l.part (written x)) items

-- how many bytes a file takes
abbrev pub file_length : {S G : Type 0} → Kind → (S → Entry) → (G → Entry) → List S → List G → ℕ
file_length k written_s written_g actions goals =
    header_length k + length (records_of (record { kind = k; part = Action }) written_s actions) + length (records_of (record { kind = k; part = Goal }) written_g goals)
