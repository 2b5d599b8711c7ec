-- A set as a record of a file.
use Rattle.std.specs.Prelude.{ℕ, false, [], ◌∷◌, slice_index}
use Rattle.files.specs.Contents.{Entry}
use Rattle.fluents.specs.declared.FluentSet.{FluentSet}

-- the set that a number stands for
abbrev pub set_of : ℕ → FluentSet
set_of bits = record { 0 = bits }

-- a set's record, and the set that is made of one
abbrev pub set_entry : FluentSet → Entry
set_entry set = record { values = set.0 ∷ []; marked = false }

abbrev pub entry_set : Entry → FluentSet
entry_set e = set_of (slice_index e.values 0)
