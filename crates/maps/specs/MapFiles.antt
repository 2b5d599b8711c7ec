-- A field map's file.
use Rattle.std.specs.Prelude.{ℕ, List, Result}
use Rattle.domain.specs.Rooms.{outcome_in}
use Rattle.domain.specs.declared.fault.ReadFault.{ReadFault}
use Rattle.domain.specs.declared.room.Unfilled.{Unfilled}
use Rattle.files.specs.declared.kind.Kind.TheVariants as kind
use Rattle.formats.specs.Files as files
use Rattle.maps.specs.Contents.{Contents, contents, InLimits}
use Rattle.maps.specs.Limits.{map_of, parts_of}
use Rattle.maps.specs.MapRecords.{move_entry, entry_move, goal_entry, entry_goal}
use Rattle.maps.specs.declared.field_map.FieldMap.{FieldMap}
use Rattle.maps.specs.declared.moves.Move.{Move}
use Rattle.maps.specs.declared.place.Place.{Place}

-- the bytes of a map
abbrev pub map_file : Contents → List ℕ
map_file c = files.parts_file kind.Map move_entry goal_entry (parts_of c)

-- reading a map
abbrev pub read_map : List ℕ → Result Contents ReadFault
read_map bs = files.known_as map_of (files.read_parts kind.Map entry_move entry_goal bs)

-- what a call that reads a map hands back
abbrev pub outcome : Result FieldMap (Unfilled ReadFault Move Place) → Result Contents ReadFault
outcome = outcome_in contents

-- bytes are read as a map exactly when they are that map's file
abbrev pub ReadExactly : List ℕ → Type 0
ReadExactly = files.ReadExactly read_map map_file InLimits
