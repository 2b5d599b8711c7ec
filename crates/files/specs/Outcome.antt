-- What a call that reads a file hands back.
use Rattle.std.specs.Prelude.{vec_items, Result}
use Rattle.domain.specs.Rooms.{outcome_in}
use Rattle.domain.specs.declared.fault.ReadFault.{ReadFault}
use Rattle.domain.specs.declared.room.Unfilled.{Unfilled}
use Rattle.files.specs.declared.file.File.{File}
use Rattle.files.specs.Contents as contents

-- what was read, apart from where it lies in memory
abbrev pub contents_of : {S G : Type 0} → File S G → contents.File S G
contents_of f = record { size = f.size; start = f.start; actions = vec_items f.actions; goals = vec_items f.goals }

abbrev pub outcome : {S G : Type 0} → Result (File S G) (Unfilled ReadFault S G) → Result (contents.File S G) ReadFault
outcome = outcome_in contents_of
