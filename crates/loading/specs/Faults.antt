-- The numbers of the refusals to load a domain, which of them are about the file, and what is printed of the others.
use Rattle.std.specs.Prelude.{ℕ, List, Result, Ok, Err, codes}
use Rattle.domain.specs.Faults.{read_number, room_number}
use Rattle.domain.specs.declared.fault.ReadFault.{ReadFault}
use Rattle.domain.specs.declared.fault.RoomFault.{RoomFault}
use Rattle.files.specs.declared.kind.Kind.{Kind}
use Rattle.files.specs.declared.kind.Kind.TheVariants as kind
use Rattle.loading.specs.declared.fault.LoadFault.{LoadFault}
use Rattle.loading.specs.declared.fault.LoadFault.TheVariants.{Room, Read}
use Rattle.loading.specs.declared.fault.NoRoom.{NoRoom}
use Rattle.loading.specs.Loading.{kind_of}

abbrev pub load_number : LoadFault → ℕ
load_number (Room f) = room_number f
load_number (Read f) = read_number f

-- the fault of the file; where there is none, there was no memory
abbrev pub file_fault : LoadFault → Result ReadFault RoomFault
file_fault (Room f) = Err f
file_fault (Read f) = Ok f

-- the same for the bytes that were to be loaded
abbrev pub bytes_fault : List ℕ → LoadFault → Result ReadFault NoRoom
bytes_fault bs (Room f) = Err (record { 0 = kind_of bs })
bytes_fault bs (Read f) = Ok f

abbrev pub no_room_words : Kind → List ℕ
no_room_words kind.Card = codes "no memory for a card"
no_room_words kind.Map = codes "no memory for a map"
