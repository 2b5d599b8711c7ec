-- The numbers of the refusals, one definition for each kind of fault, and where a file is at fault.
use Rattle.std.specs.Prelude.{ℕ, List, ◌++◌, codes, decimal}
use Rattle.domain.specs.declared.fault.LogFault.{LogFault}
use Rattle.domain.specs.declared.fault.LogFault.TheVariants.{Action, Width, Full, Empty}
use Rattle.domain.specs.declared.fault.Position.{Position}
use Rattle.domain.specs.declared.fault.ReadFault.{ReadFault}
use Rattle.domain.specs.declared.fault.ReadFault.TheVariants.{Letter, Header, Count, Start, Cut, Bits, Field, End}
use Rattle.domain.specs.declared.fault.RoomFault.{RoomFault}
use Rattle.domain.specs.declared.fault.RoomFault.TheVariants.{Memory}
use Rattle.domain.specs.declared.fault.WriteFault.{WriteFault}
use Rattle.domain.specs.declared.fault.WriteFault.TheVariants.{Place}

abbrev pub read_number : ReadFault → ℕ
read_number (Letter p) = 1
read_number (Header p) = 2
read_number (Count p) = 3
read_number (Start p) = 4
read_number (Cut p) = 5
read_number (Bits p) = 6
read_number (Field p) = 7
read_number (End p) = 8

abbrev pub write_number : WriteFault → ℕ
write_number Place = 9

abbrev pub log_number : LogFault → ℕ
log_number Action = 11
log_number Width = 12
log_number Full = 13
log_number Empty = 14

abbrev pub room_number : RoomFault → ℕ
room_number Memory = 32

abbrev pub position_of : ReadFault → Position
position_of (Letter p) = p
position_of (Header p) = p
position_of (Count p) = p
position_of (Start p) = p
position_of (Cut p) = p
position_of (Bits p) = p
position_of (Field p) = p
position_of (End p) = p

-- a position as it is printed
abbrev pub position_words : Position → List ℕ
position_words at = codes "record " ++ (decimal at.«record» ++ (codes " byte " ++ decimal at.byte))
