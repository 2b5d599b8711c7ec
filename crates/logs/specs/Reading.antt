-- Reading a log from bytes, an entry to a byte: the questions in order.
use Rattle.std.specs.Prelude.{ℕ, if◌then◌else◌, List, length, Ok, Err, Result, nat_le, nat_lt}
use Rattle.std.specs.List.{list_all}
use Rattle.domain.specs.declared.fault.LogFault.{LogFault}
use Rattle.domain.specs.declared.fault.LogFault.TheVariants.{Action, Full}
use Rattle.logs.specs.declared.log.ObservationLog.{ObservationLog}
use Rattle.logs.specs.Entries.{entries}

-- at most 20 entries, and each is an action
abbrev pub read_log : List ℕ → ℕ → Result (List ℕ) LogFault
read_log bytes actions =
    if nat_le (length bytes) 20 then
    if list_all (λ a. nat_lt a actions) bytes then
    Ok bytes
    else Err Action
    else Err Full

-- what a call that reads a log hands back
abbrev pub outcome : Result ObservationLog LogFault → Result (List ℕ) LogFault
outcome (Ok log) = Ok (entries log)
outcome (Err fault) = Err fault
