-- Adding an entry to the log of a watched domain, and dropping the last one: the questions in order.
use Rattle.std.specs.Prelude.{ℕ, if◌then◌else◌, List, length, Ok, Err, Result, nat_lt}
use Rattle.domain.specs.declared.fault.LogFault.{LogFault}
use Rattle.domain.specs.declared.fault.LogFault.TheVariants.{Action, Width, Full, Empty}
use Rattle.domain.specs.Meaning.{Meaning}
use Rattle.plans.specs.Watched.{is_narrow}

-- the action is one of the domain's, the domain is narrow enough, and the log has a place
abbrev pub add_outcome : Meaning → List ℕ → ℕ → Result (Unit {0}) LogFault
add_outcome d log a =
    if nat_lt a d.actions then
    if is_narrow d then
    if nat_lt (length log) 20 then
    Ok tt
    else Err Full
    else Err Width
    else Err Action

-- there is an entry
abbrev pub drop_outcome : List ℕ → Result (Unit {0}) LogFault
drop_outcome log = if nat_lt 0 (length log) then Ok tt else Err Empty
