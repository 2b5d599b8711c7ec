-- What comes out when the questions are asked.
use Rattle.std.specs.Prelude.{ℕ, List, Ok, Err, Result}
use Rattle.compile.specs.declared.fault.CompileFault.{CompileFault}
use Rattle.compile.specs.Questions.{Asked}

-- what a call that asks the questions hands back
abbrev pub log_outcome : Result Asked CompileFault → Result (List ℕ) CompileFault
log_outcome (Ok accepted) = Ok accepted.log
log_outcome (Err fault) = Err fault
