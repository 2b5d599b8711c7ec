-- The numbers of the refusals of compiling; those of the log are the log's own.
use Rattle.std.specs.Prelude.{ℕ}
use Rattle.domain.specs.Faults.{log_number}
use Rattle.compile.specs.declared.fault.CompileFault.{CompileFault}
use Rattle.compile.specs.declared.fault.CompileFault.TheVariants.{Log, Fluents, Actions, Goals}

abbrev pub compile_number : CompileFault → ℕ
compile_number (Log fault) = log_number fault
compile_number Fluents = 19
compile_number Actions = 20
compile_number Goals = 21
