-- What a log holds.
use Rattle.std.specs.Prelude.{ℕ, List, take}
use Rattle.logs.specs.declared.log.ObservationLog.{ObservationLog}

abbrev pub entries : ObservationLog → List ℕ
entries log = take log.used log.table
