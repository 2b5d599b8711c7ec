-- The entries of a log are the front of its table.
use Rattle.std.proofs.Common.{◌≤◌, length, arith}
use Rattle.std.proofs.lemmas.List.{length-take-le}
use Rattle.logs.specs.Entries.{entries}
use Rattle.logs.specs.declared.log.ObservationLog.{ObservationLog}

pub few_entries : (log : ObservationLog) → length (entries log) ≤ 20
few_entries log = omega (arith, length-take-le log.used log.table (omega (arith, log.whole, log.few)), log.few)
