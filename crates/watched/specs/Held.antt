-- What a contract sees of a watched domain.
use Rattle.logs.specs.declared.log.ObservationLog.{ObservationLog}

pub record Held (D : Type 0) : Type 0 where
  pub domain : D
  pub log : ObservationLog
