use Rattle.std.proofs.Common.{◌≡◌, ltb, take, drop}
use Rattle.std.specs.List.{list_all}
use Rattle.logs.specs.Entries.{entries}
use Rattle.logs.proofs.log.ObservationLog.read.Given as goal

abbrev pub invariant-loop-action : goal.invariant-loop-action
invariant-loop-action l =
    (entries l.log ≡ take l.action-index l.bytes)
    × (list_all (λ a. ltb a l.actions) l.bytes ≡ list_all (λ a. ltb a l.actions) (drop l.action-index l.bytes))
