use Rattle.logs.specs.Entries.{entries}
use Rattle.judge.proofs.Places.{Followed}
use Rattle.judge.proofs.carrying.carried.Given as goal

abbrev pub invariant-loop-place : goal.invariant-loop-place
invariant-loop-place l = Followed (entries l.log) l.list l.initial.places l.places l.place l.count
