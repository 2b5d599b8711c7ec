use Rattle.std.proofs.Common.{◌≡◌}
use Rattle.compile.specs.Compiled.{marks}
use Rattle.compile.proofs.accepted.Accepted.marks.Given as goal

abbrev pub invariant-loop-place : goal.invariant-loop-place
invariant-loop-place l = l.set ≡ marks l.self.card l.place
