use Rattle.std.proofs.Common.{◌≤◌, length}
use Rattle.table.proofs.Chains.{Seeking}
use Rattle.table.proofs.index.find.Given as goal

abbrev pub invariant-loop-seek : goal.invariant-loop-seek
invariant-loop-seek l = (l.bound ≤ length l.rows) × (l.bound ≤ l.len) × Seeking l.rows l.len l.state l.bound l.seek

abbrev pub decreases-loop-seek : goal.decreases-loop-seek
decreases-loop-seek l = l.bound
