use Rattle.std.proofs.Common.{◌≡◌, ℕ, ◌<◌, ◌≤◌, IsSome, length}
use Rattle.domain.specs.Meaning.{Meaning}
use Rattle.table.specs.Rows.{node}
use Rattle.search.specs.Solved.{Writable}
use Rattle.search.proofs.Writing.{WrittenFrom}
use Rattle.search.proofs.plan.write_plan.Given as goal

abbrev pub invariant-loop-at : goal.invariant-loop-at
invariant-loop-at l =
    (l.«length» ≡ (node l.rows l.row).steps) × (l.«at» < length l.rows) × (l.left ≤ length l.plan) × (IsSome (node l.rows l.«at»).last → 0 < l.left)
    × ((m : Meaning) (n : ℕ) → Writable m n l.rows l.row l.initial.plan → WrittenFrom m (node l.rows) n l.row l.initial.plan l.plan l.«length» l.«at» l.left)

abbrev pub decreases-loop-at : goal.decreases-loop-at
decreases-loop-at l = l.left
