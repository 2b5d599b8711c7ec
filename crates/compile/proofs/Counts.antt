-- Entries of the log: each occurs in it, and one whose predecessors are counted is counted once its action has run.
use Rattle.std.proofs.Common.{◌≡◌, ℕ, ◌<◌, ◌≤◌, true, List, length, ◌==◌, get_or, arith}
use Rattle.std.proofs.lemmas.Bool.Decides.{nat_tests}
use Rattle.std.proofs.lemmas.List.Folds.{list_any_at}
use Rattle.plans.specs.Counting.{advance}
use Rattle.plans.specs.Logs.{occurs}

pub count_past : (log : List ℕ) (k j : ℕ) → j ≤ k → j < length log → j < advance log k (get_or log j 0)
count_past log k j before h = grind (arith, nat_tests)

pub entry_occurs : (log : List ℕ) (j : ℕ) → j < length log → occurs (get_or log j 0) log ≡ true
entry_occurs log j h = list_any_at (λ x. x == get_or log j 0) log j 0 h (grind (arith, nat_tests))
