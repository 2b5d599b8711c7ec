-- An action may run exactly when it is in the log if it is marked.
use Rattle.std.proofs.Common.{◌≡◌, ℕ, Bool, true, false, List, sym, refl}
use Rattle.std.proofs.lemmas.Bool.{true≢false}
use Rattle.plans.specs.Logs.{occurs}
use Rattle.plans.specs.Counting.{may_run}

pub may_logged : (log : List ℕ) (a : ℕ) (marked : Bool) → may_run log a marked ≡ true → marked ≡ true → occurs a log ≡ true
may_logged log a true may m = may
may_logged log a false may m = absurd (true≢false (sym m))

pub logged_may : (log : List ℕ) (a : ℕ) (marked : Bool) → (marked ≡ true → occurs a log ≡ true) → may_run log a marked ≡ true
logged_may log a true h = h refl
logged_may log a false h = refl
