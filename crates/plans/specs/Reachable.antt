-- The states that can be reached from the start, and how many there are.
use Rattle.std.specs.Prelude.{◌≡◌, ℕ, ◌<◌, ◌≤◌, List, length, ◌≢◌, Contains, All, AllPairs}
use Rattle.domain.specs.Meaning.{Meaning}
use Rattle.plans.specs.Plans.{after, RunsAll}

-- some list of actions runs from the start and leads there
abbrev pub Reachable : Meaning → ℕ → Type 0
Reachable d s = (list : List ℕ) × (RunsAll d d.start list × (after d d.start list ≡ s))

-- at most n reachable states: some list of at most n states has every one of them
pub record AtMost (d : Meaning) (n : ℕ) : Type 0 where
  pub states : List ℕ
  pub few : length states ≤ n
  pub all : (s : ℕ) → Reachable d s → Contains states s

-- more than n reachable states: some list of more than n states has different ones, all reachable
pub record MoreThan (d : Meaning) (n : ℕ) : Type 0 where
  pub states : List ℕ
  pub many : n < length states
  pub each : All (Reachable d) states
  pub apart : AllPairs (λ s t. s ≢ t) states

-- of the two at most one holds, so what depends on the count can be said by the one or the other
abbrev pub NeverBoth : Meaning → ℕ → Type 0
NeverBoth d n = AtMost d n → MoreThan d n → ⊥
