-- The beginning of a log that a list of actions carries.
use Rattle.std.specs.Prelude.{◌≡◌, ℕ, ◌<◌, ◌≤◌, List, length, take, slice_index}
use Rattle.plans.specs.Logs.{Carries}

-- the first entries of a log, count of them, are carried at the first of the places: each entry's place holds the same action, and the places rise strictly
pub record CarriedAt (log list places : List ℕ) (count : ℕ) : Type 0 where
  pub few : count ≤ length log
  pub within : (j : ℕ) → j < count → slice_index places j < length list
  pub same : (j : ℕ) → j < count → slice_index list (slice_index places j) ≡ slice_index log j
  pub rising : (i j : ℕ) → i < j → j < count → slice_index places i < slice_index places j

-- no longer beginning of the log is carried, at whatever places
abbrev pub NoneLonger : List ℕ → List ℕ → ℕ → Type 0
NoneLonger log list count = (n : ℕ) → n ≤ length log → Carries (take n log) list → n ≤ count
