-- How a log is followed: which actions it lets run, and how the count of its carried entries grows.
use Rattle.std.specs.Prelude.{ℕ, ◌+◌, Bool, if◌then◌else◌, not, ◌&&◌, ◌||◌, List, length, ◌==◌, nat_lt, slice_index}
use Rattle.std.specs.List.{fold}
use Rattle.plans.specs.Logs.{occurs}

-- an action that is marked runs only if it is in the log
abbrev pub may_run : List ℕ → ℕ → Bool → Bool
may_run log a marked = not marked || occurs a log

-- with k entries carried, an action that is the next entry carries one more
abbrev pub advance : List ℕ → ℕ → ℕ → ℕ
advance log k a = if nat_lt k (length log) && slice_index log k == a then k + 1 else k

-- the count after a list of actions
abbrev pub advance_all : List ℕ → ℕ → List ℕ → ℕ
advance_all log k list = fold (advance log) k list
