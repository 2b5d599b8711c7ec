-- A domain with a log: a state tells how many of the log's entries were carried on the way to it.
use Rattle.std.specs.Prelude.{ℕ, ◌+◌, ◌*◌, ◌/◌, ◌%◌, ◌^◌, Bool, false, if◌then◌else◌, ◌&&◌, List, [], length, ◌==◌, nat_le, nat_lt}
use Rattle.domain.specs.Meaning.{Meaning}
use Rattle.plans.specs.Counting.{may_run, advance}

-- a count of entries takes five bits, so a domain that is wider than 55 has no room for one, and its log stays empty
abbrev pub is_narrow : Meaning → Bool
is_narrow d = nat_le d.width 55

abbrev pub extra_bits : Meaning → ℕ
extra_bits d = if is_narrow d then 5 else 0

abbrev pub log_over : Meaning → List ℕ → List ℕ
log_over d log = if is_narrow d then log else []

-- a watched state is the state below and, above its bits, the count
abbrev pub below : Meaning → ℕ → ℕ
below d x = x % 2 ^ d.width

abbrev pub count : Meaning → ℕ → ℕ
count d x = x / 2 ^ d.width

abbrev pub joined_state : Meaning → ℕ → ℕ → ℕ
joined_state d s k = s + 2 ^ d.width * k

-- the meaning by the log that is followed
module _ (d : Meaning) (log : List ℕ) where
  abbrev pub is_state : ℕ → Bool
  is_state x = nat_lt x (2 ^ (d.width + extra_bits d))

  abbrev pub can_run : ℕ → ℕ → Bool
  can_run x a = is_state x && (nat_le (count d x) (length log) && (d.runs (below d x) a && may_run log a (d.marked a)))

  abbrev pub watched_by : Meaning
  watched_by = record {
    width = d.width + extra_bits d;
    actions = d.actions;
    goals = d.goals;
    start = d.start;
    runs = can_run;
    next = λ x a. if can_run x a then joined_state d (d.next (below d x) a) (advance log (count d x) a) else x;
    cost = d.cost;
    marked = λ _. false;
    meets = λ x g. is_state x && d.meets (below d x) g;
    complete = λ x. is_state x && (d.complete (below d x) && count d x == length log);
  }

abbrev pub watched : Meaning → List ℕ → Meaning
watched d log = watched_by d (log_over d log)
