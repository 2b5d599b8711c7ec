-- The log that a run of calls comes to, worked out from the domain below and the calls alone.
use Rattle.std.specs.Prelude.{ℕ, ◌-◌, if◌then◌else◌, List, [], ◌∷◌, ◌++◌, length, take, is_ok}
use Rattle.domain.specs.Meaning.{Meaning}
use Rattle.plans.specs.Watched.{watched}
use Rattle.watched.specs.Noting.{add_outcome}
use Rattle.watch.specs.Calls.{Call, Event, note, retract, report}

-- the domain that questions and answers are about, with this log
abbrev pub present : Meaning → List ℕ → Meaning
present d log = watched d log

-- a note that is accepted appends its action, a retraction drops the last entry, if there is one, and a report changes nothing
abbrev pub log_after : Meaning → List ℕ → Call → List ℕ
log_after d log (note a) = if is_ok (add_outcome d log a) then log ++ (a ∷ []) else log
log_after d log retract = take (length log - 1) log
log_after d log (report goal sizes) = log

abbrev pub book_from : Meaning → List ℕ → List Event → List ℕ
book_from d log [] = log
book_from d log (e ∷ rest) = book_from d (log_after d log e.0) rest

-- the log after a run, which began with an empty one
abbrev pub book : Meaning → List Event → List ℕ
book d run = book_from d [] run
