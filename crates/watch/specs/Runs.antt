-- What holds after any run of calls on one watch, from its beginning.
use Rattle.std.specs.Prelude.{◌≡◌, ℕ, ◌<◌, List, [], ◌∷◌, ◌++◌, replicate, Some, None, Ok, Err, slice_index_or, slice_set}
use Rattle.board.specs.declared.row.BoardRow.{BoardRow}
use Rattle.board.specs.Rows.{open_row, judged_row}
use Rattle.domain.specs.Meaning.{Meaning}
use Rattle.plans.specs.declared.verdict.Verdict.{Verdict}
use Rattle.plans.specs.Logs.{Admitted, Whole}
use Rattle.plans.specs.Plans.{LeastCost}
use Rattle.plans.specs.Verdicts.{verdict_of}
use Rattle.watch.specs.Book.{book}
use Rattle.watch.specs.Calls.{Event, note, retract, report}
use Rattle.watch.specs.Reports.{Right}

-- an accepted report on goal g
abbrev pub ReportsOn : ℕ → Event → Type 0
ReportsOn g (note a, answer) = ⊥
ReportsOn g (retract, answer) = ⊥
ReportsOn g (report goal s, Ok r) = goal ≡ g
ReportsOn g (report goal s, Err n) = ⊥

-- an accepted note or retraction, which changes the log
abbrev pub ChangesLog : Event → Type 0
ChangesLog (note a, Ok x) = Unit {0}
ChangesLog (note a, Err n) = ⊥
ChangesLog (retract, Ok x) = Unit {0}
ChangesLog (retract, Err n) = ⊥
ChangesLog (report goal s, answer) = ⊥

-- an event of a run, with the events before it and after it
pub record Occurs (run before : List Event) (e : Event) (later : List Event) : Type 0 where
  pub is : run ≡ before ++ (e ∷ later)

-- some event of a run changes the log
abbrev pub LogChanges : List Event → Type 0
LogChanges run = (before : List Event) × ((e : Event) × ((later : List Event) × (Occurs run before e later × ChangesLog e)))

-- no report on goal g was accepted since the run began or the log last changed
abbrev pub NotReported : List Event → ℕ → Type 0
NotReported run g = (before : List Event) (e : Event) (later : List Event) → Occurs run before e later → ReportsOn g e → LogChanges later

-- what a row holds that is not open: the verdict and the costs for the present log
pub record Holds (d : Meaning) (log : List ℕ) (g : ℕ) (row : BoardRow) (v : Verdict) : Type 0 where
  pub is_goal : g < d.goals
  pub without : LeastCost d (Admitted d log g) row.without
  pub with : LeastCost d (Whole d log g) row.with
  pub verdict : v ≡ verdict_of row.without row.with

pub record RowTells (d : Meaning) (run : List Event) (log : List ℕ) (g : ℕ) (row : BoardRow) : Type 0 where
  -- it is open exactly when no report on its goal was accepted since the run began or the log last changed
  pub open_so : row.verdict ≡ None → NotReported run g
  pub so_open : NotReported run g → row ≡ open_row
  pub judged : (v : Verdict) → row.verdict ≡ Some v → Holds d log g row v

-- The law of a run: d is the meaning of the domain below, log what the watch's log holds at the end, and rows what its board holds.
pub record Ran (d : Meaning) (run : List Event) (log : List ℕ) (rows : List BoardRow) : Type 0 where
  -- every call was answered rightly, for the log of that moment
  pub answered : (before : List Event) (e : Event) (later : List Event) → Occurs run before e later → Right d (book d before) e
  -- the watch's log is that of the book
  pub logged : log ≡ book d run
  pub board : (g : ℕ) → g < 32 → RowTells d run log g (slice_index_or rows g open_row)

-- What one call does to the rows: a change of the log opens all, a report that is accepted rewrites its own, and nothing else changes any.
abbrev pub RowsAfter : List BoardRow → Event → List BoardRow → Type 0
RowsAfter rows (note a, Ok x) after = after ≡ replicate 32 open_row
RowsAfter rows (note a, Err n) after = after ≡ rows
RowsAfter rows (retract, Ok x) after = after ≡ replicate 32 open_row
RowsAfter rows (retract, Err n) after = after ≡ rows
RowsAfter rows (report goal s, Ok r) after = after ≡ slice_set rows goal (judged_row r.without r.with)
RowsAfter rows (report goal s, Err n) after = after ≡ rows

-- a call carries the law on from every run before it
abbrev pub Then : Meaning → Event → List ℕ → List BoardRow → List ℕ → List BoardRow → Type 0
Then d e log rows log' rows' = (run : List Event) → Ran d run log rows → Ran d (run ++ (e ∷ [])) log' rows'
