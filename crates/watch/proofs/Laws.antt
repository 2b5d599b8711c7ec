-- From what a call does to the law of every run that it ends.
use Rattle.std.proofs.Common.{◌≡◌, ℕ, ◌≤◌, Bool, true, false, if◌then◌else◌, eqb, Some, None, Option, List, length, Ok, Err, Result, refl, sym, subst, arith}
use Rattle.std.proofs.lemmas.Bool.{lt-ltb, eqb-false}
use Rattle.board.specs.Rows.{judged_row, agrees}
use Rattle.board.specs.declared.row.BoardRow.{BoardRow}
use Rattle.domain.specs.Meaning.{Meaning, Limits}
use Rattle.plans.specs.declared.verdict.Verdict.TheVariants as verdicts
use Rattle.plans.specs.Laws.{Watchable}
use Rattle.plans.specs.Plans.{PlanFor, CompletePlan, LeastCost}
use Rattle.search.specs.Answers.{Sizes}
use Rattle.watched.specs.Noting.{add_outcome, drop_outcome}
use Rattle.watch.specs.declared.fault.WatchFault.{WatchFault}
use Rattle.watch.specs.declared.report.Report as report
use Rattle.watch.specs.Book.{present, log_after, book}
use Rattle.watch.specs.Calls as calls
use Rattle.watch.specs.Calls.{Event, note, retract}
use Rattle.watch.specs.Faults.{watch_number, of_log}
use Rattle.watch.specs.Reporting.{Reported, report_answer}
use Rattle.watch.specs.Reports.{numbered, Right}
use Rattle.watch.specs.Runs.{RowsAfter, Then}
use Rattle.watch.proofs.Reporting.{watchable, right_report}
use Rattle.watch.proofs.Stepping.{carried_on}

module _ (d : Meaning) (log log' : List ℕ) (rows rows' : List BoardRow) (long : length rows ≡ 32) (r : Result (Unit {0}) WatchFault) where
  pub note_law : (a : ℕ) → r ≡ of_log (add_outcome d log a) → log' ≡ log_after d log (note a) → RowsAfter rows (note a, numbered watch_number r) rows' → Then d (note a, numbered watch_number r) log rows log' rows'
  note_law a value is after run ran = carried_on d run log log' rows rows' ran long (note a, numbered watch_number r) (grind arith) is after

  pub retract_law : r ≡ of_log (drop_outcome log) → log' ≡ log_after d log retract → RowsAfter rows (retract, numbered watch_number r) rows' → Then d (retract, numbered watch_number r) log rows log' rows'
  retract_law value is after run ran = carried_on d run log log' rows rows' ran long (retract, numbered watch_number r) (grind arith) is after

-- A report.
module _ (d : Meaning) (limits : Limits d) (log log' : List ℕ) (rows rows' : List BoardRow) (long : length rows ≡ 32) (goal : ℕ) (s : Sizes) (before place : List ℕ) where
  right_answer : (run : List Event) → log ≡ book d run → (r : Result report.Report WatchFault) → Reported (present d log) goal s before place r → Right d log (calls.report goal s, report_answer place r)
  right_answer run is (Ok r) told = right_report d log goal s r.without r.with r.verdict before place r.length (subst (Watchable d) (sym is) (watchable d run limits)) told.1 told.0
  right_answer run is (Err fault) told = grind arith

  pub report_law : (r : Result report.Report WatchFault) → Reported (present d log) goal s before place r → log' ≡ log → RowsAfter rows (calls.report goal s, report_answer place r) rows' → Then d (calls.report goal s, report_answer place r) log rows log' rows'
  report_law r told is after run ran = carried_on d run log log' rows rows' ran long (calls.report goal s, report_answer place r) (right_answer run ran.logged r told) is after

-- The row of a right report agrees with itself: a complete plan is a plan, so the second cost is never less than the first.
module _ (m : Meaning) (g : ℕ) where
  costs_rise : (c e : ℕ) → LeastCost m (PlanFor m g) (Some c) → LeastCost m (CompletePlan m g) (Some e) → c ≤ e
  costs_rise c e one two = omega (arith, one.1.1, two.1.1, one.1.0.least two.0 two.1.0.of_kind.plan_for)

  both_agree : (c e : ℕ) (b : Bool) → eqb c e ≡ b → c ≤ e → agrees (record { verdict = Some (if b then verdicts.Stands else verdicts.CostsMore); without = Some c; with = Some e }) ≡ true
  both_agree c e true k h = k
  both_agree c e false k h = let other : c ≡ e → ⊥ = eqb-false c e k in lt-ltb c e (omega arith)

  pub judged_agrees : (without with : Option ℕ) → LeastCost m (PlanFor m g) without → LeastCost m (CompletePlan m g) with → agrees (judged_row without with) ≡ true
  judged_agrees None None one two = refl
  judged_agrees None (Some e) one two = absurd (one two.0 two.1.0.of_kind.plan_for)
  judged_agrees (Some c) None one two = refl
  judged_agrees (Some c) (Some e) one two = both_agree c e (eqb c e) refl (costs_rise c e one two)
