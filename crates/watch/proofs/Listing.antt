-- A list of calls, one after another.
use Rattle.std.proofs.Common.{◌≡◌, ℕ, ◌≤◌, min, List, ◌++◌, length, take, Option, Result, arith}
use Rattle.std.proofs.lemmas.Grind.{common_steps}
use Rattle.board.specs.declared.row.BoardRow.{BoardRow}
use Rattle.domain.specs.Meaning.{Meaning}
use Rattle.search.specs.Answers.{Sizes, sizes_of}
use Rattle.watch.specs.declared.fault.WatchFault.{WatchFault}
use Rattle.watch.specs.declared.report.Report as report
use Rattle.watch.specs.declared.call.Request.{Request}
use Rattle.watch.specs.Calls as calls
use Rattle.watch.specs.Lists.{cut_to, plan_answer}
use Rattle.watch.specs.Reporting.{Reported, report_answer}
use Rattle.watch.specs.Runs.{Then}

-- the plan stands in the part of the place that the report was handed
answer_front : (m : Meaning) (goal : ℕ) (s : Sizes) (before part post : List ℕ) (r : Result report.Report WatchFault) → s.places ≤ length part → Reported m goal s before part r → report_answer (part ++ post) r ≡ report_answer part r
answer_front m goal s before part post r fits told = grind (arith, common_steps)

-- the fronts of the places, as long as is asked for where the places have that much
pub sizes_cut : {X Y : Type 0} (table : List X) (waiting : List Y) (plan : List ℕ) (q : Request) (a b c : ℕ) → a ≡ min q.rows (length table) → b ≡ min q.waiting (length waiting) → c ≡ min q.places (length plan) → sizes_of (take a table) (take b waiting) (take c plan) ≡ cut_to (sizes_of table waiting plan) q
sizes_cut table waiting plan q a b c e f g = grind (arith, common_steps)

module _ (d m : Meaning) (log log' : List ℕ) (rows rows' : List BoardRow) (goal : ℕ) (s t : Sizes) (before part post : List ℕ) (r : Result report.Report WatchFault) (answer : Result (Option report.Report) WatchFault) where
  -- a report on parts of the places that are lent
  pub report_cut : s ≡ t → s.places ≤ length part → Reported m goal s before part r → ((plan : List ℕ) → plan_answer answer plan ≡ report_answer plan r) → Then d (calls.report goal s, report_answer part r) log rows log' rows' → Then d (calls.report goal t, plan_answer answer (part ++ post)) log rows log' rows'
  report_cut sizes fits told is law = rw (is (part ++ post), answer_front m goal s before part post r fits told, ← sizes) law
