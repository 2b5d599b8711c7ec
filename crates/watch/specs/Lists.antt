-- A list of calls and the places of their answers, as a run.
use Rattle.std.specs.Prelude.{ℕ, min, List, [], ◌∷◌, Some, None, Ok, Err, Option, Result}
use Rattle.search.specs.Answers.{Sizes}
use Rattle.watch.specs.declared.call.Call.{Call}
use Rattle.watch.specs.declared.call.Call.TheVariants as variants
use Rattle.watch.specs.declared.call.Request.{Request}
use Rattle.watch.specs.declared.call.Slot.{Slot}
use Rattle.watch.specs.declared.fault.WatchFault.{WatchFault}
use Rattle.watch.specs.declared.report.Report.{Report}
use Rattle.watch.specs.Calls as calls
use Rattle.watch.specs.Faults.{watch_number}
use Rattle.watch.specs.Reporting.{report_answer}

-- a report names sizes, of which there are at most those that are lent
abbrev pub cut_to : Sizes → Request → Sizes
cut_to lent q = record { rows = min q.rows lent.rows; waiting = min q.waiting lent.waiting; places = min q.places lent.places }

-- the answer to a note or a retraction, as it stands in its place
abbrev pub plain_answer : Result (Option Report) WatchFault → Result (Unit {0}) ℕ
plain_answer (Ok told) = Ok tt
plain_answer (Err fault) = Err (watch_number fault)

-- the answer to a report, with its plan
abbrev pub plan_answer : Result (Option Report) WatchFault → List ℕ → Result calls.Report ℕ
plan_answer (Ok (Some r)) plan = report_answer plan (Ok r)
plan_answer (Ok None) plan = Err 0
plan_answer (Err fault) plan = report_answer plan (Err fault)

abbrev pub event_of : Sizes → Call → Slot → calls.Event
event_of lent (variants.Note a) slot = (calls.note a, plain_answer slot.answer)
event_of lent variants.Retract slot = (calls.retract, plain_answer slot.answer)
event_of lent (variants.Report q) slot = (calls.report q.goal (cut_to lent q), plan_answer slot.answer slot.plan)

-- the run of the calls, each with what stands in its place
abbrev pub run_of : Sizes → List Call → List Slot → List calls.Event
run_of lent [] slots = []
run_of lent (c ∷ cs) [] = []
run_of lent (c ∷ cs) (s ∷ slots) = event_of lent c s ∷ run_of lent cs slots
