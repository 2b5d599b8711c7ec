-- What a report hands back.
use Rattle.std.specs.Prelude.{◌≡◌, ℕ, List, take, Ok, Err, Result}
use Rattle.domain.specs.Meaning.{Meaning}
use Rattle.plans.specs.Verdicts.{verdict_of}
use Rattle.search.specs.Answers as lent
use Rattle.search.specs.Answers.{Sizes, Refused, Accepted}
use Rattle.watch.specs.declared.fault.WatchFault.{WatchFault}
use Rattle.watch.specs.declared.fault.WatchFault.TheVariants.{Log, Search, Rank}
use Rattle.watch.specs.declared.report.Report.{Report}
use Rattle.watch.specs.Calls as calls
use Rattle.watch.specs.Faults.{watch_number}

-- the answer for a domain, which is the present one: what the search found, with the verdict, or why the search was refused
abbrev pub Reported : Meaning → ℕ → Sizes → List ℕ → List ℕ → Result Report WatchFault → Type 0
Reported m goal s before after (Ok r) = Accepted m goal s r.without r.with before after r.length × (r.verdict ≡ verdict_of r.without r.with)
Reported m goal s before after (Err (Search fault)) = Refused m goal s fault × (after ≡ before)
Reported m goal s before after (Err (Log fault)) = ⊥
Reported m goal s before after (Err (Rank fault)) = ⊥

-- a question about the goal or the sizes that is answered no leaves the tables as they were
abbrev pub TablesStay : {X : Type 0} → Result X WatchFault → Type 0 → Type 0
TablesStay (Ok x) P = Unit {0}
TablesStay {X} (Err (Search fault)) P = lent.TablesStay {X = X} (Err fault) P
TablesStay (Err (Log fault)) P = P
TablesStay (Err (Rank fault)) P = P

-- the answer in the words of a run: the plan is what stands in the front of the plan place afterwards
abbrev pub report_answer : List ℕ → Result Report WatchFault → Result calls.Report ℕ
report_answer place (Ok r) = Ok (record { verdict = r.verdict; without = r.without; with = r.with; plan = take r.length place })
report_answer place (Err fault) = Err (watch_number fault)
