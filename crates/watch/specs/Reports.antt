-- What a right answer is.
use Rattle.std.specs.Prelude.{◌≡◌, ℕ, ◌<◌, List, ◌∷◌, length, Ok, Err, Result}
use Rattle.domain.specs.Faults.{log_number}
use Rattle.domain.specs.Meaning.{Meaning}
use Rattle.plans.specs.declared.verdict.Verdict.{Verdict}
use Rattle.plans.specs.declared.verdict.Verdict.TheVariants as verdicts
use Rattle.plans.specs.Logs.{Admitted, Whole, Stands}
use Rattle.plans.specs.Plans.{PlanFor, Cheapest, LeastCost}
use Rattle.plans.specs.Reachable.{AtMost}
use Rattle.plans.specs.Stacks.{stack, Stackable, WholeBelow}
use Rattle.plans.specs.Verdicts.{verdict_of}
use Rattle.search.specs.declared.fault.SearchFault.{SearchFault}
use Rattle.search.specs.Answers.{Sizes, Suited, Refused, RepeatsNone}
use Rattle.search.specs.Faults.{search_number}
use Rattle.watched.specs.Noting.{add_outcome, drop_outcome}
use Rattle.watch.specs.Book.{present}
use Rattle.watch.specs.Calls.{Report, Event, note, retract, report}

-- the plan that is shown, by the verdict
abbrev pub ShownBy : Meaning → List ℕ → ℕ → Verdict → List ℕ → Type 0
ShownBy d log g verdicts.Stands plan = Cheapest d (Admitted d log g) plan × Whole d log g plan
ShownBy d log g verdicts.CostsMore plan = Cheapest d (Whole d log g) plan
ShownBy d log g verdicts.CutOff plan = Cheapest d (Admitted d log g) plan
ShownBy d log g verdicts.NoPlan plan = length plan ≡ 0

-- Where the domain below is itself a stack of logs on a domain at the bottom: the goal stands when one of the cheapest plans carries every log and ends complete at the bottom.
abbrev pub StandsBelow : Meaning → List (List ℕ) → ℕ → Type 0
StandsBelow b logs g = (plan : List ℕ) × (Cheapest (stack b logs) (PlanFor (stack b logs) g) plan × WholeBelow b logs g plan)

pub record RightBelow (b : Meaning) (logs : List (List ℕ)) (g : ℕ) (r : Report) : Type 0 where
  pub says_so : r.verdict ≡ verdicts.Stands → StandsBelow b logs g
  pub is_so : StandsBelow b logs g → r.verdict ≡ verdicts.Stands
  -- and such a plan is shown
  pub shown : r.verdict ≡ verdicts.Stands → Cheapest (stack b logs) (PlanFor (stack b logs) g) r.plan × WholeBelow b logs g r.plan

-- an accepted report on goal g, with this log
pub record RightReport (d : Meaning) (log : List ℕ) (g : ℕ) (s : Sizes) (r : Report) : Type 0 where
  -- all its questions are answered yes
  pub is_goal : g < d.goals
  pub suited : Suited s
  pub reachable : AtMost (present d log) s.rows
  -- the two least costs, and the verdict that follows from them
  pub without : LeastCost d (Admitted d log g) r.without
  pub with : LeastCost d (Whole d log g) r.with
  pub verdict : r.verdict ≡ verdict_of r.without r.with
  -- it says that the goal stands exactly when some cheapest admitted plan is whole
  pub says_so : r.verdict ≡ verdicts.Stands → Stands d log g
  pub is_so : Stands d log g → r.verdict ≡ verdicts.Stands
  pub shown : ShownBy d log g r.verdict r.plan
  pub repeats_none : RepeatsNone (present d log) r.plan
  pub below : (b : Meaning) (logs : List (List ℕ)) → d ≡ stack b logs → Stackable b logs → RightBelow b (log ∷ logs) g r

-- the outcome of a question, with its number for the refusal
abbrev pub numbered : {X F : Type 0} → (F → ℕ) → Result X F → Result X ℕ
numbered number (Ok x) = Ok x
numbered number (Err f) = Err (number f)

abbrev pub Right : Meaning → List ℕ → Event → Type 0
Right d log (note a, answer) = answer ≡ numbered log_number (add_outcome d log a)
Right d log (retract, answer) = answer ≡ numbered log_number (drop_outcome log)
Right d log (report g s, Ok r) = RightReport d log g s r
Right d log (report g s, Err n) = (f : SearchFault) × ((n ≡ search_number f) × Refused (present d log) g s f)
