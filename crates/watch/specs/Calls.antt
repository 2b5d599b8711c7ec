-- Calls on a watch, and their answers.
use Rattle.std.specs.Prelude.{ℕ, List, Option, Result}
use Rattle.plans.specs.declared.verdict.Verdict.{Verdict}
use Rattle.search.specs.Answers.{Sizes}

-- a report is handed a goal and three places, of these sizes
pub data Call : Type 0 where
  note : ℕ → Call
  retract : Call
  report : ℕ → Sizes → Call

-- what an accepted report answers: the plan is what stands in the front of the plan place
pub record Report : Type 0 where
  pub verdict : Verdict
  pub without : Option ℕ
  pub with : Option ℕ
  pub plan : List ℕ

-- the answer to a call; a refusal is its number
abbrev pub Answer : Call → Type 0
Answer (note a) = Result (Unit {0}) ℕ
Answer retract = Result (Unit {0}) ℕ
Answer (report goal sizes) = Result Report ℕ

-- a call with its answer
abbrev pub Event : Type 0
Event = (call : Call) × Answer call
