-- What a search promises of a domain and a goal, over lists of actions.
use Rattle.std.specs.Prelude.{◌≡◌, ℕ, ◌<◌, ◌≤◌, List, length, take, drop, Some, None, Ok, Err, Option, Result, ◌≢◌}
use Rattle.domain.specs.Meaning.{Meaning}
use Rattle.plans.specs.Plans.{after, cost_of, PlanFor, CompletePlan, Cheapest, LeastCost}
use Rattle.plans.specs.Reachable.{AtMost, MoreThan}
use Rattle.search.specs.declared.fault.SearchFault.{SearchFault}
use Rattle.search.specs.declared.fault.SearchFault.TheVariants.{Goal, Tables, Rows}

-- how long the places are that a search is handed
pub record Sizes : Type 0 where
  pub rows : ℕ
  pub waiting : ℕ
  pub places : ℕ

-- the sizes of a table, a waiting list and a plan place
abbrev pub sizes_of : {X Y : Type 0} → List X → List Y → List ℕ → Sizes
sizes_of table waiting plan = record { rows = length table; waiting = length waiting; places = length plan }

-- a table of 1 to 4096 rows, and a waiting list and a plan place that are no shorter
pub record Suited (s : Sizes) : Type 0 where
  pub some : 1 ≤ s.rows
  pub few : s.rows ≤ 4096
  pub waiting : s.rows ≤ s.waiting
  pub places : s.rows ≤ s.places

-- the questions in order; the first that is answered no
abbrev pub Refused : Meaning → ℕ → Sizes → SearchFault → Type 0
Refused m goal s Goal = m.goals ≤ goal
Refused m goal s Tables = (goal < m.goals) × (Suited s → ⊥)
Refused m goal s Rows = (goal < m.goals) × Suited s × MoreThan m s.rows

-- no state comes twice on the way, the start and the last included
abbrev pub RepeatsNone : Meaning → List ℕ → Type 0
RepeatsNone m plan = (i j : ℕ) → i < j → j ≤ length plan → after m m.start (take i plan) ≢ after m m.start (take j plan)

-- a cheapest complete plan where there is one, else a cheapest plan, else none
abbrev pub ShownKind : Meaning → ℕ → Option ℕ → Option ℕ → List ℕ → Type 0
ShownKind m goal without (Some c) plan = Cheapest m (CompletePlan m goal) plan × (cost_of m plan ≡ c)
ShownKind m goal (Some c) None plan = Cheapest m (PlanFor m goal) plan × (cost_of m plan ≡ c)
ShownKind m goal None None plan = length plan ≡ 0

-- the plan that stands in the front of the plan place
pub record Shown (m : Meaning) (goal rows : ℕ) (without with : Option ℕ) (before after : List ℕ) (len : ℕ) : Type 0 where
  pub kind : ShownKind m goal without with (take len after)
  pub repeats_none : RepeatsNone m (take len after)
  pub short : len < rows
  -- the place past the plan stays
  pub rest : drop len after ≡ drop len before
  pub long : length after ≡ length before

-- the two least costs, of a plan and of one that ends in a complete state, and the plan
pub record Found (m : Meaning) (goal rows : ℕ) (without with : Option ℕ) (before after : List ℕ) (len : ℕ) : Type 0 where
  pub least : LeastCost m (PlanFor m goal) without
  pub least_complete : LeastCost m (CompletePlan m goal) with
  pub shown : Shown m goal rows without with before after len

pub record Accepted (m : Meaning) (goal : ℕ) (s : Sizes) (without with : Option ℕ) (before after : List ℕ) (len : ℕ) : Type 0 where
  pub is_goal : goal < m.goals
  pub suited : Suited s
  pub reachable : AtMost m s.rows
  pub found : Found m goal s.rows without with before after len

-- the answer, with what the plan place held before and holds after
abbrev pub Answered : Meaning → ℕ → Sizes → List ℕ → List ℕ → Result ((Option ℕ × Option ℕ) × ℕ) SearchFault → Type 0
Answered m goal s before after (Ok found) = Accepted m goal s found.0.0 found.0.1 before after found.1
Answered m goal s before after (Err fault) = Refused m goal s fault × (after ≡ before)

-- a question about the goal or the sizes that is answered no leaves the tables as they were
abbrev pub TablesStay : {X : Type 0} → Result X SearchFault → Type 0 → Type 0
TablesStay (Ok found) P = Unit {0}
TablesStay (Err Goal) P = P
TablesStay (Err Tables) P = P
TablesStay (Err Rows) P = Unit {0}
