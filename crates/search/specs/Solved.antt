-- A finished table.
use Rattle.std.specs.Prelude.{◌≡◌, ℕ, ◌<◌, ◌≤◌, Bool, true, false, List, length, take, drop, Some, None, Option}
use Rattle.domain.specs.Meaning.{Meaning}
use Rattle.plans.specs.Plans.{after, RunsAll, cost_of}
use Rattle.table.specs.declared.row.Node.{Node}
use Rattle.table.specs.declared.row.Row.{Row}
use Rattle.table.specs.Rows.{node}
use Rattle.search.specs.Answers.{RepeatsNone}
use Rattle.search.specs.Searching.{Stage, Searching}
use Rattle.search.specs.Ways.{Way, KnownAt, Closed, OneEach}

-- every state that can be reached has a row, and no way to it is cheaper than the row's
pub record Solved (m : Meaning) (nodes : ℕ → Node) (n : ℕ) : Type 0 where
  pub one_each : OneEach nodes n
  pub start : KnownAt nodes n m.start 0
  pub ways : (i : ℕ) → i < n → Way m nodes n (nodes i)
  pub short : (i : ℕ) → i < n → (nodes i).steps < n
  pub closed : (i : ℕ) → i < n → Closed m nodes n m.actions (nodes i)

-- on the way there: what is settled is closed
pub record Exploring (m : Meaning) (s : Stage) : Type 0 where
  pub level : ℕ
  pub searching : Searching m s level
  pub closed : (i : ℕ) → i < s.progress.known → (node s.rows i).settled ≡ true → Closed m (node s.rows) s.progress.known m.actions (node s.rows i)

-- a plan for the goal can end in the state; a whole one only in a complete state
abbrev pub Ends : Meaning → ℕ → Bool → ℕ → Type 0
Ends m goal false s = m.meets s goal ≡ true
Ends m goal true s = (m.meets s goal ≡ true) × (m.complete s ≡ true)

-- the cheapest of the first n rows with such a state, if there is one
abbrev pub CheapestIn : (ℕ → Type 0) → (ℕ → Node) → ℕ → Option ℕ → Type 0
CheapestIn Such nodes n None = (i : ℕ) → i < n → Such (nodes i).state → ⊥
CheapestIn Such nodes n (Some j) = (j < n) × (Such (nodes j).state × ((i : ℕ) → i < n → Such (nodes i).state → (nodes j).cost ≤ (nodes i).cost))

-- the cheapest of the first n rows in whose states a plan can end, if there is one
abbrev pub CheapestEnd : Meaning → ℕ → Bool → (ℕ → Node) → ℕ → Option ℕ → Type 0
CheapestEnd m goal whole = CheapestIn (Ends m goal whole)

-- the list of actions leads from the start to a node's state, at its cost
pub record PathTo (m : Meaning) (v : Node) (plan : List ℕ) : Type 0 where
  pub runs : RunsAll m m.start plan
  pub state : after m m.start plan ≡ v.state
  pub cost : cost_of m plan ≡ v.cost

-- the first n rows are a finished table, and the way to row i fits the place
pub record Writable (m : Meaning) (n : ℕ) (rows : List Row) (i : ℕ) (place : List ℕ) : Type 0 where
  pub solved : Solved m (node rows) n
  pub row : i < n
  pub few : n ≤ length rows
  pub fits : n ≤ length place

-- the way to a node stands in the front of a place, and the rest of the place stays
pub record Written (m : Meaning) (v : Node) (before after : List ℕ) (len : ℕ) : Type 0 where
  pub steps : len ≡ v.steps
  pub path : PathTo m v (take len after)
  pub repeats_none : RepeatsNone m (take len after)
  pub rest : drop len after ≡ drop len before
  pub long : length after ≡ length before
