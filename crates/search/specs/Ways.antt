-- What the nodes of a table, by their rows, say of the ways to their states.
use Rattle.std.specs.Prelude.{◌≡◌, ℕ, ◌+◌, ◌<◌, ◌≤◌, true, Some, None, ◌⊎◌}
use Rattle.domain.specs.Meaning.{Meaning}
use Rattle.table.specs.declared.row.Node.{Node}
use Rattle.table.specs.declared.row.Step.{Step}

-- the start, where nothing was done
pub record Begins (m : Meaning) (v : Node) : Type 0 where
  pub state : v.state ≡ m.start
  pub cost : v.cost ≡ 0
  pub steps : v.steps ≡ 0
  pub last : v.last ≡ None

-- one action on from a settled row
pub record Follows (m : Meaning) (nodes : ℕ → Node) (n : ℕ) (v : Node) : Type 0 where
  pub step : Step
  pub last : v.last ≡ Some step
  pub from : step.from < n
  pub settled : (nodes step.from).settled ≡ true
  pub runs : m.runs (nodes step.from).state step.action ≡ true
  pub next : m.next (nodes step.from).state step.action ≡ v.state
  pub cost : v.cost ≡ (nodes step.from).cost + m.cost step.action
  pub steps : v.steps ≡ (nodes step.from).steps + 1

abbrev pub Way : Meaning → (ℕ → Node) → ℕ → Node → Type 0
Way m nodes n v = Begins m v ⊎ Follows m nodes n v

-- the state is known, at no more than that cost
abbrev pub KnownAt : (ℕ → Node) → ℕ → ℕ → ℕ → Type 0
KnownAt nodes n s c = (j : ℕ) × ((j < n) × (((nodes j).state ≡ s) × ((nodes j).cost ≤ c)))

-- what the first actions lead to from a row is known, at no more than that way costs
abbrev pub Closed : Meaning → (ℕ → Node) → ℕ → ℕ → Node → Type 0
Closed m nodes n actions v = (a : ℕ) → a < actions → m.runs v.state a ≡ true → KnownAt nodes n (m.next v.state a) (v.cost + m.cost a)

-- no two of the first n rows have one state
abbrev pub OneEach : (ℕ → Node) → ℕ → Type 0
OneEach nodes n = (i j : ℕ) → i < n → j < n → (nodes i).state ≡ (nodes j).state → i ≡ j
