-- Lists of actions and what they are worth. The definitions speak of a domain's meaning alone.
use Rattle.std.specs.Prelude.{◌≡◌, ℕ, ◌+◌, ◌≤◌, true, List, [], ◌∷◌, Some, None, Option}
use Rattle.std.specs.List.{fold}
use Rattle.domain.specs.Meaning.{Meaning}

-- the state that a list of actions leads to from s
abbrev pub after : Meaning → ℕ → List ℕ → ℕ
after d s list = fold d.next s list

-- the actions run one after another, each in the state that those before it lead to
abbrev pub RunsAll : Meaning → ℕ → List ℕ → Type 0
RunsAll d s [] = Unit {0}
RunsAll d s (a ∷ rest) = (d.runs s a ≡ true) × RunsAll d (d.next s a) rest

-- the sum of the actions' costs
abbrev pub cost_of : Meaning → List ℕ → ℕ
cost_of d [] = 0
cost_of d (a ∷ rest) = d.cost a + cost_of d rest

-- a plan for goal g from state s: it runs, and its last state meets the goal; the empty list is one where s meets it
pub record PlanFrom (d : Meaning) (s g : ℕ) (plan : List ℕ) : Type 0 where
  pub runs : RunsAll d s plan
  pub meets : d.meets (after d s plan) g ≡ true

-- a plan for a goal, from the start
abbrev pub PlanFor : Meaning → ℕ → List ℕ → Type 0
PlanFor d g plan = PlanFrom d d.start g plan

-- a plan that ends in a complete state
pub record CompletePlan (d : Meaning) (g : ℕ) (plan : List ℕ) : Type 0 where
  pub plan_for : PlanFor d g plan
  pub complete : d.complete (after d d.start plan) ≡ true

-- one of the cheapest among the lists of a kind
pub record Cheapest (d : Meaning) (Kind : List ℕ → Type 0) (plan : List ℕ) : Type 0 where
  pub of_kind : Kind plan
  pub least : (other : List ℕ) → Kind other → cost_of d plan ≤ cost_of d other

-- the least cost of the lists of a kind: some cheapest one costs it, and it is absent where there is no such list
abbrev pub LeastCost : Meaning → (List ℕ → Type 0) → Option ℕ → Type 0
LeastCost d Kind None = (plan : List ℕ) → Kind plan → ⊥
LeastCost d Kind (Some c) = (plan : List ℕ) × (Cheapest d Kind plan × (cost_of d plan ≡ c))
