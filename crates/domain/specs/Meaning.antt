-- What a planning domain is, in numbers, yes and no, with no type of the code.
use Rattle.std.specs.Prelude.{◌≡◌, ℕ, ◌^◌, ◌<◌, ◌≤◌, Bool, false}

-- The facts that every question about a domain is answered by. Actions and goals are numbered from 0.
pub record Meaning : Type 0 where
  -- a state is a number below 2 ^ width
  pub width : ℕ
  -- how many actions there are, and how many goals
  pub actions : ℕ
  pub goals : ℕ
  pub start : ℕ
  -- of a state and an action: can it run there, and which state follows
  pub runs : ℕ → ℕ → Bool
  pub next : ℕ → ℕ → ℕ
  pub cost : ℕ → ℕ
  -- a marked action is one that the console always logs
  pub marked : ℕ → Bool
  -- of a state and a goal
  pub meets : ℕ → ℕ → Bool
  -- a complete state is one at which a plan may count as whole
  pub complete : ℕ → Bool

-- The limits of a domain, and its conventions for numbers out of range.
pub record Limits (m : Meaning) : Type 0 where
  pub width_low : 1 ≤ m.width
  pub width_high : m.width ≤ 60
  pub actions_low : 1 ≤ m.actions
  pub actions_high : m.actions ≤ 120
  pub goals_low : 1 ≤ m.goals
  pub goals_high : m.goals ≤ 32
  pub start_in : m.start < 2 ^ m.width
  pub next_in : (s a : ℕ) → s < 2 ^ m.width → m.next s a < 2 ^ m.width
  pub cost_high : (a : ℕ) → m.cost a ≤ 60000
  -- an action that cannot run leaves the state as it is
  pub next_same : (s a : ℕ) → m.runs s a ≡ false → m.next s a ≡ s
  -- a number that is no state
  pub runs_no_state : (s a : ℕ) → 2 ^ m.width ≤ s → m.runs s a ≡ false
  pub meets_no_state : (s g : ℕ) → 2 ^ m.width ≤ s → m.meets s g ≡ false
  pub complete_no_state : (s : ℕ) → 2 ^ m.width ≤ s → m.complete s ≡ false
  -- a number that is no action
  pub runs_no_action : (s a : ℕ) → m.actions ≤ a → m.runs s a ≡ false
  pub cost_no_action : (a : ℕ) → m.actions ≤ a → m.cost a ≡ 0
  pub marked_no_action : (a : ℕ) → m.actions ≤ a → m.marked a ≡ false
  -- a number that is no goal
  pub meets_no_goal : (s g : ℕ) → m.goals ≤ g → m.meets s g ≡ false
