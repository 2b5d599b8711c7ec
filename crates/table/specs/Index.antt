-- How a state is found: the rows are in chains, one for each number below the table's length, and each chain goes from its latest row back.
use Rattle.std.specs.Prelude.{◌≡◌, ℕ, ◌+◌, ◌*◌, ◌/◌, ◌%◌, ◌^◌, ◌<◌, ◌≤◌, List, length, Some, None, Option, ◌≢◌}
use Rattle.table.specs.declared.row.Node.{Node}
use Rattle.table.specs.declared.row.Row.{Row}
use Rattle.table.specs.Rows.{at, node, link_of}

-- the chain of a state, spread over the table by a multiplication
abbrev pub chain_of : ℕ → ℕ → ℕ
chain_of size s = s * 0x9E3779B97F4A7C15 % 2 ^ 64 / 2 ^ 32 % size

abbrev pub chain : List Row → ℕ → ℕ
chain rows i = chain_of (length rows) (node rows i).state

-- the latest of the first n rows that is in chain b, if one is
abbrev pub Latest : List Row → ℕ → ℕ → Option ℕ → Type 0
Latest rows n b None = (i : ℕ) → i < n → chain rows i ≢ b
Latest rows n b (Some j) = (j < n) × (chain rows j ≡ b) × ((i : ℕ) → j < i → i < n → chain rows i ≢ b)

-- the first n rows can be found
pub record Indexed (rows : List Row) (n : ℕ) : Type 0 where
  pub fits : n ≤ length rows
  pub heads : (b : ℕ) → b < length rows → Latest rows n b (link_of rows b).head
  pub nexts : (i : ℕ) → i < n → Latest rows i (chain rows i) (link_of rows i).next

-- what a look-up answers: a row that has the state, or that none of the first n has it
abbrev pub Found : List Row → ℕ → ℕ → Option ℕ → Type 0
Found rows n s None = (i : ℕ) → i < n → (node rows i).state ≢ s
Found rows n s (Some i) = (i < n) × ((node rows i).state ≡ s)

-- only row i is other than it was, and only what the search knows of it
pub record Put (before : List Row) (i : ℕ) (new : Node) (after : List Row) : Type 0 where
  pub long : length after ≡ length before
  pub here : i < length before → node after i ≡ new
  pub others : (k : ℕ) → (k ≢ i) → at after k ≡ at before k
  pub place : (at after i).place ≡ (at before i).place
  pub link : link_of after i ≡ link_of before i

-- row i joins the chain of its state at the front
pub record Linked (before : List Row) (i : ℕ) (after : List Row) : Type 0 where
  pub long : length after ≡ length before
  pub nodes : (k : ℕ) → node after k ≡ node before k
  pub places : (k : ℕ) → (at after k).place ≡ (at before k).place
  pub next : (link_of after i).next ≡ (link_of before (chain before i)).head
  pub nexts : (k : ℕ) → (k ≢ i) → (link_of after k).next ≡ (link_of before k).next
  pub head : (link_of after (chain before i)).head ≡ Some i
  pub heads : (b : ℕ) → (b ≢ chain before i) → (link_of after b).head ≡ (link_of before b).head

-- a row more: the nodes before it and all places stay, and it can be found if they could
pub record Added (before : List Row) (n : ℕ) (new : Node) (after : List Row) : Type 0 where
  pub long : length after ≡ length before
  pub here : node after n ≡ new
  pub others : (k : ℕ) → (k ≢ n) → node after k ≡ node before k
  pub places : (k : ℕ) → (at after k).place ≡ (at before k).place
  pub indexed : Indexed before n → Indexed after (n + 1)
