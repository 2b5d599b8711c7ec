-- What holds while a search goes on: some rows are known, and of these some wait and the others are settled.
use Rattle.std.specs.Prelude.{◌≡◌, ℕ, ◌+◌, ◌-◌, ◌*◌, ◌<◌, ◌≤◌, true, false, List, length, take, None, Option, Result, MatchOption, MatchResult, ◌≢◌}
use Rattle.std.specs.List.{All, Contains}
use Rattle.domain.specs.Meaning.{Meaning}
use Rattle.heap.specs.Order.{HeapOrder}
use Rattle.heap.specs.Tracking.{Tracked}
use Rattle.plans.specs.Reachable.{MoreThan}
use Rattle.table.specs.declared.row.Node.{Node}
use Rattle.table.specs.declared.row.Row.{Row}
use Rattle.table.specs.Index.{Indexed, Found}
use Rattle.table.specs.Rows.{node}
use Rattle.search.specs.declared.entry.Entry.{Entry}
use Rattle.search.specs.declared.fault.SearchFault.{SearchFault}
use Rattle.search.specs.declared.fault.SearchFault.TheVariants.{Rows}
use Rattle.search.specs.declared.progress.Progress.{Progress}
use Rattle.search.specs.Entries.{order, noted, apart}
use Rattle.search.specs.Ways.{Follows, Way, KnownAt, Closed, OneEach}

-- a stage of a search: the rows, the waiting list, and how far it has come
pub record Stage : Type 0 where
  pub rows : List Row
  pub list : List Entry
  pub progress : Progress

abbrev pub stage_of : List Row → List Entry → Progress → Stage
stage_of rows list progress = record { rows = rows; list = list; progress = progress }

-- the known rows that do not wait
abbrev pub settled_count : Progress → ℕ
settled_count p = p.known - p.waiting

-- The nodes. Settled ones cost at most level, and those that wait at least that.
pub record Sound (m : Meaning) (nodes : ℕ → Node) (p : Progress) (level : ℕ) : Type 0 where
  pub few : p.waiting ≤ p.known
  pub one_each : OneEach nodes p.known
  pub start : KnownAt nodes p.known m.start 0
  pub ways : (i : ℕ) → i < p.known → Way m nodes p.known (nodes i)
  pub cheap : (i : ℕ) → i < p.known → (nodes i).cost ≤ 60000 * (nodes i).steps
  -- a way has no more steps than rows were settled
  pub short : (i : ℕ) → i < p.known → (nodes i).steps ≤ settled_count p
  pub shorter : (i : ℕ) → i < p.known → (nodes i).settled ≡ true → (nodes i).steps < settled_count p
  pub below : (i : ℕ) → i < p.known → (nodes i).settled ≡ true → (nodes i).cost ≤ level
  pub above : (i : ℕ) → i < p.known → (nodes i).settled ≡ false → level ≤ (nodes i).cost

-- an entry of a row that waits
pub record Waits (nodes : ℕ → Node) (n : ℕ) (e : Entry) : Type 0 where
  pub row : e.row < n
  pub unsettled : (nodes e.row).settled ≡ false
  pub cost : e.cost ≡ (nodes e.row).cost
  pub state : e.state ≡ (nodes e.row).state

-- every row that waits has an entry
abbrev pub AllWait : (ℕ → Node) → ℕ → List Entry → Type 0
AllWait nodes n entries = (i : ℕ) → i < n → (nodes i).settled ≡ false → (e : Entry) × (Contains entries e × (e.row ≡ i))

-- The waiting list: the entries of the rows that wait, in heap order, and each row notes the place of its own.
pub record Waiting (rows : List Row) (n : ℕ) (entries : List Entry) : Type 0 where
  pub each : All (Waits (node rows) n) entries
  pub all : AllWait (node rows) n entries
  pub tracked : Tracked noted apart rows entries
  pub ordered : HeapOrder order entries

pub record Searching (m : Meaning) (s : Stage) (level : ℕ) : Type 0 where
  pub small : length s.rows ≤ 4096
  pub long : length s.rows ≤ length s.list
  pub indexed : Indexed s.rows s.progress.known
  pub sound : Sound m (node s.rows) s.progress level
  pub waiting : Waiting s.rows s.progress.known (take s.progress.waiting s.list)

-- a way that is offered to the table
pub record Offered (m : Meaning) (nodes : ℕ → Node) (p : Progress) (level : ℕ) (v : Node) : Type 0 where
  pub follows : Follows m nodes p.known v
  pub unsettled : v.settled ≡ false
  pub cheap : v.cost ≤ 60000 * v.steps
  pub short : v.steps ≤ settled_count p
  pub above : level ≤ v.cost

-- a search to which the way may be offered
pub record Offerable (m : Meaning) (s : Stage) (level : ℕ) (v : Node) : Type 0 where
  pub searching : Searching m s level
  pub offered : Offered m (node s.rows) s.progress level v

-- Rows may come and get cheaper; those that are settled stay, and no other is settled.
pub record Grew (before : ℕ → Node) (p : Progress) (after : ℕ → Node) (q : Progress) : Type 0 where
  pub more : p.known ≤ q.known
  pub same_settled : settled_count q ≡ settled_count p
  pub settled : (i : ℕ) → i < p.known → (before i).settled ≡ true → after i ≡ before i
  pub states : (i : ℕ) → i < p.known → (after i).state ≡ (before i).state
  pub costs : (i : ℕ) → i < p.known → (after i).cost ≤ (before i).cost
  pub none_settled : (i : ℕ) → i < q.known → (after i).settled ≡ true → (i < p.known) × ((before i).settled ≡ true)

-- the search after a way was offered
pub record Reached (m : Meaning) (before : Stage) (level : ℕ) (v : Node) (after : Stage) : Type 0 where
  pub searching : Searching m after level
  pub grew : Grew (node before.rows) before.progress (node after.rows) after.progress
  pub known : KnownAt (node after.rows) after.progress.known v.state v.cost
  pub same_length : length after.rows ≡ length before.rows

-- the table is full, and no row has the state
pub record Full (s : Stage) (state : ℕ) : Type 0 where
  pub full : s.progress.known ≡ length s.rows
  pub absent : Found s.rows s.progress.known state None

-- the search takes a way that may be offered to it, or is refused where its state is new and the table is full
abbrev pub TakesWay : {X : Type 0} → Stage → Node → Stage → Result X SearchFault → Type 0
TakesWay before v after result = (m : Meaning) (level : ℕ) → Offerable m before level v → MatchResult result (λ done. Reached m before level v after) (λ fault. (fault ≡ Rows) × Full before v.state)

-- row i has the state of the way, and costs more
pub record Dearer (s : Stage) (i : ℕ) (v : Node) : Type 0 where
  pub row : i < s.progress.known
  pub same : v.state ≡ (node s.rows i).state
  pub cheaper : v.cost < (node s.rows i).cost

-- a node that waited, now settled
abbrev pub as_settled : Node → Node
as_settled v = record { state = v.state; cost = v.cost; steps = v.steps; last = v.last; settled = true }

-- one of the cheapest rows that waited is settled
pub record Settled (m : Meaning) (before : Stage) (i : ℕ) (after : Stage) : Type 0 where
  pub same_known : after.progress.known ≡ before.progress.known
  pub fewer : after.progress.waiting + 1 ≡ before.progress.waiting
  pub row : i < before.progress.known
  pub waited : (node before.rows i).settled ≡ false
  pub here : node after.rows i ≡ as_settled (node before.rows i)
  pub others : (k : ℕ) → (k ≢ i) → node after.rows k ≡ node before.rows k
  pub searching : Searching m after (node before.rows i).cost

-- the next row to settle is taken, or none waits and nothing changes
abbrev pub TakesNext : Stage → Stage → Option ℕ → Type 0
TakesNext before after result = (m : Meaning) (level : ℕ) → Searching m before level → MatchOption result ((before.progress.waiting ≡ 0) × (after ≡ before)) (λ i. Settled m before i after)

-- row i is settled, and v is its node
pub record SettledRow (s : Stage) (i : ℕ) (v : Node) : Type 0 where
  pub row : i < s.progress.known
  pub settled : (node s.rows i).settled ≡ true
  pub here : v ≡ node s.rows i

-- what the first actions lead to from row i is known
pub record Expanded (m : Meaning) (before : Stage) (i actions : ℕ) (after : Stage) : Type 0 where
  pub searching : Searching m after (node before.rows i).cost
  pub grew : Grew (node before.rows) before.progress (node after.rows) after.progress
  pub closed : Closed m (node after.rows) after.progress.known actions (node before.rows i)
  pub same_length : length after.rows ≡ length before.rows

-- the first actions are offered from row i, or that is refused where more states can be reached than there are rows
abbrev pub Expands : {X : Type 0} → Meaning → Stage → ℕ → ℕ → Stage → Result X SearchFault → Type 0
Expands m before i actions after result = MatchResult result (λ done. Expanded m before i actions after) (λ fault. (fault ≡ Rows) × MoreThan m (length before.rows))

-- action a is offered from row i, whose node is v, once the actions before it are offered
abbrev pub OffersNext : {X : Type 0} → Meaning → ℕ → Node → ℕ → Stage → Stage → Result X SearchFault → Type 0
OffersNext m i v a now after result = (before : Stage) → SettledRow before i v → Expanded m before i a now → Expands m before i (a + 1) after result
