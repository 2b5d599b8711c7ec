-- The entries of the waiting list, and the order in which they are taken.
use Rattle.std.specs.Prelude.{◌≡◌, ℕ, ◌<◌, List, length}
use Rattle.std.specs.declared.cmp.Ordering.{Ordering}
use Rattle.std.specs.Cmp.{IsTotalOrder, nat_cmp_total, on_total, then_total}
use Rattle.std.specs.Ordering.{nat_cmp, ordering_then}
use Rattle.table.specs.declared.row.Node.{Node}
use Rattle.table.specs.declared.row.Row.{Row}
use Rattle.table.specs.Rows.{at, link_of}
use Rattle.search.specs.declared.entry.Entry.{Entry}

-- the entry of a node in a row
abbrev pub entry_of : Node → ℕ → Entry
entry_of v i = record { cost = v.cost; state = v.state; row = i }

-- by cost, then by state, then by row
abbrev pub ordered : Entry → Entry → Ordering
ordered x y = ordering_then (nat_cmp x.cost y.cost) (ordering_then (nat_cmp x.state y.state) (nat_cmp x.row y.row))

abbrev pub order : IsTotalOrder ordered
order = then_total (on_total (λ (e : Entry). e.cost) nat_cmp_total) (then_total (on_total (λ (e : Entry). e.state) nat_cmp_total) (on_total (λ (e : Entry). e.row) nat_cmp_total))

-- the entry's row notes the place where it stands
abbrev pub noted : List Row → Entry → ℕ → Type 0
noted rows e place = e.row < length rows → (at rows e.row).place ≡ place

-- entries of different rows keep their notes from each other
abbrev pub apart : Entry → Entry → Type 0
apart x y = x.row ≡ y.row → ⊥

-- nothing of the rows differs but the places that they note
pub record Kept (before after : List Row) : Type 0 where
  pub long : length after ≡ length before
  pub nodes : (k : ℕ) → (at after k).node ≡ (at before k).node
  pub links : (k : ℕ) → link_of after k ≡ link_of before k
