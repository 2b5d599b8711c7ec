-- The rows of a table, by number.
use Rattle.std.specs.Prelude.{ℕ, false, List, None, slice_index_or}
use Rattle.table.specs.declared.row.Link.{Link}
use Rattle.table.specs.declared.row.Node.{Node}
use Rattle.table.specs.declared.row.Row.{Row}

abbrev pub blank_row : Row
blank_row = record {
  node = record { state = 0; cost = 0; steps = 0; last = None; settled = false };
  place = 0;
  link = record { head = None; next = None };
}

-- the row of a number, and a blank one past the end
abbrev pub at : List Row → ℕ → Row
at rows i = slice_index_or rows i blank_row

-- what the search knows of it
abbrev pub node : List Row → ℕ → Node
node rows i = (at rows i).node

-- how it hangs in the chains, which only this crate's functions follow and change
abbrev pub link_of : List Row → ℕ → Link
link_of rows i = (at rows i).link
