-- What a caller sees of tables.
use Rattle.std.specs.Prelude.{ℕ, List, take, vec_items, vec_len}
use Rattle.table.specs.declared.row.Row.{Row}
use Rattle.search.specs.declared.entry.Entry.{Entry}
use Rattle.tables.specs.declared.tables.Tables.{Tables}

abbrev pub row_count : Tables → ℕ
row_count t = vec_len t.rows

-- the rows and the waiting list, of which a caller sees only that they stay
abbrev pub rows_of : Tables → List Row
rows_of t = vec_items t.rows

abbrev pub waiting_of : Tables → List Entry
waiting_of t = vec_items t.waiting

-- the plan place, all of it
abbrev pub place_of : Tables → List ℕ
place_of t = vec_items t.plan

-- the plan that the last search shows, which stands in the front of the plan place
abbrev pub plan_of : Tables → List ℕ
plan_of t = take t.shown (place_of t)
