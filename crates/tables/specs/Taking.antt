-- Taking tables.
use Rattle.std.specs.Prelude.{◌≡◌, ℕ, ◌≤◌, List, [], Ok, Err, Result, codes}
use Rattle.tables.specs.declared.fault.TablesFault.{TablesFault}
use Rattle.tables.specs.declared.fault.TablesFault.TheVariants.{Rows, Memory}
use Rattle.tables.specs.declared.tables.Tables.{Tables}
use Rattle.tables.specs.Parts.{row_count, plan_of}

-- a search works with 1 to 4096 rows
abbrev pub IsCount : ℕ → Type 0
IsCount rows = (1 ≤ rows) × (rows ≤ 4096)

-- there may be no memory for any such count, and other counts are refused
abbrev pub Taken : ℕ → Result Tables TablesFault → Type 0
Taken rows (Ok t) = IsCount rows × (row_count t ≡ rows) × (plan_of t ≡ [])
Taken rows (Err Rows) = IsCount rows → ⊥
Taken rows (Err Memory) = IsCount rows

-- a fault as it is printed
abbrev pub fault_words : TablesFault → List ℕ
fault_words Rows = codes "tables have 1 to 4096 rows"
fault_words Memory = codes "no memory for tables"
