-- What a search in tables promises: what every search does that is lent their places.
use Rattle.std.specs.Prelude.{◌≡◌, ℕ, Ok, Err, Option, Result, ◌≢◌}
use Rattle.domain.specs.Meaning.{Meaning}
use Rattle.search.specs.Answers as lent
use Rattle.search.specs.declared.fault.SearchFault.{SearchFault}
use Rattle.search.specs.declared.fault.SearchFault.TheVariants as faults
use Rattle.tables.specs.declared.tables.Tables.{Tables}
use Rattle.tables.specs.Parts.{row_count, place_of, plan_of}

-- the waiting list and the plan place are as long as the rows
abbrev pub sizes : ℕ → lent.Sizes
sizes rows = record { rows = rows; waiting = rows; places = rows }

-- the answer, with the tables before and after: the costs, and the plan that is shown then.
-- A search in tables is never refused for their sizes, and a refusal leaves the plan that was shown.
abbrev pub Answered : Meaning → ℕ → Tables → Tables → Result (Option ℕ × Option ℕ) SearchFault → Type 0
Answered m goal before after (Ok costs) = lent.Answered m goal (sizes (row_count before)) (place_of before) (place_of after) (Ok (costs, after.shown))
Answered m goal before after (Err fault) = lent.Answered m goal (sizes (row_count before)) (place_of before) (place_of after) (Err fault) × (fault ≢ faults.Tables) × (plan_of after ≡ plan_of before)
