-- The numbers of a search's refusals.
use Rattle.std.specs.Prelude.{ℕ}
use Rattle.search.specs.declared.fault.SearchFault.{SearchFault}
use Rattle.search.specs.declared.fault.SearchFault.TheVariants.{Goal, Tables, Rows}

abbrev pub search_number : SearchFault → ℕ
search_number Goal = 15
search_number Tables = 16
search_number Rows = 17
