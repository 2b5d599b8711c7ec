-- The numbers of a watch's refusals: those of its log, of the search and of the ranking.
use Rattle.std.specs.Prelude.{ℕ, Ok, Err, Result}
use Rattle.domain.specs.declared.fault.LogFault.{LogFault}
use Rattle.domain.specs.Faults.{log_number}
use Rattle.rank.specs.declared.fault.RankFault.{RankFault}
use Rattle.rank.specs.Faults.{rank_number}
use Rattle.search.specs.Faults.{search_number}
use Rattle.watch.specs.declared.fault.WatchFault.{WatchFault}
use Rattle.watch.specs.declared.fault.WatchFault.TheVariants.{Log, Search, Rank}

abbrev pub watch_number : WatchFault → ℕ
watch_number (Log fault) = log_number fault
watch_number (Search fault) = search_number fault
watch_number (Rank fault) = rank_number fault

-- the outcome of a question about the log
abbrev pub of_log : {X : Type 0} → Result X LogFault → Result X WatchFault
of_log (Ok x) = Ok x
of_log (Err fault) = Err (Log fault)

-- the outcome of a ranking
abbrev pub of_rank : {X : Type 0} → Result X RankFault → Result X WatchFault
of_rank (Ok x) = Ok x
of_rank (Err fault) = Err (Rank fault)
