-- The number of a ranking's refusal.
use Rattle.std.specs.Prelude.{ℕ}
use Rattle.rank.specs.declared.fault.RankFault.{RankFault}
use Rattle.rank.specs.declared.fault.RankFault.TheVariants.{Place}

abbrev pub rank_number : RankFault → ℕ
rank_number Place = 18
