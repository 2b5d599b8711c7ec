-- The parts of a card and their limits: its sets lie among its fluents, and a cost is at most 60000.
use Rattle.std.specs.Prelude.{ℕ, ◌^◌, ◌<◌, ◌≤◌, List, length, All}
use Rattle.cards.specs.declared.action.Action.{Action}
use Rattle.files.specs.Contents.{File}
use Rattle.fluents.specs.SetRecords.{set_of}
use Rattle.fluents.specs.declared.FluentSet.{FluentSet}

-- the set has no fluent but the first n
abbrev pub Among : ℕ → FluentSet → Type 0
Among n set = set.0 < 2 ^ n

abbrev pub ActionAmong : ℕ → Action → Type 0
ActionAmong n a = Among n a.needs × Among n a.adds × Among n a.deletes × (a.cost ≤ 60000)

pub record Contents : Type 0 where
  pub fluents : ℕ
  pub start : FluentSet
  pub actions : List Action
  pub goals : List FluentSet

-- the card that a file tells of, and the parts of a card as its file has them
abbrev pub card_of : File Action FluentSet → Contents
card_of f = record { fluents = f.size; start = set_of f.start; actions = f.actions; goals = f.goals }

abbrev pub parts_of : Contents → File Action FluentSet
parts_of c = record { size = c.fluents; start = c.start.0; actions = c.actions; goals = c.goals }

-- the limits of every card
pub record InLimits (c : Contents) : Type 0 where
  pub fluents_low : 1 ≤ c.fluents
  pub fluents_high : c.fluents ≤ 55
  pub actions_low : 1 ≤ length c.actions
  pub actions_high : length c.actions ≤ 120
  pub goals_low : 1 ≤ length c.goals
  pub goals_high : length c.goals ≤ 32
  pub start_among : Among c.fluents c.start
  pub actions_among : All (ActionAmong c.fluents) c.actions
  pub goals_among : All (Among c.fluents) c.goals
