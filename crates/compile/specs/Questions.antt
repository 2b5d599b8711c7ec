-- The questions that are asked of a card and a log, given as bytes, an entry to a byte, in their order.
use Rattle.std.specs.Prelude.{ℕ, ◌+◌, ◌<◌, ◌≤◌, if◌then◌else◌, List, length, Ok, Err, Result, nat_le, slice_index}
use Rattle.domain.specs.declared.fault.LogFault.{LogFault}
use Rattle.cards.specs.Contents.{Contents, InLimits}
use Rattle.logs.specs.Reading.{read_log}
use Rattle.compile.specs.declared.fault.CompileFault.{CompileFault}
use Rattle.compile.specs.declared.fault.CompileFault.TheVariants.{Log, Fluents, Actions, Goals}

-- a card takes at most 55 fluents, 120 actions and 32 goals
abbrev pub fitting : Contents → List ℕ → Result (List ℕ) CompileFault
fitting c log =
    if nat_le (c.fluents + length log) 55 then
    if nat_le (length c.actions + length log) 120 then
    if nat_le (length c.goals + length c.goals) 32 then
    Ok log
    else Err Goals
    else Err Actions
    else Err Fluents

-- the log's own questions come first
abbrev pub then_fitting : Contents → Result (List ℕ) LogFault → Result (List ℕ) CompileFault
then_fitting c (Ok log) = fitting c log
then_fitting c (Err fault) = Err (Log fault)

abbrev pub accepted_log : Contents → List ℕ → Result (List ℕ) CompileFault
accepted_log c bytes = then_fitting c (read_log bytes (length c.actions))

-- what a log and a card are known to be once all questions are answered yes
pub record Fits (c : Contents) (log : List ℕ) : Type 0 where
  pub few : length log ≤ 20
  pub entries_below : (j : ℕ) → j < length log → slice_index log j < length c.actions
  pub fluents_high : c.fluents + length log ≤ 55
  pub actions_high : length c.actions + length log ≤ 120
  pub goals_high : length c.goals + length c.goals ≤ 32

-- a card and a log of which all questions were answered yes
pub record Asked : Type 0 where
  pub card : Contents
  pub log : List ℕ
  pub limits : InLimits card
  pub fits : Fits card log
