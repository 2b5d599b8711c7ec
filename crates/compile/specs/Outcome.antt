-- What comes out when a log is compiled into a card.
use Rattle.std.specs.Prelude.{ℕ, List, Result}
use Rattle.domain.specs.Rooms.{outcome_in}
use Rattle.domain.specs.declared.room.Unfilled.{Unfilled}
use Rattle.files.specs.Reading.{known_as}
use Rattle.fluents.specs.declared.FluentSet.{FluentSet}
use Rattle.cards.specs.Contents.{Contents, contents}
use Rattle.cards.specs.declared.action.Action.{Action}
use Rattle.cards.specs.declared.card.Card.{Card}
use Rattle.compile.specs.Compiled.{compiled}
use Rattle.compile.specs.Questions.{accepted_log}
use Rattle.compile.specs.declared.fault.CompileFault.{CompileFault}

-- the compiled card, if all questions are answered yes
abbrev pub compiled_if : Contents → Result (List ℕ) CompileFault → Result Contents CompileFault
compiled_if c r = known_as (compiled c) r

abbrev pub compile_log : Contents → List ℕ → Result Contents CompileFault
compile_log c bytes = compiled_if c (accepted_log c bytes)

-- what a call that compiles hands back
abbrev pub outcome : Result Card (Unfilled CompileFault Action FluentSet) → Result Contents CompileFault
outcome = outcome_in contents
