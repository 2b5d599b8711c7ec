-- A card's file.
use Rattle.std.specs.Prelude.{ℕ, List, Result}
use Rattle.domain.specs.Rooms.{outcome_in}
use Rattle.domain.specs.declared.fault.ReadFault.{ReadFault}
use Rattle.domain.specs.declared.room.Unfilled.{Unfilled}
use Rattle.files.specs.declared.kind.Kind.TheVariants as kind
use Rattle.fluents.specs.declared.FluentSet.{FluentSet}
use Rattle.fluents.specs.SetRecords.{set_entry, entry_set}
use Rattle.formats.specs.Files as files
use Rattle.cards.specs.ActionRecords.{action_entry, entry_action}
use Rattle.cards.specs.Contents.{Contents, contents, InLimits}
use Rattle.cards.specs.Limits.{card_of, parts_of}
use Rattle.cards.specs.declared.action.Action.{Action}
use Rattle.cards.specs.declared.card.Card.{Card}

-- the bytes of a card
abbrev pub card_file : Contents → List ℕ
card_file c = files.parts_file kind.Card action_entry set_entry (parts_of c)

-- reading a card
abbrev pub read_card : List ℕ → Result Contents ReadFault
read_card bs = files.known_as card_of (files.read_parts kind.Card entry_action entry_set bs)

-- what a call that reads a card hands back
abbrev pub outcome : Result Card (Unfilled ReadFault Action FluentSet) → Result Contents ReadFault
outcome = outcome_in contents

-- bytes are read as a card exactly when they are that card's file
abbrev pub ReadExactly : List ℕ → Type 0
ReadExactly = files.ReadExactly read_card card_file InLimits
