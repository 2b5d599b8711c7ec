-- A card's file: bytes are read as a card exactly when they are that card's file.
use Rattle.std.proofs.Common.{◌≡◌, ℕ, List, Ok, refl}
use Rattle.files.specs.declared.kind.Kind.TheVariants as kind
use Rattle.files.specs.Exact as bytes
use Rattle.fluents.specs.SetRecords.{set_entry, entry_set}
use Rattle.formats.specs.Files as files
use Rattle.formats.proofs.FileLaws as formats
use Rattle.cards.specs.ActionRecords.{action_entry, entry_action}
use Rattle.cards.specs.CardFiles.{card_file, read_card, ReadExactly}
use Rattle.cards.specs.Contents.{Contents, InLimits}
use Rattle.cards.specs.Conversions.{converts, same_limits}
use Rattle.cards.specs.Limits.{card_of, parts_of}

-- a card that is written is read again
pub card_again : (c : Contents) → InLimits c → read_card (card_file c) ≡ Ok c
card_again = formats.told_again card_of parts_of (λ c. refl) (λ f. refl) InLimits converts same_limits

-- the law of reading, from that of the card's parts
pub told_exactly : (bs : List ℕ) → files.ReadExactly (files.read_parts kind.Card entry_action entry_set) (files.parts_file kind.Card action_entry set_entry) (λ f. InLimits (card_of f)) bs → ReadExactly bs
told_exactly = formats.told_exactly card_of parts_of (λ c. refl) (λ f. refl) InLimits kind.Card entry_action action_entry entry_set set_entry

pub card_exactly : (bs : List ℕ) → bytes.ReadExactly kind.Card bs → ReadExactly bs
card_exactly = formats.all_exactly card_of parts_of (λ c. refl) (λ f. refl) InLimits converts same_limits
