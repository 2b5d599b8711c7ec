-- What a card holds, apart from where it lies in memory.
use Rattle.std.specs.Prelude.{◌≡◌, Option, MatchOption}
use Rattle.files.specs.Outcome.{contents_of}
use Rattle.cards.specs.declared.card.Card.{Card}
use Rattle.cards.specs.Limits.{card_of}
pub use Rattle.cards.specs.Limits.{Contents, InLimits}

-- A function, and no model of the type: for the law of limits a model would hold the limits too,
-- so it would be another record than `Contents`, by which reading and that law are defined.
abbrev pub contents : Card → Contents
contents c = card_of (contents_of c.parts.file)

-- the card that is made of parts: it holds them, and there is one exactly where they are within the limits
abbrev pub MadeOf : Contents → Option Card → Type 0
MadeOf c made = MatchOption made (InLimits c → ⊥) (λ card. contents card ≡ c)
