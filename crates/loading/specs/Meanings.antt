-- What a domain of either kind means, and its limits.
use Rattle.domain.specs.Meaning.{Meaning, Limits}
use Rattle.cards.specs.Contents as cards
use Rattle.cards.specs.Cards as cards_mean
use Rattle.cards.specs.Laws as cards_laws
use Rattle.maps.specs.Contents as maps
use Rattle.maps.specs.Maps as maps_mean
use Rattle.maps.specs.Laws as maps_laws
use Rattle.loading.specs.declared.any_domain.AnyDomain.{AnyDomain}
use Rattle.loading.specs.declared.any_domain.AnyDomain.TheVariants.{Card, Map}
use Rattle.loading.specs.Contents.{Contents, of_card, of_map, contents}

abbrev pub meaning_of : Contents → Meaning
meaning_of (of_card c) = cards_mean.meaning_of c
meaning_of (of_map m) = maps_mean.meaning_of m

abbrev pub InLimits : Contents → Type 0
InLimits (of_card c) = cards.InLimits c
InLimits (of_map m) = maps.InLimits m

-- either kind keeps the limits of every domain
pub limits : (d : Contents) → InLimits d → Limits (meaning_of d)
limits (of_card c) l = cards_laws.limits c l
limits (of_map m) l = maps_laws.limits m l

-- every card and every map is within its limits
pub in_limits : (d : AnyDomain) → InLimits (contents d)
in_limits (Card c) = cards_laws.in_limits c
in_limits (Map m) = maps_laws.in_limits m
