-- What a domain of either kind holds, apart from where it lies in memory.
use Rattle.cards.specs.Contents as cards
use Rattle.maps.specs.Contents as maps
use Rattle.loading.specs.declared.any_domain.AnyDomain.{AnyDomain}
use Rattle.loading.specs.declared.any_domain.AnyDomain.TheVariants.{Card, Map}

pub data Contents : Type 0 where
  of_card : cards.Contents → Contents
  of_map : maps.Contents → Contents

abbrev pub contents : AnyDomain → Contents
contents (Card c) = of_card (cards.contents c)
contents (Map m) = of_map (maps.contents m)
