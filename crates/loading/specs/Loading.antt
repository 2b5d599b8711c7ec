-- Loading a domain of either kind from the bytes of its file.
use Rattle.std.specs.Prelude.{◌≡◌, ℕ, if◌then◌else◌, List, Ok, Err, Result, ◌==◌, slice_index}
use Rattle.domain.specs.declared.fault.ReadFault.{ReadFault}
use Rattle.cards.specs.CardFiles.{card_file, read_card}
use Rattle.maps.specs.MapFiles.{map_file, read_map}
use Rattle.files.specs.declared.kind.Kind.{Kind}
use Rattle.files.specs.declared.kind.Kind.TheVariants as kind
use Rattle.formats.specs.Files as files
use Rattle.loading.specs.declared.any_domain.AnyDomain.{AnyDomain}
use Rattle.loading.specs.declared.fault.LoadFault.{LoadFault}
use Rattle.loading.specs.declared.fault.LoadFault.TheVariants.{Room, Read}
use Rattle.loading.specs.Contents.{Contents, of_card, of_map, contents}
use Rattle.loading.specs.Meanings.{InLimits}

-- the bytes of a domain
abbrev pub domain_file : Contents → List ℕ
domain_file (of_card c) = card_file c
domain_file (of_map m) = map_file m

-- the kind of domain that bytes are read as
abbrev pub kind_of : List ℕ → Kind
kind_of bs = if slice_index bs 0 == 77 then kind.Map else kind.Card

-- after the letter M a map is read, and else a card, which asks for its own letter
abbrev pub load : List ℕ → Result Contents ReadFault
load bs = if slice_index bs 0 == 77 then files.known_as of_map (read_map bs) else files.known_as of_card (read_card bs)

-- bytes are loaded exactly when they are the file of what is loaded
abbrev pub ReadExactly : List ℕ → Type 0
ReadExactly = files.ReadExactly load domain_file InLimits

-- what a call that loads a domain hands back: apart from want of memory, what loading is defined to be
abbrev pub Loads : List ℕ → Result AnyDomain LoadFault → Type 0
Loads bs (Ok d) = load bs ≡ Ok (contents d)
Loads bs (Err (Read fault)) = load bs ≡ Err fault
Loads bs (Err (Room fault)) = Unit {0}
