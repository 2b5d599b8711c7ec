-- Bytes are loaded exactly when they are the file of what is loaded.
use Rattle.std.proofs.Common.{◌≡◌, ℕ, Bool, true, false, if◌then◌else◌, List, Ok, ap, subst, ◌∙◌, ◌==◌, slice_index, Fits, w8, get_or}
use Rattle.files.proofs.Numerals.{bytes_typed}
use Rattle.files.proofs.WholeFiles.{read_exactly}
use Rattle.files.specs.declared.kind.Kind.TheVariants as kind
use Rattle.files.proofs.Outcomes.{known_ok}
use Rattle.formats.specs.Files as files
use Rattle.cards.proofs.FileLaws.{card_again, card_exactly}
use Rattle.cards.specs.CardFiles as card
use Rattle.maps.proofs.FileLaws.{map_again, map_exactly}
use Rattle.maps.specs.MapFiles as map
use Rattle.loading.specs.Contents.{Contents, of_card, of_map}
use Rattle.loading.specs.Loading.{domain_file, load, ReadExactly}
use Rattle.loading.specs.Meanings.{InLimits}

-- what is loaded after a letter M, or after another one
loaded : (bs : List ℕ) → card.ReadExactly bs → map.ReadExactly bs → (letter : Bool) (x : Contents)
    → (if letter then files.known_as of_map (map.read_map bs) else files.known_as of_card (card.read_card bs)) ≡ Ok x → InLimits x × (bs ≡ domain_file x)
loaded bs cards maps true x e = let was = known_ok of_map (map.read_map bs) x e in subst (λ x. InLimits x × (bs ≡ domain_file x)) was.2 (maps.only was.0 was.1)
loaded bs cards maps false x e = let was = known_ok of_card (card.read_card bs) x e in subst (λ x. InLimits x × (bs ≡ domain_file x)) was.2 (cards.only was.0 was.1)

-- a domain that is written is loaded again
load_again : (x : Contents) → InLimits x → load (domain_file x) ≡ Ok x
load_again (of_card c) l = ap (files.known_as of_card) (card_again c l)
load_again (of_map m) l = ap (files.known_as of_map) (map_again m l)

pub load_exactly : (bs : List ℕ) → ((k : ℕ) → Fits w8 (get_or bs k 0)) → ReadExactly bs
load_exactly bs typed =
    let all = bytes_typed bs typed in
    record {
      only = loaded bs (card_exactly bs (read_exactly kind.Card bs all)) (map_exactly bs (read_exactly kind.Map bs all)) (slice_index bs 0 == 77);
      every = λ x l e. ap load e ∙ load_again x l;
    }
