-- Reading and writing the parts of a domain are inverse to each other.
use Rattle.std.proofs.Common.{◌≡◌, ◌↔◌, ℕ, List, Ok, sym, refl, ap, ◌∙◌, subst}
use Rattle.std.proofs.Math.Logic.{∥∥₁_elim}
use Rattle.files.specs.declared.kind.Kind.{Kind}
use Rattle.files.specs.Contents.{Entry, File}
use Rattle.files.specs.Exact as files
use Rattle.files.specs.Parts.{Converts, ValidParts}
use Rattle.files.proofs.Outcomes.{known_ok}
use Rattle.files.proofs.Typed.{parts_read, parts_written}
use Rattle.formats.specs.Files.{parts_file, read_parts, known_as, ReadExactly}

module _ {S G : Type 0} {k : Kind} {make_s : Entry → S} {entry_s : S → Entry} {make_g : Entry → G} {entry_g : G → Entry} {GoodS : ℕ → S → Type 0} {GoodG : ℕ → G → Type 0} {Limits : File S G → Type 0} (converts : Converts k make_s entry_s make_g entry_g GoodS GoodG) (same : (f : File S G) → Limits f ↔ ValidParts k make_s entry_s make_g entry_g GoodS GoodG f) where
  -- parts that are written are read again
  pub parts_again : (f : File S G) → Limits f → read_parts k make_s make_g (parts_file k entry_s entry_g f) ≡ Ok f
  parts_again f l = parts_written k make_s entry_s make_g entry_g GoodS GoodG converts f ((same f).0 l)

  -- j is the kind that was asked for
  pub parts_exactly : (j : Kind) → j ≡ k → (bs : List ℕ) → files.ReadExactly j bs → ReadExactly (read_parts k make_s make_g) (parts_file k entry_s entry_g) Limits bs
  parts_exactly j is bs exact = record {
    only = λ f e. let p = parts_read k make_s entry_s make_g entry_g GoodS GoodG converts bs (subst (λ k. files.ReadExactly k bs) is exact) f e in ((same f).1 p.0, p.1);
    every = λ f l e. ap (read_parts k make_s make_g) e ∙ parts_again f l;
  }

  pub parts_known : (j : Kind) → j ≡ k → (bs : List ℕ) → files.ReadExactly j bs → (f : File S G) → Ok f ≡ read_parts j make_s make_g bs → Limits f × (bs ≡ parts_file k entry_s entry_g f)
  parts_known j is bs exact f e = (parts_exactly j is bs exact).only f (sym (e ∙ ap (λ k. read_parts k make_s make_g bs) is))

-- C is a domain in its own words, which are made of its parts and its parts of them
module _ {S G C : Type 0} (words : File S G → C) (parts : C → File S G) (to_words : (c : C) → words (parts c) ≡ c) (to_parts : (f : File S G) → parts (words f) ≡ f) (InLimits : C → Type 0) where
  module _ (k : Kind) (make_s : Entry → S) (entry_s : S → Entry) (make_g : Entry → G) (entry_g : G → Entry) where
    -- the law of reading, from that of the parts
    pub told_exactly : (bs : List ℕ) → ReadExactly (read_parts k make_s make_g) (parts_file k entry_s entry_g) (λ f. InLimits (words f)) bs
        → ReadExactly (λ bs. known_as words (read_parts k make_s make_g bs)) (λ c. parts_file k entry_s entry_g (parts c)) InLimits bs
    told_exactly bs exact = record {
      only = λ c e.
          let was = known_ok words (read_parts k make_s make_g bs) c e in
          let law = exact.only was.0 was.1 in
          subst (λ c. InLimits c × (bs ≡ parts_file k entry_s entry_g (parts c))) was.2 (law.0, law.1 ∙ ap (parts_file k entry_s entry_g) (sym (to_parts was.0)));
      every = λ c l e. ap (known_as words) (exact.every (parts c) (subst InLimits (sym (to_words c)) l) e) ∙ ap Ok (to_words c);
    }

  module _ {k : Kind} {make_s : Entry → S} {entry_s : S → Entry} {make_g : Entry → G} {entry_g : G → Entry} {GoodS : ℕ → S → Type 0} {GoodG : ℕ → G → Type 0} (converts : Converts k make_s entry_s make_g entry_g GoodS GoodG) (same : (f : File S G) → InLimits (words f) ↔ ValidParts k make_s entry_s make_g entry_g GoodS GoodG f) where
    -- a domain that is written is read again
    pub told_again : (c : C) → InLimits c → known_as words (read_parts k make_s make_g (parts_file k entry_s entry_g (parts c))) ≡ Ok c
    told_again c l = ap (known_as words) (parts_again converts same (parts c) (subst InLimits (sym (to_words c)) l)) ∙ ap Ok (to_words c)

    pub all_exactly : (bs : List ℕ) → files.ReadExactly k bs → ReadExactly (λ bs. known_as words (read_parts k make_s make_g bs)) (λ c. parts_file k entry_s entry_g (parts c)) InLimits bs
    all_exactly bs exact = told_exactly k make_s entry_s make_g entry_g bs (parts_exactly converts same k refl bs exact)

-- limits out of their truncation, where they have one proof at most
pub limits_out : {P : Type 0} → IsProp P → ∥ P ∥₁ → P
limits_out one l = ∥∥₁_elim l one (λ l. l)
