-- The file of a domain's parts, and bytes that are read as parts.
use Rattle.std.specs.Prelude.{◌≡◌, ℕ, List, Ok, Result}
use Rattle.domain.specs.declared.fault.ReadFault.{ReadFault}
use Rattle.files.specs.declared.kind.Kind.{Kind}
use Rattle.files.specs.Contents.{Entry, File, file_bytes}
use Rattle.files.specs.Reading.{read_file, file_with}
use Rattle.files.specs.Writing.{raw_of}
pub use Rattle.files.specs.Reading.{known_as}

-- the bytes of a domain of these parts
abbrev pub parts_file : {S G : Type 0} → Kind → (S → Entry) → (G → Entry) → File S G → List ℕ
parts_file k written_s written_g f = file_bytes k (raw_of written_s written_g f.size f.start f.actions f.goals)

-- reading the parts of a domain
abbrev pub read_parts : {S G : Type 0} → Kind → (Entry → S) → (Entry → G) → List ℕ → Result (File S G) ReadFault
read_parts k made_s made_g bs = file_with made_s made_g (read_file k bs)

-- bytes are read exactly when they are the file of what is read
pub record ReadExactly {X : Type 0} (read : List ℕ → Result X ReadFault) (file : X → List ℕ) (Limits : X → Type 0) (bs : List ℕ) : Type 0 where
  pub only : (x : X) → read bs ≡ Ok x → Limits x × (bs ≡ file x)
  pub every : (x : X) → Limits x → bs ≡ file x → read bs ≡ Ok x
