-- The law of reading: bytes are read as a file exactly when they are that file's bytes.
use Rattle.std.specs.Prelude.{◌≡◌, ℕ, List, Ok}
use Rattle.files.specs.declared.kind.Kind.{Kind}
use Rattle.files.specs.Contents.{RawFile, file_bytes, ValidFile}
use Rattle.files.specs.Reading.{read_file}

pub record ReadExactly (k : Kind) (bs : List ℕ) : Type 0 where
  -- what is read is within its limits, and written again it has the same bytes
  pub only : (f : RawFile) → read_file k bs ≡ Ok f → ValidFile k f × (bs ≡ file_bytes k f)
  -- and every such file is read
  pub every : (f : RawFile) → ValidFile k f → bs ≡ file_bytes k f → read_file k bs ≡ Ok f
