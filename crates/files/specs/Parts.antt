-- What the records of a file stand for, and which parts of a domain can stand in a file.
use Rattle.std.specs.Prelude.{◌≡◌, ℕ, ◌≤◌}
use Rattle.files.specs.declared.kind.Kind.{Kind}
use Rattle.files.specs.declared.kind.Part.TheVariants.{Action, Goal}
use Rattle.files.specs.Contents.{Entry, File, ValidEntry, ValidWith}
use Rattle.files.specs.Formats.{most_of}

-- S stands for the actions' records and G for the goals'; Good says which ones a domain of a size may have
module _ {S G : Type 0} (k : Kind) (make_s : Entry → S) (entry_s : S → Entry) (make_g : Entry → G) (entry_g : G → Entry) (GoodS : ℕ → S → Type 0) (GoodG : ℕ → G → Type 0) where
  -- a valid record and what it stands for are made of each other
  pub record Converts : Type 0 where
    pub action_read : (n : ℕ) → n ≤ most_of k → (e : Entry) → ValidEntry k Action n e → GoodS n (make_s e) × (entry_s (make_s e) ≡ e)
    pub action_written : (n : ℕ) → n ≤ most_of k → (x : S) → GoodS n x → ValidEntry k Action n (entry_s x) × (make_s (entry_s x) ≡ x)
    pub goal_read : (n : ℕ) → n ≤ most_of k → (e : Entry) → ValidEntry k Goal n e → GoodG n (make_g e) × (entry_g (make_g e) ≡ e)
    pub goal_written : (n : ℕ) → n ≤ most_of k → (x : G) → GoodG n x → ValidEntry k Goal n (entry_g x) × (make_g (entry_g x) ≡ x)

  -- the parts that can stand in a file
  abbrev pub ValidParts : File S G → Type 0
  ValidParts f = ValidWith k GoodS GoodG f
