-- Files by what their records stand for: reading and writing are inverse to each other.
use Rattle.std.proofs.Common.{◌≡◌, ℕ, List, [], ◌∷◌, map, Ok, sym, refl, ap, ◌∙◌, subst, arith}
use Rattle.std.specs.List.{All}
use Rattle.std.proofs.lemmas.List.{length-map}
use Rattle.std.proofs.lemmas.List.Elements.{All-head, All-tail, All-map, All-weaker}
use Rattle.files.specs.declared.kind.Kind.{Kind}
use Rattle.files.specs.declared.kind.Part.TheVariants.{Action, Goal}
use Rattle.files.specs.Contents.{Entry, File, RawFile, file_bytes, ValidEntry, ValidFile}
use Rattle.files.specs.Exact.{ReadExactly}
use Rattle.files.specs.Parts.{Converts, ValidParts}
use Rattle.files.specs.Reading.{read_file, file_with}
use Rattle.files.specs.Writing.{raw_of}
use Rattle.files.proofs.Outcomes.{known_ok}
use Rattle.files.proofs.WholeFiles.{file_written}

-- there and back again, of each element
module _ {X Y : Type 0} (P : X → Type 0) (Q : Y → Type 0) (f : X → Y) (g : Y → X) (each : (x : X) → P x → Q (f x) × (g (f x) ≡ x)) where
  all_there : (xs : List X) → All P xs → All Q (map f xs)
  all_there xs h = All-map Q f xs (All-weaker P (λ x. Q (f x)) (λ x p. (each x p).0) xs h)

  all_back : (xs : List X) → All P xs → map g (map f xs) ≡ xs
  all_back [] h = refl
  all_back (x ∷ xs) h = ap (λ y. y ∷ map g (map f xs)) (each x (All-head P x xs h)).1 ∙ ap (λ ys. x ∷ ys) (all_back xs (All-tail P x xs h))

-- S stands for the actions' records and G for the goals'; Good says which ones a domain of a size may have
module _ {S G : Type 0} (k : Kind) (make_s : Entry → S) (entry_s : S → Entry) (make_g : Entry → G) (entry_g : G → Entry) (GoodS : ℕ → S → Type 0) (GoodG : ℕ → G → Type 0) where
  abbrev Valid : File S G → Type 0
  Valid f = ValidParts k make_s entry_s make_g entry_g GoodS GoodG f

  -- a typed file as it was made of bare records, and those of a typed one
  abbrev pub typed : RawFile → File S G
  typed f = record { size = f.size; start = f.start; actions = map make_s f.actions; goals = map make_g f.goals }

  abbrev pub bare : File S G → RawFile
  bare f = raw_of entry_s entry_g f.size f.start f.actions f.goals

  module _ (c : Converts k make_s entry_s make_g entry_g GoodS GoodG) where
    bare_typed : (f : RawFile) → ValidFile k f → Valid (typed f) × (bare (typed f) ≡ f)
    bare_typed f v =
        let n = f.size in (
          record {
            size_low = v.size_low;
            size_high = v.size_high;
            actions_low = omega (arith, length-map f.actions make_s, v.actions_low);
            actions_high = omega (arith, length-map f.actions make_s, v.actions_high);
            goals_low = omega (arith, length-map f.goals make_g, v.goals_low);
            goals_high = omega (arith, length-map f.goals make_g, v.goals_high);
            start_in = v.start_in;
            actions_valid = all_there (ValidEntry k Action n) (GoodS n) make_s entry_s (c.action_read n v.size_high) f.actions v.actions_valid;
            goals_valid = all_there (ValidEntry k Goal n) (GoodG n) make_g entry_g (c.goal_read n v.size_high) f.goals v.goals_valid;
          },
          ap (λ xs. record { size = n; start = f.start; actions = xs; goals = map entry_g (map make_g f.goals) }) (all_back (ValidEntry k Action n) (GoodS n) make_s entry_s (c.action_read n v.size_high) f.actions v.actions_valid)
              ∙ ap (λ ys. record { size = n; start = f.start; actions = f.actions; goals = ys }) (all_back (ValidEntry k Goal n) (GoodG n) make_g entry_g (c.goal_read n v.size_high) f.goals v.goals_valid),
        )

    typed_bare : (f : File S G) → Valid f → ValidFile k (bare f) × (typed (bare f) ≡ f)
    typed_bare f v =
        let n = f.size in (
          record {
            size_low = v.size_low;
            size_high = v.size_high;
            actions_low = omega (arith, length-map f.actions entry_s, v.actions_low);
            actions_high = omega (arith, length-map f.actions entry_s, v.actions_high);
            goals_low = omega (arith, length-map f.goals entry_g, v.goals_low);
            goals_high = omega (arith, length-map f.goals entry_g, v.goals_high);
            start_in = v.start_in;
            actions_valid = all_there (GoodS n) (ValidEntry k Action n) entry_s make_s (c.action_written n v.size_high) f.actions v.actions_valid;
            goals_valid = all_there (GoodG n) (ValidEntry k Goal n) entry_g make_g (c.goal_written n v.size_high) f.goals v.goals_valid;
          },
          ap (λ xs. record { size = n; start = f.start; actions = xs; goals = map make_g (map entry_g f.goals) }) (all_back (GoodS n) (ValidEntry k Action n) entry_s make_s (c.action_written n v.size_high) f.actions v.actions_valid)
              ∙ ap (λ ys. record { size = n; start = f.start; actions = f.actions; goals = ys }) (all_back (GoodG n) (ValidEntry k Goal n) entry_g make_g (c.goal_written n v.size_high) f.goals v.goals_valid),
        )

    pub parts_read : (bs : List ℕ) → ReadExactly k bs → (f : File S G) → file_with make_s make_g (read_file k bs) ≡ Ok f → Valid f × (bs ≡ file_bytes k (bare f))
    parts_read bs exact f e =
        let was = known_ok typed (read_file k bs) f e in
        let raw = was.0 in
        let known = exact.only raw was.1 in
        let same = bare_typed raw known.0 in
        subst (λ f. Valid f × (bs ≡ file_bytes k (bare f))) was.2 (same.0, known.1 ∙ ap (file_bytes k) (sym same.1))

    pub parts_written : (f : File S G) → Valid f → file_with make_s make_g (read_file k (file_bytes k (bare f))) ≡ Ok f
    parts_written f v =
        let same = typed_bare f v in
        ap (file_with make_s make_g) (file_written k (bare f) same.0) ∙ ap Ok same.1
