-- Fields of a record: what is read is what was written.
use Rattle.std.proofs.Common.{◌≡◌, ℕ, ◌+◌, ◌*◌, ◌/◌, ◌%◌, ◌^◌, ◌<◌, ◌≤◌, Bool, true, false, cond, ◌&&◌, eqb, ltb, List, [], ◌∷◌, ◌++◌, length, get_or, take, drop, Ok, Err, sym, refl, ap, ◌∙◌, subst, append_assoc, add-zero, arith}
use Rattle.std.specs.Int.{from_bool}
use Rattle.std.specs.List.{AllByRecursion}
use Rattle.std.proofs.lemmas.List.{take-append-drop, drop-drop, length-take-le, length-drop, length-append, take_at, drop_at}
use Rattle.std.proofs.lemmas.Bool.{and_parts, and_from, not-false, ltb-true, lt-ltb, eqb-true, eqb-false, eq-eqb, ne_eqb}
use Rattle.std.proofs.lemmas.Nat.{pow_pos}
use Rattle.domain.specs.declared.fault.ReadFault.TheVariants as Refused
use Rattle.std.proofs.lemmas.List.Elements.{All-take, All-drop}
use Rattle.files.specs.declared.field.Field.{Field}
use Rattle.files.specs.declared.field.Field.TheVariants.{Set, Place, Cost}
use Rattle.files.specs.Contents.{is_written, bit_map, field_bytes, all_field_bytes, InRange}
use Rattle.files.specs.Formats.{bytes_of, absent_of, limit_of}
use Rattle.files.specs.Numbers.{Bytes, little, spelled}
use Rattle.files.specs.Reading.{position, and_then, with_first, is_odd, value_at, read_field, read_fields, size_of}
use Rattle.files.proofs.Numerals.{length_spelled, little_spelled, spelled_little}
use Rattle.files.proofs.Outcomes.{ok_same, passed, then_ok, known_ok}
use Rattle.files.proofs.ReadSteps.{field_next}

-- the lowest bit of a number that is put together from a bit and a rest
pub bit_odd : (b : Bool) (n : ℕ) → is_odd (from_bool b + 2 * n) ≡ b
bit_odd true n = eq-eqb ((1 + 2 * n) % 2) 1 (omega arith)
bit_odd false n = ne_eqb ((0 + 2 * n) % 2) 1 (λ e. omega arith)

pub bit_rest : (b : Bool) (n : ℕ) → (from_bool b + 2 * n) / 2 ≡ n
bit_rest true n = omega arith
bit_rest false n = omega arith

bit_whole : (b : Bool) (m : ℕ) → is_odd m ≡ b → m ≡ from_bool b + 2 * (m / 2)
bit_whole true m e = let low : m % 2 ≡ 1 = eqb-true (m % 2) 1 e in omega arith
bit_whole false m e = let low : m % 2 ≡ 1 → ⊥ = eqb-false (m % 2) 1 e in omega arith

-- an absent value is in range, and is not written
absent_in : (size : ℕ) (f : Field) → 1 ≤ size → absent_of f < limit_of size f
absent_in size Set h = pow_pos size
absent_in size Place h = h
absent_in size Cost h = omega arith

absent_not : (f : Field) → is_written f (absent_of f) ≡ false
absent_not Set = refl
absent_not Place = refl
absent_not Cost = refl

-- A number that is read is the one that is written there.
pub value_read : (bs : List ℕ) (at : ℕ) (f : Field) → Bytes bs → at + bytes_of f ≤ length bs → drop at bs ≡ spelled (bytes_of f) (value_at bs at f) ++ drop (at + bytes_of f) bs
value_read bs at f all h =
    let k = bytes_of f in
    let long : length (take k (drop at bs)) ≡ k = length-take-le k (drop at bs) (omega (arith, length-drop at bs)) in
    let spell : spelled k (value_at bs at f) ≡ take k (drop at bs) = ap (λ n. spelled n (value_at bs at f)) (sym long) ∙ spelled_little (take k (drop at bs)) (All-take (λ b. b < 256) k (drop at bs) (All-drop (λ b. b < 256) at bs all)) in
    sym (take-append-drop k (drop at bs)) ∙ ap (λ t. t ++ drop k (drop at bs)) (sym spell) ∙ ap (λ t. spelled k (value_at bs at f) ++ t) (drop-drop k at bs)

pub value_written : (bs : List ℕ) (at : ℕ) (f : Field) (v : ℕ) (tail : List ℕ) → v < 256 ^ bytes_of f → drop at bs ≡ spelled (bytes_of f) v ++ tail → value_at bs at f ≡ v
value_written bs at f v tail h e = ap (λ t. little (take (bytes_of f) t)) e ∙ ap little (take_at (spelled (bytes_of f) v) tail (bytes_of f) (length_spelled (bytes_of f) v)) ∙ little_spelled (bytes_of f) v h

-- One field that is read.
module _ (bs : List ℕ) (all : Bytes bs) (size r at : ℕ) (some : 1 ≤ size) where
  pub field_read : (f : Field) (b : Bool) (x : ℕ × ℕ) → at + cond b (bytes_of f) 0 ≤ length bs → read_field bs size r at f b ≡ Ok x
      → (x.0 < limit_of size f) × (is_written f x.0 ≡ b) × (drop at bs ≡ field_bytes f x.0 ++ drop x.1 bs)
  field_read f true x h e =
      let p = passed _ _ _ x e in
      let tests = and_parts _ _ p.0 in
      let v = value_at bs at f in
      let same : (v, at + bytes_of f) ≡ x = ok_same _ x p.1 in
      let k = bytes_of f in
      let written : field_bytes f v ≡ spelled k v = ap (λ b. cond b (spelled k v) []) tests.1 in
      let P : ℕ × ℕ → Type 0 = λ x. (x.0 < limit_of size f) × (is_written f x.0 ≡ true) × (drop at bs ≡ field_bytes f x.0 ++ drop x.1 bs) in
      subst P same (ltb-true v (limit_of size f) tests.0, tests.1, value_read bs at f all h ∙ ap (λ t. t ++ drop (at + k) bs) (sym written))
  field_read f false x h e =
      let same : (absent_of f, at) ≡ x = ok_same _ x e in
      let P : ℕ × ℕ → Type 0 = λ x. (x.0 < limit_of size f) × (is_written f x.0 ≡ false) × (drop at bs ≡ field_bytes f x.0 ++ drop x.1 bs) in
      subst P same (absent_in size f some, absent_not f, ap (λ b. cond b (spelled (bytes_of f) (absent_of f)) [] ++ drop at bs) (sym (absent_not f)))

-- All fields that are read: they are in range, the bit map is theirs, and so are the bytes.
pub record FieldsRead (bs : List ℕ) (size at m : ℕ) (fs : List Field) (x : List ℕ × (ℕ × ℕ)) : Type 0 where
  pub in_range : InRange size fs x.0
  pub map : m ≡ bit_map fs x.0 x.1.0
  pub bytes : drop at bs ≡ all_field_bytes fs x.0 ++ drop x.1.1 bs

module _ (bs : List ℕ) (all : Bytes bs) (size r : ℕ) (some : 1 ≤ size) where
  pub fields_read : (fs : List Field) (at m : ℕ) (x : List ℕ × (ℕ × ℕ)) → at + size_of m fs ≤ length bs → read_fields bs size r at m fs ≡ Ok x → FieldsRead bs size at m fs x
  fields_read [] at m x h e = subst (FieldsRead bs size at m []) (ok_same _ x e) (record { in_range = tt; map = refl; bytes = refl })
  fields_read (f ∷ fs) at m x h e =
      let one = then_ok (read_field bs size r at f (is_odd m)) _ x e in
      let v = one.0.0 in
      let next = one.0.1 in
      let rest = known_ok _ (read_fields bs size r next (m / 2) fs) x one.2 in
      let vs = rest.0.0 in
      let top = rest.0.1.0 in
      let end = rest.0.1.1 in
      let step : next ≡ at + cond (is_odd m) (bytes_of f) 0 = field_next bs size r at f (is_odd m) one.0 one.1 in
      let here = field_read bs all size r at some f (is_odd m) one.0 (omega arith) one.1 in
      let there = fields_read fs next (m / 2) rest.0 (omega arith) rest.1 in
      let low : from_bool (is_written f v) ≡ from_bool (is_odd m) = ap from_bool here.1 in
      let whole : m ≡ from_bool (is_odd m) + 2 * (m / 2) = bit_whole (is_odd m) m refl in
      let high : m / 2 ≡ bit_map fs vs top = there.map in
      subst (FieldsRead bs size at m (f ∷ fs)) rest.2
      (record {
        in_range = (here.0, there.in_range);
        map = omega arith;
        bytes = here.2 ∙ ap (λ t. field_bytes f v ++ t) there.bytes ∙ sym (append_assoc (field_bytes f v) (all_field_bytes fs vs) (drop end bs));
      })

-- One field that was written.
length_if : (f : Field) (v : ℕ) (b : Bool) → length (cond b (spelled (bytes_of f) v) []) ≡ cond b (bytes_of f) 0
length_if f v true = length_spelled (bytes_of f) v
length_if f v false = refl

pub length_field : (f : Field) (v : ℕ) → length (field_bytes f v) ≡ cond (is_written f v) (bytes_of f) 0
length_field f v = length_if f v (is_written f v)

pub after_bytes : (bs : List ℕ) (at : ℕ) (xs tail : List ℕ) → drop at bs ≡ xs ++ tail → drop (at + length xs) bs ≡ tail
after_bytes bs at xs tail e = sym (drop-drop (length xs) at bs) ∙ ap (drop (length xs)) e ∙ drop_at xs tail (length xs) refl

module _ (bs : List ℕ) (size r at : ℕ) (f : Field) (v : ℕ) (tail : List ℕ) (low : v < limit_of size f) (narrow : limit_of size f ≤ 256 ^ bytes_of f) where
  written_if : (b : Bool) → is_written f v ≡ b → drop at bs ≡ cond b (spelled (bytes_of f) v) [] ++ tail → read_field bs size r at f b ≡ Ok (v, at + cond b (bytes_of f) 0)
  written_if true w e =
      let k = bytes_of f in
      let value : value_at bs at f ≡ v = value_written bs at f v tail (omega arith) e in
      let refusal = Err (Refused.Field (position r at)) in
      ap (λ u. cond (ltb u (limit_of size f) && is_written f u) (Ok (u, at + k)) refusal) value
      ∙ ap (λ b. cond b (Ok (v, at + k)) refusal) (and_from _ _ (lt-ltb v (limit_of size f) low) w)
  written_if false w e = ap (λ u. Ok (u, at)) absent ∙ ap (λ n. Ok (v, n)) (sym (add-zero at))
    where
      absent : absent_of f ≡ v
      absent = sym (eqb-true v (absent_of f) (not-false (eqb v (absent_of f)) w))

  pub field_written : drop at bs ≡ field_bytes f v ++ tail → read_field bs size r at f (is_written f v) ≡ Ok (v, at + length (field_bytes f v))
  field_written e = written_if (is_written f v) refl e ∙ ap (λ n. Ok (v, at + n)) (sym (length_field f v))

-- All fields that were written.
abbrev pub Narrow : ℕ → List Field → Type 0
Narrow size fs = AllByRecursion (λ f. limit_of size f ≤ 256 ^ bytes_of f) fs

pub size_written : (fs : List Field) (vs : List ℕ) (top : ℕ) → size_of (bit_map fs vs top) fs ≡ length (all_field_bytes fs vs)
size_written [] vs top = refl
size_written (f ∷ fs) vs top =
    let v = get_or vs 0 0 in
    let w = is_written f v in
    let rest = bit_map fs (drop 1 vs) top in
    let low : cond (is_odd (from_bool w + 2 * rest)) (bytes_of f) 0 ≡ length (field_bytes f v) = ap (λ b. cond b (bytes_of f) 0) (bit_odd w rest) ∙ sym (length_field f v) in
    let high : size_of ((from_bool w + 2 * rest) / 2) fs ≡ length (all_field_bytes fs (drop 1 vs)) = ap (λ m. size_of m fs) (bit_rest w rest) ∙ size_written fs (drop 1 vs) top in
    omega (arith, length-append (field_bytes f v) (all_field_bytes fs (drop 1 vs)))

module _ (bs : List ℕ) (size r : ℕ) where
  pub fields_written : (fs : List Field) (vs : List ℕ) (at top : ℕ) (tail : List ℕ) → Narrow size fs → InRange size fs vs → drop at bs ≡ all_field_bytes fs vs ++ tail
      → read_fields bs size r at (bit_map fs vs top) fs ≡ Ok (vs, (top, at + length (all_field_bytes fs vs)))
  fields_written [] [] at top tail n i e = ap (λ m. Ok ([], (top, m))) (sym (add-zero at))
  fields_written [] (v ∷ vs) at top tail n i e = absurd i
  fields_written (f ∷ fs) [] at top tail n i e = absurd i
  fields_written (f ∷ fs) (v ∷ vs) at top tail n i e =
      let w = is_written f v in
      let rest = bit_map fs vs top in
      let next = at + length (field_bytes f v) in
      let e' : drop at bs ≡ field_bytes f v ++ (all_field_bytes fs vs ++ tail) = e ∙ append_assoc (field_bytes f v) (all_field_bytes fs vs) tail in
      let one : read_field bs size r at f (is_odd (from_bool w + 2 * rest)) ≡ Ok (v, next) = ap (read_field bs size r at f) (bit_odd w rest) ∙ field_written bs size r at f v (all_field_bytes fs vs ++ tail) i.0 n.0 e' in
      let more : read_fields bs size r next ((from_bool w + 2 * rest) / 2) fs ≡ Ok (vs, (top, next + length (all_field_bytes fs vs))) = ap (λ m. read_fields bs size r next m fs) (bit_rest w rest) ∙ fields_written fs vs next top tail n.1 i.1 (after_bytes bs at (field_bytes f v) (all_field_bytes fs vs ++ tail) e') in
      let end : next + length (all_field_bytes fs vs) ≡ at + length (field_bytes f v ++ all_field_bytes fs vs) = omega (arith, length-append (field_bytes f v) (all_field_bytes fs vs)) in
      ap (λ q. and_then q (λ x. with_first x.0 (read_fields bs size r x.1 ((from_bool w + 2 * rest) / 2) fs))) one
      ∙ ap (with_first v) more
      ∙ ap (λ m. Ok (v ∷ vs, (top, m))) end
