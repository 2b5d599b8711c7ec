-- Steps of the loops that read.
use Rattle.std.proofs.Common.{◌≡◌, ℕ, zero, suc, ◌+◌, ◌-◌, ◌/◌, ◌<◌, ◌≤◌, Bool, true, false, cond, List, [], ◌∷◌, ◌++◌, length, get_or, take, drop, Ok, Err, Result, sym, refl, ap, ◌∙◌, append_assoc, add-zero, arith}
use Rattle.std.proofs.lemmas.List.{at_drop_more, append-nil}
use Rattle.domain.specs.declared.fault.ReadFault.{ReadFault}
use Rattle.files.specs.declared.field.Field.{Field}
use Rattle.files.specs.declared.field.Field.TheVariants.{Set}
use Rattle.files.specs.declared.kind.Kind.{Kind}
use Rattle.files.specs.declared.kind.Part.{Part}
use Rattle.files.specs.Contents.{Entry, four_of}
use Rattle.files.specs.Cursors.{in_four}
use Rattle.files.specs.Formats.{bytes_of}
use Rattle.files.proofs.Outcomes.{ok_same, passed, then_ok, known_ok}
use Rattle.files.specs.Reading.{and_then, with_first, is_odd, as_entry, read_field, read_fields, size_of, read_record, read_records, part_with, parts_with}

-- what was read before, and then what is read next
abbrev pub prefixed : {X Y : Type 0} → List X → Result (List X × Y) ReadFault → Result (List X × Y) ReadFault
prefixed xs (Ok y) = Ok (xs ++ y.0, y.1)
prefixed xs (Err e) = Err e

pub prefixed_more : {X Y : Type 0} (xs : List X) (x : X) (r : Result (List X × Y) ReadFault) → prefixed xs (with_first x r) ≡ prefixed (xs ++ (x ∷ [])) r
prefixed_more xs x (Ok y) = ap (λ l. Ok (l, y.1)) (sym (append_assoc xs (x ∷ []) y.0))
prefixed_more xs x (Err e) = refl

-- a turn that reads x, and one that is refused
module _ {X Y Z : Type 0} (xs : List X) (r : Result Z ReadFault) (x : Z → X) (rest : Z → Result (List X × Y) ReadFault) where
  turn_ok : (z : Z) → r ≡ Ok z → prefixed xs (and_then r (λ z. with_first (x z) (rest z))) ≡ prefixed (xs ++ (x z ∷ [])) (rest z)
  turn_ok z e = ap (λ r. prefixed xs (and_then r (λ z. with_first (x z) (rest z)))) e ∙ prefixed_more xs (x z) (rest z)

  turn_err : (f : ReadFault) → r ≡ Err f → prefixed xs (and_then r (λ z. with_first (x z) (rest z))) ≡ Err f
  turn_err f e = ap (λ r. prefixed xs (and_then r (λ z. with_first (x z) (rest z)))) e

-- The fields of a record, from the i-th on.
module _ (fs : List Field) (i : ℕ) where
  pub size_more : (m : ℕ) → i < length fs → size_of m (drop i fs) ≡ cond (is_odd m) (bytes_of (get_or fs i Set)) 0 + size_of (m / 2) (drop (i + 1) fs)
  size_more m h = at_drop_more (size_of m) fs i Set h

-- what was read before is vs, and the field f stands at a byte
module _ (bs : List ℕ) (size r at m : ℕ) (vs : List ℕ) (fs gs : List Field) (f : Field) (is : fs ≡ f ∷ gs) where
  abbrev Rest : Result (List ℕ × (ℕ × ℕ)) ReadFault
  Rest = prefixed vs (read_fields bs size r at m fs)

  pub fields_ok : (v next : ℕ) → read_field bs size r at f (is_odd m) ≡ Ok (v, next) → Rest ≡ prefixed (vs ++ (v ∷ [])) (read_fields bs size r next (m / 2) gs)
  fields_ok v next e = ap (λ fs. prefixed vs (read_fields bs size r at m fs)) is ∙ turn_ok vs _ _ _ (v, next) e

  pub size_first : size_of m fs ≡ cond (is_odd m) (bytes_of f) 0 + size_of (m / 2) gs
  size_first = ap (size_of m) is

-- an array of values before any is read
abbrev pub zeros : List ℕ
zeros = 0 ∷ (0 ∷ (0 ∷ (0 ∷ [])))

-- an array that fields were read into, and nothing behind them
pub four_read : (vs : List ℕ) (i : ℕ) → length vs ≡ 4 → i ≤ 4 → drop i vs ≡ drop i zeros → four_of (take i vs) ≡ vs
four_read (a ∷ (b ∷ (c ∷ (d ∷ [])))) zero l h e = sym e
four_read (a ∷ (b ∷ (c ∷ (d ∷ [])))) (suc zero) l h e = ap (λ t. a ∷ t) (sym e)
four_read (a ∷ (b ∷ (c ∷ (d ∷ [])))) (suc (suc zero)) l h e = ap (λ t. a ∷ (b ∷ t)) (sym e)
four_read (a ∷ (b ∷ (c ∷ (d ∷ [])))) (suc (suc (suc zero))) l h e = ap (λ t. a ∷ (b ∷ (c ∷ t))) (sym e)
four_read (a ∷ (b ∷ (c ∷ (d ∷ [])))) (suc (suc (suc (suc zero)))) l h e = refl
four_read (a ∷ (b ∷ (c ∷ (d ∷ [])))) (suc (suc (suc (suc (suc i))))) l h e = absurd (omega arith)
four_read [] i l h e = absurd (omega arith)
four_read (a ∷ []) i l h e = absurd (omega arith)
four_read (a ∷ (b ∷ [])) i l h e = absurd (omega arith)
four_read (a ∷ (b ∷ (c ∷ []))) i l h e = absurd (omega arith)
four_read (a ∷ (b ∷ (c ∷ (d ∷ (x ∷ xs))))) i l h e = absurd (omega arith)

pub fields_end : (bs : List ℕ) (size r at m : ℕ) (fs : List Field) (vs : List ℕ) (i : ℕ) → length fs ≡ 0 → length vs ≡ 4 → i ≤ 4 → drop i vs ≡ drop i zeros → in_four (prefixed (take i vs) (read_fields bs size r at m fs)) ≡ Ok (vs, m, at)
fields_end bs size r at m [] vs i n l h e = ap (λ t. Ok (four_of t, m, at)) (append-nil (take i vs)) ∙ ap (λ t. Ok (t, m, at)) (four_read vs i l h e)
fields_end bs size r at m (f ∷ fs) vs i n l h e = absurd (omega arith)

-- the values of the fields stand first in an array
first_of_four : (vs : List ℕ) → length vs ≤ 4 → take (length vs) (four_of vs) ≡ vs
first_of_four [] h = refl
first_of_four (a ∷ []) h = refl
first_of_four (a ∷ (b ∷ [])) h = refl
first_of_four (a ∷ (b ∷ (c ∷ []))) h = refl
first_of_four (a ∷ (b ∷ (c ∷ (d ∷ [])))) h = refl
first_of_four (a ∷ (b ∷ (c ∷ (d ∷ (e ∷ vs))))) h = absurd (omega arith)

fields_counted : (bs : List ℕ) (size r : ℕ) (fs : List Field) (at m : ℕ) (y : List ℕ × (ℕ × ℕ)) → read_fields bs size r at m fs ≡ Ok y → length y.0 ≡ length fs
fields_counted bs size r [] at m y e = ap (λ y. length y.0) (sym (ok_same _ y e))
fields_counted bs size r (f ∷ fs) at m y e =
    let one = then_ok (read_field bs size r at f (is_odd m)) _ y e in
    let rest = known_ok _ (read_fields bs size r one.0.1 (m / 2) fs) y one.2 in
    ap (λ y. length y.0) (sym rest.2) ∙ ap suc (fields_counted bs size r fs one.0.1 (m / 2) rest.0 rest.1)

-- what is made of fields in an array
pub made_of_first : {X : Type 0} (make : Entry → X) (bs : List ℕ) (size r : ℕ) (fs : List Field) (at m : ℕ) (x : List ℕ × ℕ × ℕ) → length fs ≤ 4 → Ok x ≡ in_four (read_fields bs size r at m fs)
    → Ok (make (record { values = take (length fs) x.0; marked = is_odd x.1 }), x.2) ≡ part_with make (as_entry (read_fields bs size r at m fs))
made_of_first make bs size r fs at m x few e =
    let was = known_ok _ (read_fields bs size r at m fs) x (sym e) in
    let y = was.0 in
    let count = fields_counted bs size r fs at m y was.1 in
    let values : take (length fs) (four_of y.0) ≡ y.0 = ap (λ n. take n (four_of y.0)) (sym count) ∙ first_of_four y.0 (omega (arith, count, few)) in
    ap (λ x. Ok (make (record { values = take (length fs) x.0; marked = is_odd x.1 }), x.2)) (sym was.2)
    ∙ ap (λ vs. Ok (make (record { values = vs; marked = is_odd y.1.0 }), y.1.1)) values
    ∙ ap (λ r. part_with make (as_entry r)) (sym was.1)

-- the byte after a field
pub field_next : (bs : List ℕ) (size r at : ℕ) (f : Field) (b : Bool) (x : ℕ × ℕ) → read_field bs size r at f b ≡ Ok x → x.1 ≡ at + cond b (bytes_of f) 0
field_next bs size r at f true x e = sym (ap (λ p. p.1) (ok_same _ x (passed _ _ _ x e).1))
field_next bs size r at f false x e = sym (ap (λ p. p.1) (ok_same _ x e)) ∙ sym (add-zero at)

-- The records of a part.
module _ {X : Type 0} (make : Entry → X) (k : Kind) (p : Part) (size : ℕ) (bs : List ℕ) where
  parts_first : (e : Entry) (r : Result (List Entry × ℕ) ReadFault) → parts_with make (with_first e r) ≡ with_first (make e) (parts_with make r)
  parts_first e (Ok y) = refl
  parts_first e (Err f) = refl

  parts_then : (r : Result (Entry × ℕ) ReadFault) (rest : ℕ → Result (List Entry × ℕ) ReadFault) → parts_with make (and_then r (λ x. with_first x.0 (rest x.1))) ≡ and_then (part_with make r) (λ x. with_first x.0 (parts_with make (rest x.1)))
  parts_then (Ok x) rest = parts_first x.0 (rest x.1)
  parts_then (Err f) rest = refl

  -- what was read before is xs, the i-th of n records stands next, and it is number r of the file
  module _ (n i r at : ℕ) (xs : List X) where
    abbrev RestOf : Result (List X × ℕ) ReadFault
    RestOf = prefixed xs (parts_with make (read_records k p size bs (n - i) r at))

    parts_more : i < n → RestOf ≡ prefixed xs (and_then (part_with make (read_record k p size bs r at)) (λ x. with_first x.0 (parts_with make (read_records k p size bs (n - (i + 1)) (r + 1) x.1))))
    parts_more h =
        let e : n - i ≡ suc (n - (i + 1)) = omega arith in
        ap (λ m. prefixed xs (parts_with make (read_records k p size bs m r at))) e
        ∙ ap (prefixed xs) (parts_then (read_record k p size bs r at) (read_records k p size bs (n - (i + 1)) (r + 1)))

    pub parts_ok : (x : X) (next : ℕ) → i < n → part_with make (read_record k p size bs r at) ≡ Ok (x, next) → RestOf ≡ prefixed (xs ++ (x ∷ [])) (parts_with make (read_records k p size bs (n - (i + 1)) (r + 1) next))
    parts_ok x next h e = parts_more h ∙ turn_ok xs _ _ _ (x, next) e

    pub parts_err : (f : ReadFault) → i < n → part_with make (read_record k p size bs r at) ≡ Err f → RestOf ≡ Err f
    parts_err f h e = parts_more h ∙ turn_err xs _ _ _ f e

    pub parts_all : n ≤ i → RestOf ≡ Ok (xs, at)
    parts_all h =
        let e : n - i ≡ 0 = omega arith in
        ap (λ m. prefixed xs (parts_with make (read_records k p size bs m r at))) e ∙ ap (λ l. Ok (l, at)) (append-nil xs)
