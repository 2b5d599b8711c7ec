-- Records of a file: what is read is what was written.
use Rattle.std.proofs.Common.{◌≡◌, ℕ, zero, suc, ◌+◌, ◌-◌, ◌*◌, ◌^◌, ◌<◌, ◌≤◌, Bool, true, false, ◌&&◌, ltb, leb, List, [], ◌∷◌, ◌++◌, length, get_or, drop, Ok, sym, refl, ap, ◌∙◌, subst, append_assoc, add-zero, pow-suc, arith}
use native.Mathlib.Nat.{pow-le-pow_right}
use Rattle.std.specs.Int.{from_bool}
use Rattle.std.specs.List.{flat_map, All}
use Rattle.std.proofs.lemmas.List.{drop_more, drop-drop, length-drop, length-append, get_or-drop}
use Rattle.std.proofs.lemmas.List.Elements.{All-nil, All-cons, All-head, All-tail}
use Rattle.std.proofs.lemmas.Bool.{ltb-true, lt-ltb, leb-true, le-leb, cond-true}
use Rattle.files.specs.declared.field.Field.{Field}
use Rattle.files.specs.declared.kind.Kind.{Kind}
use Rattle.files.specs.declared.kind.Kind.TheVariants.{Card, Map}
use Rattle.files.specs.declared.kind.Part.{Part}
use Rattle.files.specs.declared.kind.Part.TheVariants.{Action, Goal}
use Rattle.files.specs.Contents.{Entry, is_written, bit_map, all_field_bytes, mark_bit, record_bytes, ValidEntry}
use Rattle.files.specs.Formats.{most_of, fields_of, is_markable, bit_count}
use Rattle.files.specs.Numbers.{Bytes}
use Rattle.files.specs.Reading.{and_then, with_first, is_odd, read_fields, size_of, as_entry, read_record, read_records}
use Rattle.files.proofs.Fields.{FieldsRead, fields_read, Narrow, size_written, fields_written, after_bytes}
use Rattle.files.proofs.Outcomes.{ok_same, passed, then_ok, known_ok}

pub bit_low : (b : Bool) → from_bool b ≤ 1
bit_low true = omega arith
bit_low false = omega arith

-- a defined bit map has nothing above the fields' bits but the mark's
bit_of : (n : ℕ) → n < 2 → n ≡ from_bool (is_odd n)
bit_of zero h = refl
bit_of (suc zero) h = refl
bit_of (suc (suc n)) h = absurd (omega arith)

none_of : (n : ℕ) → n < 1 → (n ≡ 0) × (false ≡ is_odd n)
none_of zero h = (refl, refl)
none_of (suc n) h = absurd (omega arith)

top_read : (k : Kind) (p : Part) (vs : List ℕ) (top : ℕ) → bit_map (fields_of k p) vs top < 2 ^ bit_count k p → (top ≡ from_bool (is_markable p && is_odd top)) × ((is_markable p && is_odd top) ≡ is_odd top)
top_read Card Action vs top h = (bit_of top (omega arith), refl)
top_read Card Goal vs top h = none_of top (omega arith)
top_read Map Action vs top h = (bit_of top (omega arith), refl)
top_read Map Goal vs top h = none_of top (omega arith)

pub map_below : (fs : List Field) (vs : List ℕ) (top c : ℕ) → top < 2 ^ c → bit_map fs vs top < 2 ^ (length fs + c)
map_below [] vs top c h = let e : c ≡ 0 + c = omega arith in subst (λ n. top < 2 ^ n) e h
map_below (f ∷ fs) vs top c h =
    let e : suc (length fs) + c ≡ suc (length fs + c) = omega arith in
    let double : 2 ^ (suc (length fs) + c) ≡ 2 ^ (length fs + c) * 2 = ap (λ n. 2 ^ n) e ∙ pow-suc 2 (length fs + c) in
    omega (arith, bit_low (is_written f (get_or vs 0 0)), map_below fs (drop 1 vs) top c h)

mark_below : (p : Part) (m : Bool) → from_bool (is_markable p && m) < 2 ^ from_bool (is_markable p)
mark_below Action m = omega (arith, bit_low m)
mark_below Goal m = omega arith

pub map_defined : (k : Kind) (p : Part) (e : Entry) → bit_map (fields_of k p) e.values (mark_bit p e) < 2 ^ bit_count k p
map_defined k p e = map_below (fields_of k p) e.values (mark_bit p e) (from_bool (is_markable p)) (mark_below p e.marked)

-- a bit map has five bits at most
pub map_small : (k : Kind) (p : Part) (e : Entry) → bit_map (fields_of k p) e.values (mark_bit p e) < 32
map_small Card Action e = map_defined Card Action e
map_small Card Goal e = omega (arith, map_defined Card Goal e)
map_small Map Action e = omega (arith, map_defined Map Action e)
map_small Map Goal e = omega (arith, map_defined Map Goal e)

pub record RecordRead (k : Kind) (p : Part) (size : ℕ) (bs : List ℕ) (at : ℕ) (x : Entry × ℕ) : Type 0 where
  pub valid : ValidEntry k p size x.0
  pub bytes : drop at bs ≡ record_bytes k p x.0 ++ drop x.1 bs

module _ (bs : List ℕ) (all : Bytes bs) (k : Kind) (p : Part) (size : ℕ) (some : 1 ≤ size) where
  pub record_read : (r at : ℕ) (x : Entry × ℕ) → read_record k p size bs r at ≡ Ok x → RecordRead k p size bs at x
  record_read r at x e =
      let fs = fields_of k p in
      let m = get_or bs at 0 in
      let there = passed _ _ _ x e in
      let defined = passed _ _ _ x there.1 in
      let whole = passed _ _ _ x defined.1 in
      let inside : at < length bs = ltb-true at (length bs) there.0 in
      let small : m < 2 ^ bit_count k p = ltb-true m (2 ^ bit_count k p) defined.0 in
      let room : at + 1 + size_of m fs ≤ length bs = leb-true (at + 1 + size_of m fs) (length bs) whole.0 in
      let y = known_ok _ (read_fields bs size r (at + 1) m fs) x whole.1 in
      let vs = y.0.0 in
      let top = y.0.1.0 in
      let fields : FieldsRead bs size (at + 1) m fs y.0 = fields_read bs all size r some fs (at + 1) m y.0 room y.1 in
      let mark = top_read k p vs top (subst (λ n. n < 2 ^ bit_count k p) fields.map small) in
      let map : m ≡ bit_map fs vs (from_bool (is_markable p && is_odd top)) = fields.map ∙ ap (bit_map fs vs) mark.0 in
      subst (RecordRead k p size bs at) y.2
      (record {
        valid = (fields.in_range, mark.1);
        bytes = drop_more bs at 0 inside ∙ ap (λ n. n ∷ drop (at + 1) bs) map ∙ ap (λ t. bit_map fs vs (from_bool (is_markable p && is_odd top)) ∷ t) fields.bytes;
      })

  pub record RecordsRead (n at : ℕ) (x : List Entry × ℕ) : Type 0 where
    pub valid : All (ValidEntry k p size) x.0
    pub count : length x.0 ≡ n
    pub bytes : drop at bs ≡ flat_map (record_bytes k p) x.0 ++ drop x.1 bs

  pub records_read : (n r at : ℕ) (x : List Entry × ℕ) → read_records k p size bs n r at ≡ Ok x → RecordsRead n at x
  records_read zero r at x e = subst (RecordsRead zero at) (ok_same _ x e) (record { valid = All-nil (ValidEntry k p size); count = refl; bytes = refl })
  records_read (suc n) r at x e =
      let one = then_ok (read_record k p size bs r at) _ x e in
      let entry = one.0.0 in
      let next = one.0.1 in
      let rest = known_ok _ (read_records k p size bs n (r + 1) next) x one.2 in
      let here = record_read r at one.0 one.1 in
      let there = records_read n (r + 1) next rest.0 rest.1 in
      subst (RecordsRead (suc n) at) rest.2
      (record {
        valid = All-cons (ValidEntry k p size) entry rest.0.0 here.valid there.valid;
        count = ap suc there.count;
        bytes = here.bytes ∙ ap (λ t. record_bytes k p entry ++ t) there.bytes ∙ sym (append_assoc (record_bytes k p entry) (flat_map (record_bytes k p) rest.0.0) (drop rest.0.1 bs));
      })

-- the limits of a domain fit the bytes of its fields
set_narrow : (size : ℕ) → size ≤ 55 → 2 ^ size ≤ 256 ^ 7
set_narrow size h = let small : 2 ^ size ≤ 2 ^ 55 = pow-le-pow_right {n = 2} (omega arith) {i = size} {j = 55} h in omega arith

pub narrow : (k : Kind) (p : Part) (size : ℕ) → size ≤ most_of k → Narrow size (fields_of k p)
narrow Card Action size h = (set_narrow size h, (set_narrow size h, (set_narrow size h, (omega arith, tt))))
narrow Card Goal size h = (set_narrow size h, tt)
narrow Map Action size h = (omega arith, (omega arith, (omega arith, tt)))
narrow Map Goal size h = (omega arith, tt)

odd_bit : (b : Bool) → is_odd (from_bool b) ≡ b
odd_bit true = refl
odd_bit false = refl

module _ (bs : List ℕ) (k : Kind) (p : Part) (size : ℕ) (most : size ≤ most_of k) where
  pub record_written : (r at : ℕ) (e : Entry) (tail : List ℕ) → ValidEntry k p size e → drop at bs ≡ record_bytes k p e ++ tail
      → read_record k p size bs r at ≡ Ok (e, at + length (record_bytes k p e))
  record_written r at e tail valid b =
      let fs = fields_of k p in
      let m = bit_map fs e.values (mark_bit p e) in
      let fields = all_field_bytes fs e.values in
      let long : length bs - at ≡ suc (length fields + length tail) = sym (length-drop at bs) ∙ ap length b ∙ ap suc (length-append fields tail) in
      let first : get_or bs at 0 ≡ m = ap (λ n. get_or bs n 0) (sym (add-zero at)) ∙ sym (get_or-drop at bs 0 0) ∙ ap (λ t. get_or t 0 0) b in
      let after : drop (at + 1) bs ≡ fields ++ tail = sym (drop-drop 1 at bs) ∙ ap (drop 1) b in
      let there : ltb at (length bs) ≡ true = lt-ltb at (length bs) (omega arith) in
      let defined : ltb (get_or bs at 0) (2 ^ bit_count k p) ≡ true = ap (λ n. ltb n (2 ^ bit_count k p)) first ∙ lt-ltb m (2 ^ bit_count k p) (map_defined k p e) in
      let whole : leb (at + 1 + size_of (get_or bs at 0) fs) (length bs) ≡ true = ap (λ n. leb (at + 1 + size_of n fs) (length bs)) first ∙ le-leb (at + 1 + size_of m fs) (length bs) (omega (arith, size_written fs e.values (mark_bit p e))) in
      let read : read_fields bs size r (at + 1) (get_or bs at 0) fs ≡ Ok (e.values, (mark_bit p e, at + 1 + length fields)) = ap (λ n. read_fields bs size r (at + 1) n fs) first ∙ fields_written bs size r fs e.values (at + 1) (mark_bit p e) tail (narrow k p size most) valid.0 after in
      let marked : is_odd (mark_bit p e) ≡ e.marked = odd_bit (is_markable p && e.marked) ∙ valid.1 in
      let end : at + 1 + length fields ≡ at + suc (length fields) = omega arith in
      cond-true _ _ _ there
      ∙ cond-true _ _ _ defined
      ∙ cond-true _ _ _ whole
      ∙ ap as_entry read
      ∙ ap (λ b. Ok (record { values = e.values; marked = b }, at + 1 + length fields)) marked
      ∙ ap (λ n. Ok (e, n)) end

  pub records_written : (r at : ℕ) (es : List Entry) (tail : List ℕ) → All (ValidEntry k p size) es → drop at bs ≡ flat_map (record_bytes k p) es ++ tail
      → read_records k p size bs (length es) r at ≡ Ok (es, at + length (flat_map (record_bytes k p) es))
  records_written r at [] tail valid b = ap (λ n. Ok ([], n)) (sym (add-zero at))
  records_written r at (e ∷ es) tail valid b =
      let here = record_bytes k p e in
      let rest = flat_map (record_bytes k p) es in
      let b' : drop at bs ≡ here ++ (rest ++ tail) = b ∙ append_assoc here rest tail in
      let next = at + length here in
      let end : next + length rest ≡ at + length (here ++ rest) = omega (arith, length-append here rest) in
      ap (λ q. and_then q (λ x. with_first x.0 (read_records k p size bs (length es) (r + 1) x.1))) (record_written r at e (rest ++ tail) (All-head (ValidEntry k p size) e es valid) b')
      ∙ ap (with_first e) (records_written (r + 1) next es tail (All-tail (ValidEntry k p size) e es valid) (after_bytes bs at here (rest ++ tail) b'))
      ∙ ap (λ n. Ok (e ∷ es, n)) end
