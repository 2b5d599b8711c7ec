-- Steps of the functions that write.
use Rattle.std.proofs.Common.{◌⊎◌, ⊎_elim, ◌≡◌, ℕ, ◌+◌, ◌-◌, ◌*◌, ◌%◌, ◌^◌, ◌<◌, ◌≤◌, List, [], ◌∷◌, ◌++◌, map, length, get_or, take, drop, set, Option, None, SomeIff, Ok, Err, sym, refl, ap, ◌∙◌, subst, append_assoc, arith}
use Rattle.std.proofs.lemmas.List.{at_drop_more, drop_all, take_at, drop_at, length-take-le, drop-drop, get_or-drop, length-append, length-drop, length-map, append-nil, take-append-drop, take_all}
use Rattle.std.proofs.lemmas.List.Folds.{flat_map-map}
use Rattle.std.proofs.lemmas.Bool.{le-leb, lt-leb, cond-true, cond-false}
use Rattle.std.specs.Int.{from_bool}
use Rattle.std.specs.List.{flat_map}
use borrow.Rule.Slice.PartMut.{put_mid}
use Rattle.domain.specs.declared.fault.WriteFault.TheVariants.{Place}
use Rattle.files.specs.declared.field.Field.{Field}
use Rattle.files.specs.declared.kind.Kind.{Kind}
use Rattle.files.specs.declared.kind.Kind.TheVariants.{Card, Map}
use Rattle.files.specs.declared.kind.Part.{Part}
use Rattle.files.specs.declared.kind.Part.TheVariants.{Action, Goal}
use Rattle.files.specs.declared.layout.Layout.{Layout}
use Rattle.files.specs.Contents.{Entry, four_of, is_written, bit_map, field_bytes, all_field_bytes, record_bytes, header_bytes, file_bytes}
use Rattle.files.specs.Formats.{bytes_of, start_of, header_length, fields_of}
use Rattle.files.specs.Writing.{Wrote, write_outcome, place_after, raw_of, records_of, file_length}
use Rattle.files.proofs.Numerals.{length_spelled}

-- bytes that are known by another name
pub wrote_as : (xs ys p q : List ℕ) (n : ℕ) → xs ≡ ys → Wrote xs p q n → Wrote ys p q n
wrote_as xs ys p q n e w = subst (λ bs. Wrote bs p q n) e w

-- A place that some of the bytes were written into, so that others are to come.
pub record Begun (bytes rest before after : List ℕ) (count : ℕ) : Type 0 where
  pub front : take count after ++ rest ≡ bytes
  pub back : drop count after ≡ drop count before
  pub inside : count ≤ length after

pub begun_first : (bytes xs ys p q : List ℕ) (n : ℕ) → xs ++ ys ≡ bytes → Wrote xs p q n → Begun bytes ys p q n
begun_first bytes xs ys p q n e w =
    let place = drop n p in
    record {
      front = ap (λ t. take n t ++ ys) w.place_is ∙ ap (λ t. t ++ ys) (take_at xs place n (sym w.count_is)) ∙ e;
      back = ap (drop n) w.place_is ∙ drop_at xs place n (sym w.count_is);
      inside = omega (arith, w.count_is, ap length w.place_is, length-append xs place);
    }

-- what comes next goes behind what was written
module _ (bytes xs ys p q : List ℕ) (m : ℕ) (b : Begun bytes (xs ++ ys) p q m) where
  behind : take (length q - m) (drop m q) ≡ drop m q
  behind = take_all (length q - m) (drop m q) (omega (arith, length-drop m q))

  long : length (take m q) ≡ m
  long = length-take-le m q b.inside

  pub begun_fits : length bytes ≤ length p → length q ≡ length p → length xs ≤ length (take (length q - m) (drop m q))
  begun_fits h l = omega (arith, ap length behind, long, ap length b.front, length-append (take m q) (xs ++ ys), length-append xs ys, length-drop m q)

  pub begun_more : (r : List ℕ) (n : ℕ) → Wrote xs (take (length q - m) (drop m q)) r n → Begun bytes ys p (put_mid m (length q - m) q r) (m + n)
  begun_more r n w =
      let front = take m q ++ xs in
      let back = drop n (drop m q) in
      let end : length front ≡ m + n = omega (arith, long, w.count_is, length-append (take m q) xs) in
      let none : r ++ drop (length q - m) (drop m q) ≡ r = ap (λ t. r ++ t) (drop_all (length q - m) (drop m q) (omega (arith, length-drop m q))) ∙ append-nil r in
      let part : r ≡ xs ++ back = w.place_is ∙ ap (λ t. xs ++ drop n t) behind in
      let place : put_mid m (length q - m) q r ≡ front ++ back = ap (λ t. take m q ++ t) (none ∙ part) ∙ sym (append_assoc (take m q) xs back) in
      record {
        front = ap (λ t. take (m + n) t ++ ys) place ∙ ap (λ t. t ++ ys) (take_at front back (m + n) end) ∙ append_assoc (take m q) xs ys ∙ b.front;
        back = ap (drop (m + n)) place ∙ drop_at front back (m + n) end ∙ ap (drop n) b.back ∙ drop-drop n m p;
        inside = omega (arith, ap length place, length-append front back);
      }

pub begun_all : (bytes p q : List ℕ) (m : ℕ) → Begun bytes [] p q m → Wrote bytes p q m
begun_all bytes p q m b =
    let whole : take m q ≡ bytes = sym (append-nil (take m q)) ∙ b.front in
    record {
      count_is = omega (arith, ap length whole, length-take-le m q b.inside);
      place_is = sym (take-append-drop m q) ∙ ap (λ t. t ++ drop m q) whole ∙ ap (λ t. bytes ++ t) b.back;
    }

-- one byte at the front
pub wrote_byte : (b : ℕ) (place : List ℕ) → 0 < length place → Wrote (b ∷ []) place (set place 0 b) 1
wrote_byte b [] h = absurd (omega arith)
wrote_byte b (x ∷ xs) h = record { count_is = refl; place_is = refl }

-- a field and its value, which stand first among the others
module _ (fs gs : List Field) (vs ws : List ℕ) (f : Field) (v : ℕ) (is : fs ≡ f ∷ gs) (holds : vs ≡ v ∷ ws) where
  map_first : (top : ℕ) → bit_map fs vs top ≡ from_bool (is_written f v) + 2 * bit_map gs ws top
  map_first top = ap (λ fs. bit_map fs vs top) is ∙ ap (λ vs. bit_map (f ∷ gs) vs top) holds

  -- the bit of the field is added to the map so far, and the next field's bit is twice as high
  pub map_more : (top map bit n whole : ℕ) → n ≡ from_bool (is_written f v) → map + bit * bit_map fs vs top ≡ whole → map + bit * n + bit * 2 * bit_map gs ws top ≡ whole
  map_more top map bit n whole e sum = omega (arith, ap (λ n. bit * n) (map_first top), ap (λ n. bit * n) e, sum)

  pub fields_next : (bytes p q : List ℕ) (m : ℕ) → Begun bytes (all_field_bytes fs vs) p q m → Begun bytes (field_bytes f v ++ all_field_bytes gs ws) p q m
  fields_next bytes p q m = subst (λ rest. Begun bytes rest p q m) (ap (λ fs. all_field_bytes fs vs) is ∙ ap (all_field_bytes (f ∷ gs)) holds)

pub fields_few : (k : Kind) (p : Part) → length (fields_of k p) ≤ 4
fields_few Card Action = omega arith
fields_few Card Goal = omega arith
fields_few Map Action = omega arith
fields_few Map Goal = omega arith

-- what is written of four values is what is written of the values themselves
pub bytes_of_four : (k : Kind) (p : Part) (vs : List ℕ) → all_field_bytes (fields_of k p) (four_of vs) ≡ all_field_bytes (fields_of k p) vs
bytes_of_four Card Action vs = simp (get_or-drop)
bytes_of_four Card Goal vs = refl
bytes_of_four Map Action vs = simp (get_or-drop)
bytes_of_four Map Goal vs = refl

pub map_of_four : (k : Kind) (p : Part) (vs : List ℕ) (top : ℕ) → bit_map (fields_of k p) (four_of vs) top ≡ bit_map (fields_of k p) vs top
map_of_four Card Action vs top = simp (get_or-drop)
map_of_four Card Goal vs top = refl
map_of_four Map Action vs top = simp (get_or-drop)
map_of_four Map Goal vs top = refl

-- the bits below the mark's
pub fields_bits : (k : Kind) (p : Part) → 2 ^ length (fields_of k p) ≤ 16
fields_bits Card Action = omega arith
fields_bits Card Goal = omega arith
fields_bits Map Action = omega arith
fields_bits Map Goal = omega arith

-- where no field or no value is left, all is written
pub fields_all : (fs : List Field) (vs bytes p q : List ℕ) (m : ℕ) → length fs ≤ length vs → (length fs ≡ 0) ⊎ (length vs ≡ 0) → Begun bytes (all_field_bytes fs vs) p q m → Wrote bytes p q m
fields_all [] vs bytes p q m few none b = begun_all bytes p q m b
fields_all (f ∷ fs) vs bytes p q m few none b = ⊎_elim (λ e. absurd (omega arith)) (λ e. absurd (omega arith)) none

-- the records of the items from the i-th on
module _ {X : Type 0} (l : Layout) (written : X → Entry) (xs : List X) (i : ℕ) (x : X) (h : i < length xs) (is : x ≡ get_or xs i x) where
  items_first : records_of l written (drop i xs) ≡ record_bytes l.kind l.part (written x) ++ records_of l written (drop (i + 1) xs)
  items_first = at_drop_more (records_of l written) xs i x h ∙ ap (λ y. record_bytes l.kind l.part (written y) ++ records_of l written (drop (i + 1) xs)) (sym is)

  pub items_long : length (records_of l written (drop i xs)) ≡ length (record_bytes l.kind l.part (written x)) + length (records_of l written (drop (i + 1) xs))
  items_long = ap length items_first ∙ length-append (record_bytes l.kind l.part (written x)) (records_of l written (drop (i + 1) xs))

  pub items_next : (bytes p q : List ℕ) (m : ℕ) → Begun bytes (records_of l written (drop i xs)) p q m → Begun bytes (record_bytes l.kind l.part (written x) ++ records_of l written (drop (i + 1) xs)) p q m
  items_next bytes p q m = subst (λ rest. Begun bytes rest p q m) items_first

pub header_long : (k : Kind) (size actions goals start : ℕ) → length (header_bytes k size actions goals start) ≡ header_length k
header_long k size actions goals start = omega (arith, length_spelled (bytes_of (start_of k)) start)

-- a place that all of a file was written into, and one that is too short for it
module _ (bytes place : List ℕ) where
  pub wrote_file : (after : List ℕ) (count : ℕ) → length bytes ≤ length place → Wrote bytes place after count → (Ok count ≡ write_outcome bytes place) × (after ≡ place_after bytes place)
  wrote_file after count h w =
      let fits = le-leb (length bytes) (length place) h in (
        ap Ok w.count_is ∙ sym (cond-true _ _ _ fits),
        w.place_is ∙ ap (λ n. bytes ++ drop n place) w.count_is ∙ sym (cond-true _ _ _ fits),
      )

  pub wrote_nothing : length place < length bytes → (Err Place ≡ write_outcome bytes place) × (place ≡ place_after bytes place)
  wrote_nothing h = let short = lt-leb (length bytes) (length place) h in (sym (cond-false _ _ _ short), sym (cond-false _ _ _ short))

-- A file by its parts.
module _ {S G : Type 0} (k : Kind) (written_s : S → Entry) (written_g : G → Entry) (size start : ℕ) (actions : List S) (goals : List G) where
  abbrev pub header : List ℕ
  header = header_bytes k size (length actions % 256) (length goals % 256) start

  abbrev pub action_records : List ℕ
  action_records = records_of (record { kind = k; part = Action }) written_s actions

  abbrev pub goal_records : List ℕ
  goal_records = records_of (record { kind = k; part = Goal }) written_g goals

  pub file_parts : header ++ (action_records ++ goal_records) ≡ file_bytes k (raw_of written_s written_g size start actions goals)
  file_parts =
      let counts : length actions % 256 % 256 ≡ length (map written_s actions) % 256 = omega (arith, length-map actions written_s) in
      let others : length goals % 256 % 256 ≡ length (map written_g goals) % 256 = omega (arith, length-map goals written_g) in
      let xs : action_records ≡ flat_map (record_bytes k Action) (map written_s actions) = sym (flat_map-map (record_bytes k Action) written_s actions) in
      let ys : goal_records ≡ flat_map (record_bytes k Goal) (map written_g goals) = sym (flat_map-map (record_bytes k Goal) written_g goals) in
      cc

  pub file_long : length (file_bytes k (raw_of written_s written_g size start actions goals)) ≡ file_length k written_s written_g actions goals
  file_long = omega (
    arith,
    ap length file_parts,
    length-append header (action_records ++ goal_records),
    length-append action_records goal_records,
    header_long k size (length actions % 256) (length goals % 256) start,
  )

  -- a place that the file does not fit
  pub file_refused : (place : List ℕ) (left : Option ℕ) → left ≡ None → SomeIff left (file_length k written_s written_g actions goals ≤ length place) (length place - file_length k written_s written_g actions goals)
      → (Err Place ≡ write_outcome (file_bytes k (raw_of written_s written_g size start actions goals)) place) × (place ≡ place_after (file_bytes k (raw_of written_s written_g size start actions goals)) place)
  file_refused place left none is =
      let short : file_length k written_s written_g actions goals ≤ length place → ⊥ = subst (λ left. SomeIff left (file_length k written_s written_g actions goals ≤ length place) (length place - file_length k written_s written_g actions goals)) none is in
      wrote_nothing (file_bytes k (raw_of written_s written_g size start actions goals)) place (omega (arith, short, file_long))
