-- Whole files: what is read is what was written.
use Rattle.std.proofs.Common.{◌≡◌, ℕ, ◌+◌, ◌%◌, ◌^◌, ◌<◌, ◌≤◌, true, ltb, List, [], ◌∷◌, ◌++◌, length, get_or, drop, Ok, sym, refl, ap, ◌∙◌, subst, arith}
use Rattle.std.specs.List.{flat_map}
use Rattle.std.proofs.lemmas.List.{drop_more, drop_all, length-append, append-nil}
use Rattle.std.proofs.lemmas.Bool.{and_parts, and_from, ltb-true, lt-ltb, leb-true, le-leb, eqb-true, eq-eqb, cond-true}
use Rattle.files.specs.declared.kind.Kind.{Kind}
use Rattle.files.specs.declared.kind.Kind.TheVariants.{Card, Map}
use Rattle.files.specs.declared.kind.Part.TheVariants.{Action, Goal}
use Rattle.files.specs.declared.header.Header.{Header}
use Rattle.files.specs.Contents.{RawFile, record_bytes, file_bytes, ValidFile}
use Rattle.files.specs.Exact.{ReadExactly}
use Rattle.files.specs.Formats.{bytes_of, limit_of, letter_of, most_of, start_of, header_length}
use Rattle.files.specs.Numbers.{Bytes, spelled}
use Rattle.files.specs.Reading.{and_then, value_at, read_records, is_count, read_header, read_end, read_body, read_file}
use Rattle.files.proofs.Fields.{value_read, value_written, after_bytes}
use Rattle.files.proofs.Numerals.{length_spelled}
use Rattle.files.proofs.Outcomes.{ok_same, passed, then_ok}
use Rattle.files.proofs.Records.{RecordsRead, records_read, narrow, records_written}

-- The header.
record HeaderRead (k : Kind) (bs : List ℕ) (h : Header) : Type 0 where
  letter : get_or bs 0 0 ≡ letter_of k
  long : header_length k ≤ length bs
  size_count : is_count (most_of k) h.size ≡ true
  action_count : is_count 120 h.actions ≡ true
  goal_count : is_count 32 h.goals ≡ true
  start_in : h.start < limit_of h.size (start_of k)
  is : record { size = get_or bs 1 0; actions = get_or bs 2 0; goals = get_or bs 3 0; start = value_at bs 4 (start_of k) } ≡ h

header_read : (k : Kind) (bs : List ℕ) (h : Header) → read_header k bs ≡ Ok h → HeaderRead k bs h
header_read k bs h e =
    let letter = passed _ _ _ h e in
    let long = passed _ _ _ h letter.1 in
    let size = passed _ _ _ h long.1 in
    let actions = passed _ _ _ h size.1 in
    let goals = passed _ _ _ h actions.1 in
    let start = passed _ _ _ h goals.1 in
    subst (HeaderRead k bs) (ok_same _ h start.1)
    (record {
      letter = eqb-true (get_or bs 0 0) (letter_of k) letter.0;
      long = leb-true (header_length k) (length bs) long.0;
      size_count = size.0;
      action_count = actions.0;
      goal_count = goals.0;
      start_in = ltb-true (value_at bs 4 (start_of k)) (limit_of (get_or bs 1 0) (start_of k)) start.0;
      is = refl;
    })

count_parts : (most n : ℕ) → is_count most n ≡ true → (1 ≤ n) × (n ≤ most)
count_parts most n e = let p = and_parts _ _ e in (leb-true 1 n p.0, leb-true n most p.1)

count_from : (most n : ℕ) → 1 ≤ n → n ≤ most → is_count most n ≡ true
count_from most n low high = and_from _ _ (le-leb 1 n low) (le-leb n most high)

-- the first four bytes
front : (bs : List ℕ) → 4 ≤ length bs → bs ≡ get_or bs 0 0 ∷ (get_or bs 1 0 ∷ (get_or bs 2 0 ∷ (get_or bs 3 0 ∷ drop 4 bs)))
front bs h =
    drop_more bs 0 0 (omega arith)
    ∙ ap (λ t. get_or bs 0 0 ∷ t) (drop_more bs 1 0 (omega arith)
    ∙ ap (λ t. get_or bs 1 0 ∷ t) (drop_more bs 2 0 (omega arith)
    ∙ ap (λ t. get_or bs 2 0 ∷ t) (drop_more bs 3 0 (omega arith))))

byte_mod : (n : ℕ) → n < 256 → n % 256 ≡ n
byte_mod n h = omega arith

-- the start is always written, so the header is longer than its four bytes
header_long : (k : Kind) → 4 ≤ header_length k
header_long Card = omega arith
header_long Map = omega arith

file_read : (k : Kind) (bs : List ℕ) → Bytes bs → (f : RawFile) → read_file k bs ≡ Ok f → ValidFile k f × (bs ≡ file_bytes k f)
file_read k bs all f e =
    let one = then_ok (read_header k bs) (read_body k bs) f e in
    let h = one.0 in
    let head : HeaderRead k bs h = header_read k bs h one.1 in
    let sizes = count_parts (most_of k) h.size head.size_count in
    let actions = count_parts 120 h.actions head.action_count in
    let goals = count_parts 32 h.goals head.goal_count in
    let first = then_ok (read_records k Action h.size bs h.actions 1 (header_length k)) _ f one.2 in
    let x = first.0 in
    let second = then_ok (read_records k Goal h.size bs h.goals (1 + h.actions) x.1) _ f first.2 in
    let y = second.0 in
    let ended = passed _ _ _ f second.2 in
    let xs : RecordsRead bs all k Action h.size sizes.0 h.actions (header_length k) x = records_read bs all k Action h.size sizes.0 h.actions 1 (header_length k) x first.1 in
    let ys : RecordsRead bs all k Goal h.size sizes.0 h.goals x.1 y = records_read bs all k Goal h.size sizes.0 h.goals (1 + h.actions) x.1 y second.1 in
    let last : y.1 ≡ length bs = eqb-true y.1 (length bs) ended.0 in
    let past : length bs ≤ y.1 = omega arith in
    let nothing : drop y.1 bs ≡ [] = drop_all y.1 bs past in
    let is = head.is in
    let letter : get_or bs 0 0 ≡ letter_of k = head.letter in
    let byte : (i : ℕ) → i < 4 → get_or bs i 0 < 256 = λ i l. all i 0 (omega (arith, header_long k, head.long)) in
    let size : get_or bs 1 0 ≡ h.size % 256 = sym (byte_mod (get_or bs 1 0) (byte 1 (omega arith))) ∙ ap (λ h. h.size % 256) is in
    let some : get_or bs 2 0 ≡ length x.0 % 256 = sym (byte_mod (get_or bs 2 0) (byte 2 (omega arith))) ∙ ap (λ h. h.actions % 256) is ∙ ap (λ n. n % 256) (sym xs.count) in
    let more : get_or bs 3 0 ≡ length y.0 % 256 = sym (byte_mod (get_or bs 3 0) (byte 3 (omega arith))) ∙ ap (λ h. h.goals % 256) is ∙ ap (λ n. n % 256) (sym ys.count) in
    let records : drop (header_length k) bs ≡ flat_map (record_bytes k Action) x.0 ++ flat_map (record_bytes k Goal) y.0 = xs.bytes ∙ ap (λ t. flat_map (record_bytes k Action) x.0 ++ t) (ys.bytes ∙ ap (λ t. flat_map (record_bytes k Goal) y.0 ++ t) nothing ∙ append-nil (flat_map (record_bytes k Goal) y.0)) in
    let rest : drop 4 bs ≡ spelled (bytes_of (start_of k)) h.start ++ (flat_map (record_bytes k Action) x.0 ++ flat_map (record_bytes k Goal) y.0) = value_read bs 4 (start_of k) all head.long ∙ ap (λ h. spelled (bytes_of (start_of k)) h.start ++ drop (header_length k) bs) is ∙ ap (λ t. spelled (bytes_of (start_of k)) h.start ++ t) records in
    let P : RawFile → Type 0 = λ f. ValidFile k f × (bs ≡ file_bytes k f) in
    subst P (ok_same _ f ended.1) (
      record {
        size_low = sizes.0;
        size_high = sizes.1;
        actions_low = omega (arith, xs.count, actions.0);
        actions_high = omega (arith, xs.count, actions.1);
        goals_low = omega (arith, ys.count, goals.0);
        goals_high = omega (arith, ys.count, goals.1);
        start_in = head.start_in;
        actions_valid = xs.valid;
        goals_valid = ys.valid;
      },
      front bs (omega (arith, header_long k, head.long))
          ∙ ap (λ b. b ∷ (get_or bs 1 0 ∷ (get_or bs 2 0 ∷ (get_or bs 3 0 ∷ drop 4 bs)))) letter
          ∙ ap (λ b. letter_of k ∷ (b ∷ (get_or bs 2 0 ∷ (get_or bs 3 0 ∷ drop 4 bs)))) size
          ∙ ap (λ b. letter_of k ∷ (h.size % 256 ∷ (b ∷ (get_or bs 3 0 ∷ drop 4 bs)))) some
          ∙ ap (λ b. letter_of k ∷ (h.size % 256 ∷ (length x.0 % 256 ∷ (b ∷ drop 4 bs)))) more
          ∙ ap (λ t. letter_of k ∷ (h.size % 256 ∷ (length x.0 % 256 ∷ (length y.0 % 256 ∷ t)))) rest,
    )

start_narrow : (k : Kind) (size : ℕ) → size ≤ most_of k → limit_of size (start_of k) ≤ 256 ^ bytes_of (start_of k)
start_narrow Card size h = (narrow Card Goal size h).0
start_narrow Map size h = (narrow Map Goal size h).0

size_byte : (k : Kind) (size : ℕ) → size ≤ most_of k → size < 256
size_byte Card size h = omega arith
size_byte Map size h = omega arith

module _ (k : Kind) (f : RawFile) (valid : ValidFile k f) where
  header_written : read_header k (file_bytes k f) ≡ Ok (record { size = f.size; actions = length f.actions; goals = length f.goals; start = f.start })
  header_written =
      let bs = file_bytes k f in
      let body = flat_map (record_bytes k Action) f.actions ++ flat_map (record_bytes k Goal) f.goals in
      let size : f.size % 256 ≡ f.size = byte_mod f.size (size_byte k f.size valid.size_high) in
      let actions : length f.actions % 256 ≡ length f.actions = byte_mod (length f.actions) (omega (arith, valid.actions_high)) in
      let goals : length f.goals % 256 ≡ length f.goals = byte_mod (length f.goals) (omega (arith, valid.goals_high)) in
      let start : value_at bs 4 (start_of k) ≡ f.start = value_written bs 4 (start_of k) f.start body (omega (arith, valid.start_in, start_narrow k f.size valid.size_high)) refl in
      let long : header_length k ≤ length bs = omega (arith, length-append (spelled (bytes_of (start_of k)) f.start) body, length_spelled (bytes_of (start_of k)) f.start) in
      cond-true _ _ _ (eq-eqb (letter_of k) (letter_of k) refl)
      ∙ cond-true _ _ _ (le-leb (header_length k) (length bs) long)
      ∙ cond-true _ _ _ (ap (is_count (most_of k)) size ∙ count_from (most_of k) f.size valid.size_low valid.size_high)
      ∙ cond-true _ _ _ (ap (is_count 120) actions ∙ count_from 120 (length f.actions) valid.actions_low valid.actions_high)
      ∙ cond-true _ _ _ (ap (is_count 32) goals ∙ count_from 32 (length f.goals) valid.goals_low valid.goals_high)
      ∙ cond-true _ _ _ (ap (λ n. ltb (value_at bs 4 (start_of k)) (limit_of n (start_of k))) size ∙ ap (λ v. ltb v (limit_of f.size (start_of k))) start ∙ lt-ltb f.start (limit_of f.size (start_of k)) valid.start_in)
      ∙ ap (λ n. Ok (record { size = n; actions = length f.actions % 256; goals = length f.goals % 256; start = value_at bs 4 (start_of k) })) size
      ∙ ap (λ n. Ok (record { size = f.size; actions = n; goals = length f.goals % 256; start = value_at bs 4 (start_of k) })) actions
      ∙ ap (λ n. Ok (record { size = f.size; actions = length f.actions; goals = n; start = value_at bs 4 (start_of k) })) goals
      ∙ ap (λ n. Ok (record { size = f.size; actions = length f.actions; goals = length f.goals; start = n })) start

  pub file_written : read_file k (file_bytes k f) ≡ Ok f
  file_written =
      let bs = file_bytes k f in
      let xs = flat_map (record_bytes k Action) f.actions in
      let ys = flat_map (record_bytes k Goal) f.goals in
      let h : Header = record { size = f.size; actions = length f.actions; goals = length f.goals; start = f.start } in
      let from = header_length k in
      let begin : drop from bs ≡ xs ++ ys = ap (λ n. drop (4 + n) bs) (sym (length_spelled (bytes_of (start_of k)) f.start)) ∙ after_bytes bs 4 (spelled (bytes_of (start_of k)) f.start) (xs ++ ys) refl in
      let middle : drop (from + length xs) bs ≡ ys ++ [] = after_bytes bs from xs ys begin ∙ sym (append-nil ys) in
      let end : from + length xs + length ys ≡ length bs = omega (arith, length-append (spelled (bytes_of (start_of k)) f.start) (xs ++ ys), length_spelled (bytes_of (start_of k)) f.start, length-append xs ys) in
      ap (λ r. and_then r (read_body k bs)) header_written
      ∙ ap (λ r. and_then r (λ x. and_then (read_records k Goal f.size bs (length f.goals) (1 + length f.actions) x.1) (λ y. read_end bs h x.0 y.0 y.1))) (records_written bs k Action f.size valid.size_high 1 from f.actions ys valid.actions_valid begin)
      ∙ ap (λ r. and_then r (λ y. read_end bs h f.actions y.0 y.1)) (records_written bs k Goal f.size valid.size_high (1 + length f.actions) (from + length xs) f.goals [] valid.goals_valid middle)
      ∙ cond-true _ _ _ (eq-eqb (from + length xs + length ys) (length bs) end)

pub read_exactly : (k : Kind) (bs : List ℕ) → Bytes bs → ReadExactly k bs
read_exactly k bs all = record {
  only = λ f e. file_read k bs all f e;
  every = λ f valid e. ap (read_file k) e ∙ file_written k f valid;
}
