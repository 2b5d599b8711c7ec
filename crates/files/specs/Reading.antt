-- Reading a file: the questions in order, and the refusal at the first that is answered no.
use Rattle.std.specs.Prelude.{ℕ, zero, suc, ◌+◌, ◌/◌, ◌%◌, ◌^◌, Bool, true, false, if◌then◌else◌, ◌&&◌, List, [], ◌∷◌, map, length, take, drop, Ok, Err, Result, ◌==◌, nat_le, nat_lt, slice_index}
use Rattle.std.specs.Result.{result_map_both}
use Rattle.domain.specs.declared.fault.Position.{Position}
use Rattle.domain.specs.declared.fault.ReadFault.{ReadFault}
use Rattle.domain.specs.declared.fault.ReadFault.TheVariants as fault
use Rattle.files.specs.declared.field.Field.{Field}
use Rattle.files.specs.declared.kind.Kind.{Kind}
use Rattle.files.specs.declared.kind.Part.{Part}
use Rattle.files.specs.declared.kind.Part.TheVariants.{Action, Goal}
use Rattle.files.specs.declared.header.Header.{Header}
use Rattle.files.specs.Contents.{Entry, File, RawFile, may_hold}
use Rattle.files.specs.Formats.{bytes_of, absent_of, limit_of, letter_of, most_of, start_of, header_length, fields_of, bit_count}
use Rattle.files.specs.Numbers.{little}

abbrev pub position : ℕ → ℕ → Position
position r at = record { «record» = r; byte = at }

abbrev pub and_then : {X Y E : Type 0} → Result X E → (X → Result Y E) → Result Y E
and_then (Ok x) f = f x
and_then (Err e) f = Err e

-- what was read, told in other words
abbrev pub known_as : {X Y E : Type 0} → (X → Y) → Result X E → Result Y E
known_as words r = result_map_both words (λ e. e) r

-- the value of a field that begins at a byte
abbrev pub value_at : List ℕ → ℕ → Field → ℕ
value_at bs at f = little (take (bytes_of f) (drop at bs))

-- a field of record r that its bit tells to be there or not: its value and the byte after it
abbrev pub read_field : List ℕ → ℕ → ℕ → ℕ → Field → Bool → Result (ℕ × ℕ) ReadFault
read_field bs size r at f false = Ok (absent_of f, at)
read_field bs size r at f true =
    if may_hold size f (value_at bs at f) then
    Ok (value_at bs at f, at + bytes_of f)
    else Err (fault.Field (position r at))

abbrev pub is_odd : ℕ → Bool
is_odd n = n % 2 == 1

abbrev pub with_first : {X Y : Type 0} → X → Result (List X × Y) ReadFault → Result (List X × Y) ReadFault
with_first x r = known_as (λ y. (x ∷ y.0, y.1)) r

-- the fields that a bit map tells of, from its lowest bit on: their values, the bits that are left, and the byte after them
abbrev pub read_fields : List ℕ → ℕ → ℕ → ℕ → ℕ → List Field → Result (List ℕ × (ℕ × ℕ)) ReadFault
read_fields bs size r at map [] = Ok ([], (map, at))
read_fields bs size r at map (f ∷ fs) = and_then (read_field bs size r at f (is_odd map)) (λ x. with_first x.0 (read_fields bs size r x.1 (map / 2) fs))

-- values that stand in a place of their own, put beside what else was read
abbrev pub joined_to : {X Y : Type 0} → X → Result Y ReadFault → Result (X × Y) ReadFault
joined_to x r = known_as (λ y. (x, y)) r

-- how many bytes those fields take
abbrev pub size_of : ℕ → List Field → ℕ
size_of map [] = 0
size_of map (f ∷ fs) = (if is_odd map then bytes_of f else 0) + size_of (map / 2) fs

abbrev pub as_entry : Result (List ℕ × (ℕ × ℕ)) ReadFault → Result (Entry × ℕ) ReadFault
as_entry r = known_as (λ x. (record { values = x.0; marked = is_odd x.1.0 }, x.1.1)) r

-- a record: its bit map is there, has only defined bits, its fields are there, and each is in range
abbrev pub read_record : Kind → Part → ℕ → List ℕ → ℕ → ℕ → Result (Entry × ℕ) ReadFault
read_record k p size bs r at =
    if nat_lt at (length bs) then
    if nat_lt (slice_index bs at) (2 ^ bit_count k p) then
    if nat_le (at + 1 + size_of (slice_index bs at) (fields_of k p)) (length bs) then
    as_entry (read_fields bs size r (at + 1) (slice_index bs at) (fields_of k p))
    else Err (fault.Cut (position r (length bs)))
    else Err (fault.Bits (position r at))
    else Err (fault.Cut (position r (length bs)))

-- n records, of which r is the first: what they hold, and the byte after them
abbrev pub read_records : Kind → Part → ℕ → List ℕ → ℕ → ℕ → ℕ → Result (List Entry × ℕ) ReadFault
read_records k p size bs zero r at = Ok ([], at)
read_records k p size bs (suc n) r at = and_then (read_record k p size bs r at) (λ x. with_first x.0 (read_records k p size bs n (r + 1) x.1))

-- from 1 to the most that there may be
abbrev pub is_count : ℕ → ℕ → Bool
is_count most n = nat_le 1 n && nat_le n most

-- a count that stands at a byte
abbrev pub read_count : List ℕ → ℕ → ℕ → Result ℕ ReadFault
read_count bs at most = if is_count most (slice_index bs at) then Ok (slice_index bs at) else Err (fault.Count (position 0 at))

-- the header: its letter is right, it is whole, its counts are within limits, and the start is a state
abbrev pub read_header : Kind → List ℕ → Result Header ReadFault
read_header k bs =
    if slice_index bs 0 == letter_of k then
    if nat_le (header_length k) (length bs) then
    if is_count (most_of k) (slice_index bs 1) then
    if is_count 120 (slice_index bs 2) then
    if is_count 32 (slice_index bs 3) then
    if nat_lt (value_at bs 4 (start_of k)) (limit_of (slice_index bs 1) (start_of k)) then
    Ok (record { size = slice_index bs 1; actions = slice_index bs 2; goals = slice_index bs 3; start = value_at bs 4 (start_of k) })
    else Err (fault.Start (position 0 4))
    else Err (fault.Count (position 0 3))
    else Err (fault.Count (position 0 2))
    else Err (fault.Count (position 0 1))
    else Err (fault.Header (position 0 (length bs)))
    else Err (fault.Letter (position 0 0))

-- the records after a header, and nothing after them
abbrev pub read_end : List ℕ → Header → List Entry → List Entry → ℕ → Result RawFile ReadFault
read_end bs h actions goals at =
    if at == length bs then
    Ok (record { size = h.size; start = h.start; actions = actions; goals = goals })
    else Err (fault.End (position (1 + h.actions + h.goals) at))

abbrev pub read_body : Kind → List ℕ → Header → Result RawFile ReadFault
read_body k bs h =
    and_then (read_records k Action h.size bs h.actions 1 (header_length k)) (λ x.
    and_then (read_records k Goal h.size bs h.goals (1 + h.actions) x.1) (λ y.
    read_end bs h x.0 y.0 y.1))

abbrev pub read_file : Kind → List ℕ → Result RawFile ReadFault
read_file k bs = and_then (read_header k bs) (read_body k bs)

-- What the records stand for.

abbrev pub part_with : {X : Type 0} → (Entry → X) → Result (Entry × ℕ) ReadFault → Result (X × ℕ) ReadFault
part_with make r = known_as (λ y. (make y.0, y.1)) r

abbrev pub parts_with : {X : Type 0} → (Entry → X) → Result (List Entry × ℕ) ReadFault → Result (List X × ℕ) ReadFault
parts_with make r = known_as (λ y. (map make y.0, y.1)) r

abbrev pub file_with : {S G : Type 0} → (Entry → S) → (Entry → G) → Result RawFile ReadFault → Result (File S G) ReadFault
file_with make_s make_g r = known_as (λ f. record { size = f.size; start = f.start; actions = map make_s f.actions; goals = map make_g f.goals }) r

-- lists that stand in places of their own, made a file with the header that was read
abbrev pub headed : {S G : Type 0} → List S → List G → Result Header ReadFault → Result (File S G) ReadFault
headed actions goals r = known_as (λ h. record { size = h.size; start = h.start; actions = actions; goals = goals }) r
