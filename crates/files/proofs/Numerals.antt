-- Laws of numbers as bytes.
use Rattle.std.proofs.Common.{◌≡◌, ℕ, zero, suc, ◌+◌, ◌*◌, ◌/◌, ◌%◌, ◌^◌, ◌<◌, ◌≤◌, eqb, List, [], ◌∷◌, ◌++◌, length, get_or, take, drop, Decides, sym, refl, ap, ◌∙◌, pow-suc, zero-mul, div-one, arith, w8, w64, Fits}
use native.Mathlib.Nat.{div-eq_of_lt, div-div-eq-div-mul}
use Rattle.std.specs.Int.{byte_at, byte_worth, bytes_low_first, sum_through, to_le_bytes, from_le_bytes}
use Rattle.std.proofs.lemmas.Nat.{shr_split, mod_below, pow_pos}
use Rattle.std.proofs.lemmas.List.{take_all}
use Rattle.std.proofs.lemmas.List.Elements.{All-from_get_or, All-head, All-tail}
use Rattle.std.proofs.lemmas.Bool.{eqb-true, eq-eqb}
use Rattle.files.specs.Numbers.{Bytes, little, spelled}

-- what the checker knows of a slice of bytes
pub bytes_typed : (bs : List ℕ) → ((k : ℕ) → Fits w8 (get_or bs k 0)) → Bytes bs
bytes_typed bs h = All-from_get_or (λ b. b < 256) bs 0 (λ k _. omega (arith, h k))

-- Reading: the lowest k bytes, one byte after another, and zeros above them.
take_little : (bs : List ℕ) (k : ℕ) → little (take (suc k) bs) ≡ little (take k bs) + get_or bs k 0 * 256 ^ k
take_little [] zero = refl
take_little [] (suc k) = omega arith
take_little (b ∷ bs) zero = omega arith
take_little (b ∷ bs) (suc k) =
    let worth : get_or bs k 0 * 256 ^ suc k ≡ get_or bs k 0 * (256 ^ k * 256) = ap (λ n. get_or bs k 0 * n) (pow-suc 256 k) in
    omega (arith, take_little bs k, worth)

worth : (k b : ℕ) → byte_worth k b ≡ b * 256 ^ k
worth zero b = omega arith
worth (suc k) b = refl

sum_little : (bs : List ℕ) (k : ℕ) → sum_through (λ i. byte_worth i (get_or bs i 0)) k ≡ little (take (suc k) bs)
sum_little bs zero = omega (arith, take_little bs 0)
sum_little bs (suc k) = omega (arith, sum_little bs k, take_little bs (suc k))

little_append : (bs zs : List ℕ) → little zs ≡ 0 → little (bs ++ zs) ≡ little bs
little_append [] zs z = z
little_append (b ∷ bs) zs z = ap (λ n. b + 256 * n) (little_append bs zs z)

little_drop : (n : ℕ) (zs : List ℕ) → little zs ≡ 0 → little (drop n zs) ≡ 0
little_drop zero zs z = z
little_drop (suc n) [] z = refl
little_drop (suc n) (x ∷ zs) z = little_drop n zs (omega arith)

pub little_read : (bs zs : List ℕ) (n : ℕ) → little zs ≡ 0 → length (bs ++ drop n zs) ≡ 8 → from_le_bytes w64 (bs ++ drop n zs) ≡ little bs
little_read bs zs n z l =
    sum_little (bs ++ drop n zs) 7
    ∙ ap little (take_all 8 (bs ++ drop n zs) (omega arith))
    ∙ little_append bs (drop n zs) (little_drop n zs z)

-- n bytes spell a number below 256 ^ n
power_pos : (n : ℕ) → 0 < 256 ^ n
power_pos zero = omega arith
power_pos (suc n) = omega (arith, power_pos n, pow-suc 256 n)

pub little_below : (bs : List ℕ) (n : ℕ) → Bytes bs → length bs ≤ n → little bs < 256 ^ n
little_below [] n h l = power_pos n
little_below (b ∷ bs) zero h l = absurd (omega arith)
little_below (b ∷ bs) (suc n) h l =
    let below : little bs < 256 ^ n = little_below bs n (All-tail (λ b. b < 256) b bs h) (omega arith) in
    let byte : b < 256 = All-head (λ b. b < 256) b bs h in
    omega (arith, pow-suc 256 n)

pub length_spelled : (n v : ℕ) → length (spelled n v) ≡ n
length_spelled zero v = refl
length_spelled (suc n) v = ap suc (length_spelled n (v / 256))

-- bytes and numbers determine each other
pub little_spelled : (n v : ℕ) → v < 256 ^ n → little (spelled n v) ≡ v
little_spelled zero v h = omega arith
little_spelled (suc n) v h =
    let f : little (spelled n (v / 256)) ≡ v / 256 = little_spelled n (v / 256) (omega (arith, pow-suc 256 n)) in
    omega arith

pub spelled_little : (bs : List ℕ) → Bytes bs → spelled (length bs) (little bs) ≡ bs
spelled_little [] h = refl
spelled_little (b ∷ bs) h =
    let byte : b < 256 = All-head (λ b. b < 256) b bs h in
    let low : (b + 256 * little bs) % 256 ≡ b = omega arith in
    let high : (b + 256 * little bs) / 256 ≡ little bs = omega arith in
    ap (λ x. x ∷ spelled (length bs) ((b + 256 * little bs) / 256)) low ∙ ap (λ x. b ∷ spelled (length bs) x) high ∙ ap (λ t. b ∷ t) (spelled_little bs (All-tail (λ b. b < 256) b bs h))

-- Writing: the lowest bytes.
pub high_next : (v i : ℕ) → v / 256 ^ i / 256 ≡ v / 256 ^ suc i
high_next v i = div-div-eq-div-mul v (256 ^ i) 256 ∙ ap (λ n. v / n) (sym (pow-suc 256 i))

byte_spelled : (i v : ℕ) → byte_at i v ≡ v / 256 ^ i % 256
byte_spelled zero v = ap (λ n. n % 256) (sym (div-one v))
byte_spelled (suc i) v = refl

low_spelled : (n i v : ℕ) → bytes_low_first i n v ≡ spelled n (v / 256 ^ i)
low_spelled zero i v = refl
low_spelled (suc n) i v =
    ap (λ b. b ∷ bytes_low_first (suc i) n v) (byte_spelled i v)
    ∙ ap (λ t. v / 256 ^ i % 256 ∷ t) (low_spelled n (suc i) v ∙ ap (spelled n) (sym (high_next v i)))

take_spelled : (n m v : ℕ) → n ≤ m → take n (spelled m v) ≡ spelled n v
take_spelled zero m v h = refl
take_spelled (suc n) zero v h = absurd (omega arith)
take_spelled (suc n) (suc m) v h = ap (λ t. v % 256 ∷ t) (take_spelled n m (v / 256) (omega arith))

pub spelled_written : (n v : ℕ) → n ≤ 8 → take n (to_le_bytes w64 v) ≡ spelled n v
spelled_written n v h = ap (take n) (low_spelled 8 0 v ∙ ap (spelled 8) (div-one v)) ∙ take_spelled n 8 v h

-- a number takes k bits exactly when nothing is left above them
pub no_high_bits : (v k h : ℕ) → h ≡ v / 2 ^ k → Decides (eqb h 0) (v < 2 ^ k)
no_high_bits v k h e = (
  (λ t.
      let z : v / 2 ^ k * 2 ^ k ≡ 0 = ap (λ n. n * 2 ^ k) (sym e ∙ eqb-true h 0 t) ∙ zero-mul (2 ^ k) in
      omega (arith, shr_split v k, mod_below v (2 ^ k) (pow_pos k))),
  (λ l. eq-eqb h 0 (e ∙ div-eq_of_lt l)),
)
