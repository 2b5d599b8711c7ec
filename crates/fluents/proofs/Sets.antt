-- Sets of fluents bit by bit: what a union, a meeting and a difference hold, and that a set is known by its fluents.
use Rattle.std.proofs.Common.{◌≡◌, ℕ, zero, suc, ◌-◌, ◌/◌, ◌^◌, ◌<◌, ◌≤◌, Bool, true, false, not, ◌&&◌, ◌||◌, eqb, Decides, sym, ap, ◌∙◌, ⊎_elim, pow-suc, arith}
use lib.Bits.{bit_and, bit_or, bit_xor}
use Rattle.std.specs.Int.{bit_at}
use Rattle.std.proofs.lemmas.Bool.{cases_lt, eqb-true, eq-eqb}
use Rattle.std.proofs.lemmas.Bool.Decides.{nat_tests}
use Rattle.std.proofs.lemmas.Nat.Bits.{bit_at_lowest, bit_at-suc, bit_at-lt, bit_at_and, bit_at_or, bit_at_xor, bit_at-pow_same, bit_at-pow_other, bit_at_above, same_from_bits}
use Rattle.fluents.specs.Fluents.{holds, Within, within}

pub holds_or : (i a b : ℕ) → holds i (bit_or a b) ≡ (holds i a || holds i b)
holds_or i a b = grind (arith, nat_tests, bit_at_or a b i, bit_at-lt a i, bit_at-lt b i)

holds_and : (i a b : ℕ) → holds i (bit_and a b) ≡ (holds i a && holds i b)
holds_and i a b = grind (arith, nat_tests, bit_at_and a b i, bit_at-lt a i, bit_at-lt b i)

-- what is left of s without d
pub holds_less : (i s d : ℕ) → holds i (bit_xor s (bit_and s d)) ≡ (holds i s && not (holds i d))
holds_less i s d = grind (arith, nat_tests, bit_at_xor s (bit_and s d) i, bit_at_and s d i, bit_at-lt s i, bit_at-lt d i)

-- a set below 2 ^ k has no fluent from k on
pub holds_past : (k i s : ℕ) → s < 2 ^ k → k ≤ i → holds i s ≡ false
holds_past k i s p q = ap (λ n. eqb n 1) (bit_at_above s k i p q)

-- what `!d` is at a type of k bits: each bit below k is turned
turned : (k d i : ℕ) → d < 2 ^ k → i < k → bit_at (2 ^ k - 1 - d) i ≡ 1 - bit_at d i
turned zero d i p h = absurd (omega arith)
turned (suc k) d zero p h = omega (arith, bit_at_lowest (2 ^ suc k - 1 - d), bit_at_lowest d, pow-suc 2 k)
turned (suc k) d (suc i) p h =
    let half : (2 ^ suc k - 1 - d) / 2 ≡ 2 ^ k - 1 - d / 2 = omega (arith, pow-suc 2 k) in
    bit_at-suc _ i ∙ ap (λ n. bit_at n i) half ∙ turned k (d / 2) i (omega (arith, pow-suc 2 k)) (omega arith) ∙ ap (λ n. 1 - n) (sym (bit_at-suc d i))

-- the same as `s & !d`, at a type of k bits
pub holds_and_not : (k i s d : ℕ) → s < 2 ^ k → d < 2 ^ k → holds i (bit_and s (2 ^ k - 1 - d)) ≡ (holds i s && not (holds i d))
holds_and_not k i s d p q =
    ⊎_elim
    (λ h. grind (arith, nat_tests, bit_at_and s (2 ^ k - 1 - d) i, turned k d i q h, bit_at-lt s i, bit_at-lt d i))
    (λ h. grind (arith, nat_tests, bit_at_and s (2 ^ k - 1 - d) i, bit_at_above s k i p h))
    (cases_lt i k)

-- the set of one fluent
pub holds_one : (k i : ℕ) → holds i (2 ^ k) ≡ eqb i k
holds_one k i = grind (arith, nat_tests, bit_at-pow_same k, bit_at-pow_other k i)

-- two sets with the same fluents are one
pub same_set : (a b : ℕ) → ((i : ℕ) → holds i a ≡ holds i b) → a ≡ b
same_set a b h = same_from_bits a b (λ i. let e = h i in grind (arith, nat_tests, bit_at-lt a i, bit_at-lt b i))

meet : (x y : Bool) → (x ≡ true → y ≡ true) → (x && y) ≡ x
meet x y h = grind arith

-- the test on numbers says whether every fluent of the one set is in the other
pub decides_within : (a b : ℕ) → Decides (within a b) (Within a b)
decides_within a b = (
  λ t i h. let e : (holds i a && holds i b) ≡ holds i a = sym (holds_and i a b) ∙ ap (holds i) (eqb-true (bit_and a b) a t) in grind arith,
  λ h. eq-eqb (bit_and a b) a (same_set (bit_and a b) a (λ i. holds_and i a b ∙ meet (holds i a) (holds i b) (h i))),
)
