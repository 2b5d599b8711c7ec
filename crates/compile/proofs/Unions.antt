-- Sets within a state, part by part.
use Rattle.std.proofs.Common.{◌≡◌, ℕ, ◌^◌, ◌<◌, true, false, sym, refl, ◌∙◌, subst, arith}
use lib.Bits.{bit_or}
use Rattle.std.proofs.lemmas.Bool.{eqb-true, eq-eqb}
use Rattle.fluents.specs.Fluents.{holds, Within}
use Rattle.fluents.proofs.Sets.{holds_or, holds_one, holds_past}

-- a fluent of a set below 2 ^ n is one of the first n
pub first_ones : (n set i : ℕ) → set < 2 ^ n → holds i set ≡ true → i < n
first_ones n set i below h = grind (arith, holds_past n i set below)

-- no fluent is in the empty set
pub holds_none : (i : ℕ) → holds i 0 ≡ false
holds_none i = holds_past 0 i 0 (omega arith) (omega arith)

module _ (x : ℕ) where
  pub within_none : Within 0 x
  within_none i h = absurd (cc (holds_none i))

  pub within_one : (k : ℕ) → holds k x ≡ true → Within (2 ^ k) x
  within_one k h i one = subst (λ n. holds n x ≡ true) (sym (eqb-true i k (sym (holds_one k i) ∙ one))) h

  pub one_within : (k : ℕ) → Within (2 ^ k) x → holds k x ≡ true
  one_within k h = h k (holds_one k k ∙ eq-eqb k k refl)

  pub within_both : (a b : ℕ) → Within a x → Within b x → Within (bit_or a b) x
  within_both a b ha hb i h = grind (arith, holds_or i a b, ha i, hb i)

  pub both_within : (a b : ℕ) → Within (bit_or a b) x → Within a x × Within b x
  both_within a b h = (λ i t. grind (arith, holds_or i a b, h i), λ i t. grind (arith, holds_or i a b, h i))
