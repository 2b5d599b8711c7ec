-- Sets of fluents as numbers: fluent i is in the set exactly when bit i of the number is 1.
use Rattle.std.specs.Prelude.{◌≡◌, ℕ, ◌/◌, ◌%◌, ◌^◌, Bool, true, ◌==◌, bit_and, bit_or, bit_xor}

-- fluent i is in the set s
abbrev pub holds : ℕ → ℕ → Bool
holds i s = s / 2 ^ i % 2 == 1

-- every fluent of a is one of b
abbrev pub Within : ℕ → ℕ → Type 0
Within a b = (i : ℕ) → holds i a ≡ true → holds i b ≡ true

-- the same as a test on the numbers
abbrev pub within : ℕ → ℕ → Bool
within a b = bit_and a b == a

-- s without the fluents of d, and with those of a
abbrev pub changed : ℕ → ℕ → ℕ → ℕ
changed s d a = bit_or (bit_xor s (bit_and s d)) a
