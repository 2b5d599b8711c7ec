-- Numbers as bytes, lowest first.
use Rattle.std.specs.Prelude.{ℕ, zero, suc, ◌+◌, ◌*◌, ◌/◌, ◌%◌, ◌<◌, List, [], ◌∷◌}
use Rattle.std.specs.List.{All}

-- each number of the list fits a byte
abbrev pub Bytes : List ℕ → Type 0
Bytes bs = All (λ b. b < 256) bs

-- the number that bytes spell
abbrev pub little : List ℕ → ℕ
little [] = 0
little (b ∷ bs) = b + 256 * little bs

-- the n bytes that spell a number
abbrev pub spelled : ℕ → ℕ → List ℕ
spelled zero v = []
spelled (suc n) v = v % 256 ∷ spelled n (v / 256)
