use Rattle.std.proofs.Common.{◌≡◌, ℕ, ◌+◌, ◌<◌, ◌++◌, map, vec_items, vec_len, vec_capacity}
use Rattle.std.specs.List.{range_with_len}
use Rattle.compile.proofs.compile.push_each.Given as goal

abbrev pub invariant-loop-number : goal.invariant-loop-number
invariant-loop-number g l =
    (vec_len l.place ≡ vec_len l.initial.place + l.number) × (vec_capacity l.place ≡ vec_capacity l.initial.place)
    × ((of : ℕ → _) → ((number : ℕ) (x : _) → number < l.count → goal.F-post g l.part number x → x ≡ of number) → vec_items l.place ≡ vec_items l.initial.place ++ map of (range_with_len 0 l.number))
