-- The parts of a compiled card as they are put together.
use Rattle.std.proofs.Common.{◌≡◌, ℕ, ◌+◌, ◌-◌, ◌<◌, ◌≤◌, cond, ltb, List, [], ◌∷◌, ◌++◌, map, length, Option, IsSome, MatchOption, Some, ap, subst, ⊎_elim, arith}
use Rattle.std.specs.List.{range_with_len}
use Rattle.std.proofs.lemmas.Option.{MatchOption-at_some}
use Rattle.std.proofs.lemmas.List.{get_or_append_left, get_or-append_right, length-append, append_assoc, nil_from_length}
use Rattle.std.proofs.lemmas.List.FromFn.{length-map-range_with_len, get_or-map-range_with_len, map-range_with_len_more, fill_by_all}
use Rattle.std.proofs.lemmas.Bool.{cases_lt, lt-ltb, le-ltb, some_since}
use Rattle.fluents.specs.SetRecords.{set_of}
use Rattle.fluents.specs.declared.FluentSet.{FluentSet}
use Rattle.cards.specs.Contents.{Contents, contents, InLimits, MadeOf}
use Rattle.cards.specs.declared.action.Action.{Action}
use Rattle.cards.specs.declared.card.Card.{Card}
use Rattle.compile.specs.Compiled.{compiled}

-- one part more, behind those that were there
pub part_more : {X : Type 0} (of : ℕ → X) (old before after : List X) (i : ℕ) (x : X) → before ≡ old ++ map of (range_with_len 0 i) → x ≡ of i → after ≡ before ++ (x ∷ []) → after ≡ old ++ map of (range_with_len 0 (i + 1))
part_more of old before after i x was part pushed =
    let more = map-range_with_len_more of 0 i i (omega arith) in
    let joined = append_assoc old (map of (range_with_len 0 i)) (of i ∷ []) in
    cc

-- n parts of one kind and then m of another are n + m parts, each chosen by its number
both_parts : {X : Type 0} (f g : ℕ → X) (n m : ℕ) (d : X) → map f (range_with_len 0 n) ++ map g (range_with_len 0 m) ≡ map (λ a. cond (ltb a n) (f a) (g (a - n))) (range_with_len 0 (n + m))
both_parts f g n m d =
    let first = map f (range_with_len 0 n) in
    let second = map g (range_with_len 0 m) in
    let long : length first ≡ n = length-map-range_with_len f 0 n in
    fill_by_all _ (first ++ second) (n + m) d (omega (arith, length-append first second, long, length-map-range_with_len g 0 m))
    (λ k h. ⊎_elim
    (λ (low : k < n). cc (get_or_append_left first second d k (omega (arith, long)), get_or-map-range_with_len f 0 n k k d low (omega arith), lt-ltb k n low))
    (λ (high : n ≤ k). cc (get_or-append_right first second n k d long high, get_or-map-range_with_len g 0 m (k - n) (k - n) d (omega arith) (omega arith), le-ltb k n high))
    (cases_lt k n))

-- the same, where they were added to nothing
pub parts_are : {X : Type 0} (f g : ℕ → X) (none : List X) {first all : List X} {n m i j : ℕ} (d : X) → length none ≡ 0 → i ≡ n → j ≡ m → first ≡ none ++ map f (range_with_len 0 i) → all ≡ first ++ map g (range_with_len 0 j)
    → all ≡ map (λ a. cond (ltb a n) (f a) (g (a - n))) (range_with_len 0 (n + m))
parts_are f g none {n = n} {m = m} d nothing ei ej ef ea =
    let empty = nil_from_length none nothing in
    let both = both_parts f g n m d in
    cc

-- the whole card
pub card_is : (c : Contents) (log : List ℕ) {fluents : ℕ} {actions : List Action} {goals : List FluentSet} (start : FluentSet) (made : Option Card) → fluents ≡ c.fluents + length log → start.0 ≡ c.start.0 → actions ≡ (compiled c log).actions → goals ≡ (compiled c log).goals
    → InLimits (compiled c log) → MadeOf (record { fluents = fluents; start = start; actions = actions; goals = goals }) made → IsSome made × ((card : Card) → made ≡ Some card → contents card ≡ compiled c log)
card_is c log {fluents} {actions} {goals} start made ef es ea eg limits of =
    let same_start : start ≡ c.start = ap set_of es in
    let parts : Contents = record { fluents = fluents; start = start; actions = actions; goals = goals } in
    let same : parts ≡ record { fluents = c.fluents + length log; start = c.start; actions = (compiled c log).actions; goals = (compiled c log).goals } = cc in
    let whole : MatchOption made (InLimits (compiled c log) → ⊥) (λ card. contents card ≡ compiled c log) = subst (λ x. MadeOf x made) same of in
    (some_since made _ _ whole (λ no. no limits), λ card e. MatchOption-at_some _ _ card e whole)
