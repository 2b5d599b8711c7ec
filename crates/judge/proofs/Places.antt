-- The places of the entries that a list carries, one action after another.
use Rattle.std.proofs.Common.{◌≡◌, ℕ, ◌+◌, ◌<◌, ◌≤◌, List, [], ◌∷◌, ◌++◌, length, get_or, take, drop, set, sym, ap, ◌∙◌, subst, ⊎_elim, arith}
use Rattle.std.proofs.lemmas.Grind.{get_or-set_at}
use Rattle.std.proofs.lemmas.List.{take_more, length_push, length-take-le, get_or_append_left, get_or_push, get_or-set_other, get_or-take, drop-set-lt, drop-drop}
use Rattle.std.proofs.lemmas.List.Sums.{fold_more}
use Rattle.std.proofs.lemmas.Bool.Decides.{nat_tests}
use Rattle.std.proofs.lemmas.Bool.{cases_lt}
use Rattle.plans.specs.Counting.{advance, advance_all}
use Rattle.plans.proofs.Carrying.{advance_high, advance_low, carries_counted}
use Rattle.judge.specs.Carried.{CarriedAt, NoneLonger}

ruleset at_set = (get_or-set_at, get_or-set_other)

-- where the count grows, it grows by one, and the action is the next entry
module _ (log : List ℕ) (k a : ℕ) where
  pub record Grown : Type 0 where
    pub by_one : advance log k a ≡ k + 1
    pub inside : k < length log
    pub entry : get_or log k 0 ≡ a

  pub advance_grown : k < advance log k a → Grown
  advance_grown h = record { by_one = grind (arith, nat_tests); inside = grind (arith, nat_tests); entry = grind (arith, nat_tests) }

-- one action more at the end of the list
module _ (log list places : List ℕ) (count a : ℕ) (carried : CarriedAt log list places count) where
  -- it is passed over
  pub places_passed : CarriedAt log (list ++ (a ∷ [])) places count
  places_passed = record {
    few = carried.few;
    within = λ j h. omega (arith, carried.within j h, length_push list a);
    same = λ j h. get_or_append_left list (a ∷ []) 0 (get_or places j 0) (carried.within j h) ∙ carried.same j h;
    rising = carried.rising;
  }

  -- or it carries the next entry
  module _ (room : count < length places) (inside : count < length log) (entry : get_or log count 0 ≡ a) where
    pub places_taken : CarriedAt log (list ++ (a ∷ [])) (set places count (length list)) (count + 1)
    places_taken = record {
      few = omega arith;
      within = λ j h. grind (arith, at_set, length_push, carried.within);
      same = λ j h. grind (arith, at_set, get_or_append_left, get_or_push, carried.within, carried.same, entry);
      rising = λ i j l h. grind (arith, at_set, carried.within, carried.rising);
    }

-- the count of carried entries, and why no longer beginning of the log is carried
count_high : (log : List ℕ) (k : ℕ) (list : List ℕ) → k ≤ advance_all log k list
count_high log k [] = omega arith
count_high log k (a ∷ list) = omega (arith, advance_high log k a, count_high log (advance log k a) list)

count_low : (log : List ℕ) (k : ℕ) (list : List ℕ) → k ≤ length log → advance_all log k list ≤ length log
count_low log k [] h = h
count_low log k (a ∷ list) h = count_low log (advance log k a) list (advance_low log k a h)

module _ (log : List ℕ) (n : ℕ) (fits : n ≤ length log) where
  -- below n a beginning of length n is followed as the log is
  same_advance : (k a : ℕ) → k < n → advance (take n log) k a ≡ advance log k a
  same_advance k a h = let same = get_or-take n log k 0 h in let size = length-take-le n log fits in grind (arith, nat_tests)

  front_count : (k : ℕ) (list : List ℕ) → k ≤ n → advance_all (take n log) k list ≤ advance_all log k list
  front_count k [] h = omega arith
  front_count k (a ∷ list) h =
      let size : length (take n log) ≡ n = length-take-le n log fits in
      ⊎_elim
      (λ l.
      let low : advance (take n log) k a ≤ n = omega (arith, size, advance_low (take n log) k a (omega (arith, size))) in
      let grown = same_advance k a l in
      omega (arith, ap (λ m. advance_all (take n log) m list) grown, front_count (advance log k a) list (omega arith)))
      (λ l. omega (arith, size, count_low (take n log) k (a ∷ list) (omega (arith, size)), count_high log k (a ∷ list)))
      (cases_lt k n)

pub none_longer : (log list : List ℕ) → NoneLonger log list (advance_all log 0 list)
none_longer log list n fits carries =
    omega (arith, length-take-le n log fits, carries_counted (take n log) list 0 (omega arith) carries, front_count log n fits 0 list (omega arith))

-- the first n actions of a list, followed: the count, its places, and the rest of the table as it was before
pub record Followed (log list before places : List ℕ) (n count : ℕ) : Type 0 where
  pub carried : CarriedAt log (take n list) places count
  pub counted : count ≡ advance_all log 0 (take n list)
  pub rest : drop count places ≡ drop count before

-- one action more
module _ (log list before places : List ℕ) (n count grown : ℕ) (followed : Followed log list before places n count) (inside : n < length list) (is-grown : grown ≡ advance log count (get_or list n 0)) where
  longer : take (n + 1) list ≡ take n list ++ (get_or list n 0 ∷ [])
  longer = take_more list n 0 inside

  counted : grown ≡ advance_all log 0 (take (n + 1) list)
  counted = is-grown ∙ ap (λ k. advance log k (get_or list n 0)) followed.counted ∙ sym (fold_more (advance log) 0 list n 0 inside)

  pub followed_passed : grown ≤ count → Followed log list before places (n + 1) grown
  followed_passed h =
      let stays : grown ≡ count = omega (arith, advance_high log count (get_or list n 0)) in
      record {
        carried = rw (longer, stays) (places_passed log (take n list) places count (get_or list n 0) followed.carried);
        counted = counted;
        rest = rw stays followed.rest;
      }

  pub followed_taken : length log ≤ length places → count < grown → Followed log list before (set places count n) (n + 1) grown
  followed_taken room h =
      let more = advance_grown log count (get_or list n 0) (omega arith) in
      let by_one : grown ≡ count + 1 = is-grown ∙ more.by_one in
      let front : length (take n list) ≡ n = length-take-le n list (omega arith) in
      let taken = places_taken log (take n list) places count (get_or list n 0) followed.carried (omega (arith, more.inside)) more.inside more.entry in
      record {
        carried = rw (longer, by_one) (subst (λ m. CarriedAt log (take n list ++ (get_or list n 0 ∷ [])) (set places count m) (count + 1)) front taken);
        counted = counted;
        rest = rw by_one (drop-set-lt (count + 1) places count n (omega arith) ∙ sym (drop-drop 1 count places) ∙ ap (drop 1) followed.rest ∙ drop-drop 1 count before);
      }
