-- A list of actions carries a log, by a strictly rising choice of places, exactly when the count of carried entries comes to the log's length.
use Rattle.std.proofs.Common.{◌≡◌, ℕ, zero, suc, ◌+◌, ◌-◌, ◌<◌, ◌≤◌, List, [], ◌∷◌, length, get_or, drop, sym, refl, ap, ◌∙◌, ⊎_elim, arith}
use Rattle.std.proofs.lemmas.Grind.{get_or_tail}
use Rattle.std.proofs.lemmas.List.{drop_all, drop_more, length-drop}
use Rattle.std.proofs.lemmas.Bool.Decides.{nat_tests}
use Rattle.std.proofs.lemmas.Bool.{cases_lt, cases_eq}
use Rattle.plans.specs.Logs.{Carries}
use Rattle.plans.specs.Counting.{advance, advance_all}

-- nothing to carry
pub carries_none : (plan : List ℕ) → Carries [] plan
carries_none plan = record { place = λ j. j; within = λ j h. absurd (omega arith); same = λ j h. absurd (omega arith); rising = λ i j l h. l }

-- one action more at the front: it is the first entry, or it is passed over
carries_first : (a : ℕ) (log plan : List ℕ) → Carries log plan → Carries (a ∷ log) (a ∷ plan)
carries_first a log plan c = record { place = place; within = within; same = same; rising = rising }
  where
    place : ℕ → ℕ
    place zero = 0
    place (suc j) = suc (c.place j)

    within : (j : ℕ) → j < length (a ∷ log) → place j < length (a ∷ plan)
    within zero h = omega arith
    within (suc j) h = omega (arith, c.within j (omega arith))

    same : (j : ℕ) → j < length (a ∷ log) → get_or (a ∷ plan) (place j) 0 ≡ get_or (a ∷ log) j 0
    same zero h = refl
    same (suc j) h = c.same j (omega arith)

    rising : (i j : ℕ) → i < j → j < length (a ∷ log) → place i < place j
    rising zero (suc j) l h = omega arith
    rising (suc i) (suc j) l h = omega (arith, c.rising i j (omega arith) (omega arith))
    rising zero zero l h = absurd (omega arith)
    rising (suc i) zero l h = absurd (omega arith)

carries_skip : (a : ℕ) (log plan : List ℕ) → Carries log plan → Carries log (a ∷ plan)
carries_skip a log plan c = record {
  place = λ j. suc (c.place j);
  within = λ j h. omega (arith, c.within j h);
  same = λ j h. c.same j h;
  rising = λ i j l h. omega (arith, c.rising i j l h);
}

-- and back: with the first entry at the front, or with nothing at the front
unfirst : (x a : ℕ) (log plan : List ℕ) → Carries (x ∷ log) (a ∷ plan) → Carries log plan
unfirst x a log plan c =
    let late : (j : ℕ) → j < length log → 0 < c.place (suc j) = λ j h. omega (arith, c.rising 0 (suc j) (omega arith) (omega arith)) in
    record {
      place = λ j. c.place (suc j) - 1;
      within = λ j h. omega (arith, c.within (suc j) (omega arith), late j h);
      same = λ j h. sym (get_or_tail a plan (c.place (suc j)) 0 (late j h)) ∙ c.same (suc j) (omega arith);
      rising = λ i j l h. omega (arith, c.rising (suc i) (suc j) (omega arith) (omega arith), late i (omega arith));
    }

unskip : (x a : ℕ) (log plan : List ℕ) → (x ≡ a → ⊥) → Carries (x ∷ log) (a ∷ plan) → Carries (x ∷ log) plan
unskip x a log plan other c =
    let first : (n : ℕ) → n ≡ c.place 0 → 0 < n = elim [
      | zero ↦ (λ e. absurd (other (sym (c.same 0 (omega arith)) ∙ ap (λ m. get_or (a ∷ plan) m 0) (sym e))))
      | suc n ↦ (λ e. omega arith)
    ] in
    let late : (j : ℕ) → j < length (x ∷ log) → 0 < c.place j = elim [
      | zero ↦ (λ h. first (c.place 0) refl)
      | suc j ↦ (λ h. omega (arith, c.rising 0 (suc j) (omega arith) h))
    ] in
    record {
      place = λ j. c.place j - 1;
      within = λ j h. omega (arith, c.within j h, late j h);
      same = λ j h. sym (get_or_tail a plan (c.place j) 0 (late j h)) ∙ c.same j h;
      rising = λ i j l h. omega (arith, c.rising i j l h, late i (omega arith));
    }

-- how the count grows
module _ (log : List ℕ) (k a : ℕ) where
  pub grows : k < length log → get_or log k 0 ≡ a → advance log k a ≡ k + 1
  grows h e = grind (arith, nat_tests)

  pub stays : k < length log → (get_or log k 0 ≡ a → ⊥) → advance log k a ≡ k
  stays h e = grind (arith, nat_tests)

  pub ended : length log ≤ k → advance log k a ≡ k
  ended h = grind (arith, nat_tests)

  pub advance_high : k ≤ advance log k a
  advance_high = grind (arith, nat_tests)

  pub advance_low : k ≤ length log → advance log k a ≤ length log
  advance_low h = grind (arith, nat_tests)

-- a count that comes to the end tells the places
pub counted_carries : (log plan : List ℕ) (k : ℕ) → k ≤ length log → advance_all log k plan ≡ length log → Carries (drop k log) plan
counted_carries log [] k h e = rw (drop_all k log (omega arith)) (carries_none [])
counted_carries log (a ∷ plan) k h e =
    ⊎_elim
    (λ l. ⊎_elim
    (λ same.
    let next : advance_all log (k + 1) plan ≡ length log = ap (λ n. advance_all log n plan) (sym (grows log k a l same)) ∙ e in
    rw (drop_more log k 0 l, same) (carries_first a (drop (k + 1) log) plan (counted_carries log plan (k + 1) (omega arith) next)))
    (λ other. carries_skip a (drop k log) plan (counted_carries log plan k h (ap (λ n. advance_all log n plan) (sym (stays log k a l other)) ∙ e)))
    (cases_eq (get_or log k 0) a))
    (λ l. rw (drop_all k log l) (carries_none (a ∷ plan)))
    (cases_lt k (length log))

-- and places tell that the count comes to the end
pub carries_counted : (log plan : List ℕ) (k : ℕ) → k ≤ length log → Carries (drop k log) plan → advance_all log k plan ≡ length log
carries_counted log [] k h c =
    ⊎_elim
    (λ l. absurd (omega (arith, c.within 0 (omega (arith, length-drop k log)))))
    (λ l. omega arith)
    (cases_lt k (length log))
carries_counted log (a ∷ plan) k h c =
    ⊎_elim
    (λ l.
    let front : Carries (get_or log k 0 ∷ drop (k + 1) log) (a ∷ plan) = rw (sym (drop_more log k 0 l)) c in
    ⊎_elim
    (λ same. rw (grows log k a l same) (carries_counted log plan (k + 1) (omega arith) (unfirst (get_or log k 0) a (drop (k + 1) log) plan front)))
    (λ other. rw (stays log k a l other) (carries_counted log plan k h (rw (drop_more log k 0 l) (unskip (get_or log k 0) a (drop (k + 1) log) plan other front))))
    (cases_eq (get_or log k 0) a))
    (λ l. rw (ended log k a l) (carries_counted log plan k h (rw (drop_all k log l) (carries_none plan))))
    (cases_lt k (length log))
