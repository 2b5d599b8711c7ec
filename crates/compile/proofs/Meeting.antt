-- Which goals are met in a state of the compiled card and in the state that it lies over.
use Rattle.std.proofs.Common.{◌≡◌, ℕ, zero, suc, ◌+◌, ◌<◌, ◌≤◌, true, List, length, subst, ⊎_elim, arith}
use Rattle.std.proofs.lemmas.Bool.{cases_lt}
use Rattle.fluents.specs.Fluents.{holds, Within}
use Rattle.cards.specs.Cards.{empty_set, goal_at, meaning_of}
use Rattle.cards.specs.Contents.{Contents}
use Rattle.cards.specs.Laws.{decides_meets}
use Rattle.compile.specs.Compiled.{mark, marks}
use Rattle.compile.proofs.Shape.{Shape}
use Rattle.compile.proofs.Steps.{Over, within_below, within_above}
use Rattle.compile.proofs.Unions.{within_none, within_one, one_within, within_both, both_within}

-- the marks of the first n entries
module _ (c : Contents) (x : ℕ) where
  marks_within : (n : ℕ) → ((j : ℕ) → j < n → holds (c.fluents + j) x ≡ true) → Within (marks c n).0 x
  marks_within zero h = within_none x
  marks_within (suc n) h = within_both x (marks c n).0 (mark c n).0 (marks_within n (λ j l. h j (omega arith))) (within_one x (c.fluents + n) (h n (omega arith)))

  within_marks : (n : ℕ) → Within (marks c n).0 x → (j : ℕ) → j < n → holds (c.fluents + j) x ≡ true
  within_marks zero h j l = absurd (omega arith)
  within_marks (suc n) h j l =
      let both = both_within x (marks c n).0 (mark c n).0 h in
      ⊎_elim
      (λ (earlier : j < n). within_marks n both.0 j earlier)
      (λ (last : n ≤ j). let same : n ≡ j = omega arith in subst (λ i. holds (c.fluents + i) x ≡ true) same (one_within x (c.fluents + n) both.1))
      (cases_lt j n)

module _ (c : Contents) (log : List ℕ) (new : Contents) (shape : Shape c log new) (g : ℕ) (h : g < length c.goals) (x s : ℕ) (over : Over c new x s) where
  own_below : Within (goal_at c g).0 x → (meaning_of c).meets s g ≡ true
  own_below w = (decides_meets c s g).1 (over.below, h, within_below c new x s over (goal_at c g).0 (shape.card.goals_among g empty_set h) w)

  own_above : (meaning_of c).meets s g ≡ true → Within (goal_at c g).0 x
  own_above e = within_above c new x s over (goal_at c g).0 (shape.card.goals_among g empty_set h) ((decides_meets c s g).0 e).2

  pub meets_below : (meaning_of new).meets x g ≡ true → (meaning_of c).meets s g ≡ true
  meets_below e = own_below (rw (shape.own_goal g h) at ((decides_meets new x g).0 e).2)

  pub meets_above : (meaning_of c).meets s g ≡ true → (meaning_of new).meets x g ≡ true
  meets_above e = (decides_meets new x g).1 (over.state, omega (arith, shape.goals, h), rw (shape.own_goal g h) (own_above e))

  pub log_below : (meaning_of new).meets x (length c.goals + g) ≡ true → ((meaning_of c).meets s g ≡ true) × ((j : ℕ) → j < length log → holds (c.fluents + j) x ≡ true)
  log_below e =
      let both = both_within x (goal_at c g).0 (marks c (length log)).0 (rw (shape.log_goal g h) at ((decides_meets new x (length c.goals + g)).0 e).2) in
      (own_below both.0, within_marks c x (length log) both.1)

  pub log_above : (meaning_of c).meets s g ≡ true → ((j : ℕ) → j < length log → holds (c.fluents + j) x ≡ true) → (meaning_of new).meets x (length c.goals + g) ≡ true
  log_above e held =
      let both : Within _ x = within_both x (goal_at c g).0 (marks c (length log)).0 (own_above e) (marks_within c x (length log) held) in
      (decides_meets new x (length c.goals + g)).1 (over.state, omega (arith, shape.goals, h), rw (shape.log_goal g h) both)
