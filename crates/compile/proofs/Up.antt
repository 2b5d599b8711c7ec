-- What the card runs under the log, the compiled card runs too, at the same cost: the copy of an entry stands wherever the action carries it.
use Rattle.std.proofs.Common.{◌≡◌, ℕ, ◌+◌, ◌-◌, ◌<◌, ◌≤◌, true, List, [], ◌∷◌, length, get_or, sym, refl, ap, ◌∙◌, subst, ⊎_elim, arith}
use Rattle.std.proofs.lemmas.Bool.Decides.{nat_tests}
use Rattle.std.proofs.lemmas.Bool.{cases_lt, cases_eq, or_left, or_right, eq-eqb}
use Rattle.fluents.specs.Fluents.{holds}
use Rattle.cards.specs.Cards.{action_at, meaning_of, Runs}
use Rattle.cards.specs.Contents.{Contents}
use Rattle.cards.specs.Laws.{decides_runs}
use Rattle.plans.specs.Counting.{may_run, advance, advance_all}
use Rattle.plans.specs.Logs.{Logged}
use Rattle.plans.specs.Plans.{after, RunsAll, cost_of}
use Rattle.plans.proofs.Carrying.{grows, stays, ended}
use Rattle.plans.proofs.Marks.{logged_may}
use Rattle.compile.proofs.Shape.{Shape}
use Rattle.compile.proofs.Steps.{Over, holds_before, own_runs_above, own_cost, own_marks, own_over, copy_runs_above, copy_cost, copy_over, copy_marks}

module _ (c : Contents) (log : List ℕ) (new : Contents) (shape : Shape c log new) where
  -- the marks of the counted entries hold
  abbrev pub Marked : ℕ → ℕ → Type 0
  Marked x k = (j : ℕ) → j < k → holds (c.fluents + j) x ≡ true

  -- a list that the card runs from s with k entries counted, and the list of the compiled card that it comes to, from x
  pub record Above (x s k : ℕ) (plan : List ℕ) : Type 0 where
    pub list : List ℕ
    pub runs : RunsAll (meaning_of new) x list
    pub over : Over c new (after (meaning_of new) x list) (after (meaning_of c) s plan)
    pub marked : Marked (after (meaning_of new) x list) (advance_all log k plan)
    pub cost : cost_of (meaning_of new) list ≡ cost_of (meaning_of c) plan

  -- one action more at the front: b on the compiled card for a on the card
  front : (x s k b a n : ℕ) (plan : List ℕ) → advance log k a ≡ n → Runs new x b → (meaning_of new).cost b ≡ (meaning_of c).cost a → Above ((meaning_of new).next x b) ((meaning_of c).next s a) n plan → Above x s k (a ∷ plan)
  front x s k b a n plan e run cost rest = record {
    list = b ∷ rest.list;
    runs = ((decides_runs new x b).1 run, rest.runs);
    over = rest.over;
    marked = subst (λ n. Marked (after (meaning_of new) ((meaning_of new).next x b) rest.list) (advance_all log n plan)) (sym e) rest.marked;
    cost = omega (arith, cost, rest.cost);
  }

  module _ (x s k : ℕ) (over : Over c new x s) (marked : Marked x k) where
    own_marked : (a : ℕ) → a < length c.actions → Runs new x a → Marked ((meaning_of new).next x a) k
    own_marked a h r j t = own_marks c log new shape x s over a h r (c.fluents + j) (omega arith) ∙ marked j t

    copy_marked : (h : k < length log) → Runs new x (length c.actions + k) → Marked ((meaning_of new).next x (length c.actions + k)) (k + 1)
    copy_marked h r j t = grind (arith, nat_tests, copy_marks c log new shape x s over k h r (c.fluents + j) (omega arith), marked j)

    -- the next entry can be carried
    copy_run : (h : k < length log) → Runs c s (get_or log k 0) → Runs new x (length c.actions + k)
    copy_run h r = copy_runs_above c log new shape x s over k h r (holds_before c x k (λ later. marked (k - 1) (omega arith)))

  pub ran_above : (plan : List ℕ) (x s k : ℕ) → Over c new x s → Marked x k → RunsAll (meaning_of c) s plan → Logged (meaning_of c) log plan → Above x s k plan
  ran_above [] x s k over marked r logged = record { list = []; runs = tt; over = over; marked = marked; cost = refl }
  ran_above (a ∷ plan) x s k over marked r logged =
      let run : Runs c s a = (decides_runs c s a).0 r.0 in
      let later : Logged (meaning_of c) log plan = λ b o m. logged b (or_right _ _ o) m in
      let own : advance log k a ≡ k → Above x s k (a ∷ plan) = λ same.
      let up = own_runs_above c log new shape x s over a run.1 run in
      let may : may_run log a (action_at c a).marked ≡ true = logged_may log a (action_at c a).marked (logged a (or_left _ _ (eq-eqb a a refl))) in
      front x s k a a k plan same up (own_cost c log new shape x s over a run.1) (ran_above plan ((meaning_of new).next x a) ((meaning_of c).next s a) k (own_over c log new shape x s over a run.1 may up) (own_marked x s k over marked a run.1 up) r.1 later) in
      ⊎_elim
      (λ (h : k < length log). ⊎_elim
      (λ (same : get_or log k 0 ≡ a).
      let b = length c.actions + k in
      let up = copy_run x s k over marked h (subst (Runs c s) (sym same) run) in
      front x s k b a (k + 1) plan (grows log k a h same) up (copy_cost c log new shape x s over k h ∙ ap (meaning_of c).cost same)
      (ran_above plan ((meaning_of new).next x b) ((meaning_of c).next s a) (k + 1)
      (subst (λ n. Over c new ((meaning_of new).next x b) ((meaning_of c).next s n)) same (copy_over c log new shape x s over k h up))
      (copy_marked x s k over marked h up)
      r.1 later))
      (λ other. own (stays log k a h other))
      (cases_eq (get_or log k 0) a))
      (λ (past : length log ≤ k). own (ended log k a past))
      (cases_lt k (length log))
