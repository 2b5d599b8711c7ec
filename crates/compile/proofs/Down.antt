-- What the compiled card runs, the card runs too, at no higher cost: a copy is the action of its entry, and what has lost its effect is left out.
use Rattle.std.proofs.Common.{◌≡◌, ℕ, ◌+◌, ◌-◌, ◌<◌, ◌≤◌, true, eqb, List, [], ◌∷◌, length, get_or, sym, ap, ◌∙◌, subst, ⊎_elim, arith}
use Rattle.std.proofs.lemmas.Bool.Decides.{nat_tests}
use Rattle.std.proofs.lemmas.Bool.{cases_Bool, cases_lt, or_cases, eqb-true, true≢false}
use Rattle.domain.specs.Meaning.{Meaning}
use Rattle.fluents.specs.Fluents.{holds}
use Rattle.cards.specs.Cards.{action_at, meaning_of, Runs}
use Rattle.cards.specs.Contents.{Contents}
use Rattle.cards.specs.Laws.{decides_runs}
use Rattle.plans.specs.Counting.{may_run, advance, advance_all}
use Rattle.plans.specs.Logs.{occurs, Logged}
use Rattle.plans.specs.Plans.{after, RunsAll, cost_of}
use Rattle.plans.proofs.Carrying.{advance_high, advance_low}
use Rattle.plans.proofs.Marks.{may_logged}
use Rattle.compile.proofs.Counts.{count_past, entry_occurs}
use Rattle.compile.proofs.Shape.{Shape}
use Rattle.compile.proofs.Steps.{Over, before_holds, own_runs_below, own_cost, own_marks, own_over, idle_over, copy_runs_below, copy_cost, copy_over, copy_marks}

-- one action more at the front of a list whose marked actions are in the log
logged_more : (d : Meaning) (log plan : List ℕ) (b : ℕ) → (d.marked b ≡ true → occurs b log ≡ true) → Logged d log plan → Logged d log (b ∷ plan)
logged_more d log plan b here later a o m = grind (arith, nat_tests, here, later a)

module _ (c : Contents) (log : List ℕ) (new : Contents) (shape : Shape c log new) where
  -- the marks that hold are those of counted entries
  abbrev pub Counted : ℕ → ℕ → Type 0
  Counted x k = (j : ℕ) → holds (c.fluents + j) x ≡ true → j < k

  -- a list that the compiled card runs from x, and the list of the card that it comes to, from s with k entries counted
  pub record Below (x s k : ℕ) (list : List ℕ) : Type 0 where
    pub plan : List ℕ
    pub runs : RunsAll (meaning_of c) s plan
    pub logged : Logged (meaning_of c) log plan
    pub over : Over c new (after (meaning_of new) x list) (after (meaning_of c) s plan)
    pub counted : Counted (after (meaning_of new) x list) (advance_all log k plan)
    pub low : advance_all log k plan ≤ length log
    pub cost : cost_of (meaning_of c) plan ≤ cost_of (meaning_of new) list

  module _ (x s k : ℕ) (over : Over c new x s) (counted : Counted x k) where
    own_counted : (a : ℕ) → a < length c.actions → Runs new x a → Counted ((meaning_of new).next x a) k
    own_counted a h r j t = counted j (sym (own_marks c log new shape x s over a h r (c.fluents + j) (omega arith)) ∙ t)

    copy_counted : (j : ℕ) → j < length log → Runs new x (length c.actions + j) → Counted ((meaning_of new).next x (length c.actions + j)) (advance log k (get_or log j 0))
    copy_counted j h r i t =
        let before = (copy_runs_below c log new shape x s over j h r).1 in
        let reached : j ≤ k = ⊎_elim
        (λ (later : 0 < j). omega (arith, counted (j - 1) (before_holds c x j before later)))
        (λ (first : j ≤ 0). omega arith)
        (cases_lt 0 j) in
        ⊎_elim
        (λ (e : eqb (c.fluents + i) (c.fluents + j) ≡ true). omega (arith, eqb-true (c.fluents + i) (c.fluents + j) e, count_past log k j reached h))
        (λ (held : holds (c.fluents + i) x ≡ true). omega (arith, counted i held, advance_high log k (get_or log j 0)))
        (or_cases _ _ (sym (copy_marks c log new shape x s over j h r (c.fluents + i) (omega arith)) ∙ t))

  -- one action more at the front: a on the card for b on the compiled card
  front : (x s k b a : ℕ) (list : List ℕ) → Runs c s a → ((meaning_of c).marked a ≡ true → occurs a log ≡ true) → (meaning_of new).cost b ≡ (meaning_of c).cost a → Below ((meaning_of new).next x b) ((meaning_of c).next s a) (advance log k a) list → Below x s k (b ∷ list)
  front x s k b a list run seen cost rest = record {
    plan = a ∷ rest.plan;
    runs = ((decides_runs c s a).1 run, rest.runs);
    logged = logged_more (meaning_of c) log rest.plan a seen rest.logged;
    over = rest.over;
    counted = rest.counted;
    low = rest.low;
    cost = omega (arith, cost, rest.cost);
  }

  -- one that is left out
  idle_front : (x s k b : ℕ) (list : List ℕ) → Below ((meaning_of new).next x b) s k list → Below x s k (b ∷ list)
  idle_front x s k b list rest = record { plan = rest.plan; runs = rest.runs; logged = rest.logged; over = rest.over; counted = rest.counted; low = rest.low; cost = omega (arith, rest.cost) }

  pub ran_below : (list : List ℕ) (x s k : ℕ) → Over c new x s → Counted x k → k ≤ length log → RunsAll (meaning_of new) x list → Below x s k list
  ran_below [] x s k over counted low r = record { plan = []; runs = tt; logged = λ a o m. absurd (true≢false (sym o)); over = over; counted = counted; low = low; cost = omega arith }
  ran_below (b ∷ list) x s k over counted low r =
      let run : Runs new x b = (decides_runs new x b).0 r.0 in
      ⊎_elim
      (λ (own : b < length c.actions).
      let kept = own_counted x s k over counted b own run in
      ⊎_elim
      (λ may.
      front x s k b b list (own_runs_below c log new shape x s over b own run) (may_logged log b (action_at c b).marked may) (own_cost c log new shape x s over b own)
      (ran_below list ((meaning_of new).next x b) ((meaning_of c).next s b) (advance log k b) (own_over c log new shape x s over b own may run) (λ j t. omega (arith, kept j t, advance_high log k b)) (advance_low log k b low) r.1))
      (λ idle. idle_front x s k b list (ran_below list ((meaning_of new).next x b) s k (idle_over c log new shape x s over b own idle run) kept low r.1))
      (cases_Bool (may_run log b (action_at c b).marked)))
      (λ (past : length c.actions ≤ b).
      let j = b - length c.actions in
      let a = get_or log j 0 in
      let h : j < length log = omega (arith, run.1, shape.actions) in
      let same : length c.actions + j ≡ b = omega arith in
      let copied : Runs new x (length c.actions + j) = subst (Runs new x) (sym same) run in
      front x s k b a list (copy_runs_below c log new shape x s over j h copied).0 (λ _. entry_occurs log j h) (ap (meaning_of new).cost (sym same) ∙ copy_cost c log new shape x s over j h)
      (ran_below list ((meaning_of new).next x b) ((meaning_of c).next s a) (advance log k a)
      (subst (λ n. Over c new ((meaning_of new).next x n) ((meaning_of c).next s a)) same (copy_over c log new shape x s over j h copied))
      (subst (λ n. Counted ((meaning_of new).next x n) (advance log k a)) same (copy_counted x s k over counted j h copied))
      (advance_low log k a low)
      r.1))
      (cases_lt b (length c.actions))
