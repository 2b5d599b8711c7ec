-- What runs is an action, and lists of actions run one after another.
use Rattle.std.proofs.Common.{◌≡◌, ℕ, ◌+◌, ◌<◌, true, List, [], ◌∷◌, ◌++◌, sym, ◌∙◌, ⊎_elim, arith}
use Rattle.std.proofs.lemmas.Bool.{cases_lt, true≢false}
use Rattle.domain.specs.Meaning.{Meaning, Limits}
use Rattle.plans.specs.Plans.{after, RunsAll, cost_of}

module _ (m : Meaning) where
  pub is_action : Limits m → (s a : ℕ) → m.runs s a ≡ true → a < m.actions
  is_action limits s a r = ⊎_elim (λ h. h) (λ h. absurd (true≢false (sym r ∙ limits.runs_no_action s a h))) (cases_lt a m.actions)

  pub runs_append : (p q : List ℕ) (s : ℕ) → RunsAll m s p → RunsAll m (after m s p) q → RunsAll m s (p ++ q)
  runs_append [] q s r t = t
  runs_append (a ∷ p) q s r t = (r.0, runs_append p q (m.next s a) r.1 t)

  pub cost_append : (p q : List ℕ) → cost_of m (p ++ q) ≡ cost_of m p + cost_of m q
  cost_append [] q = omega arith
  cost_append (a ∷ p) q = omega (arith, cost_append p q)
