-- The ways that the rows of a table tell, as lists of actions.
use Rattle.std.proofs.Common.{◌≡◌, ℕ, zero, suc, ◌-◌, ◌<◌, ◌≤◌, List, [], ◌∷◌, ◌++◌, length, get_or, sym, refl, ap, ◌∙◌, subst, ⊎_elim, arith}
use Rattle.std.specs.List.{All, AllPairs}
use Rattle.std.proofs.lemmas.List.Sums.{fold_push}
use Rattle.domain.specs.Meaning.{Meaning}
use Rattle.plans.specs.Reachable.{Reachable, MoreThan}
use Rattle.plans.proofs.Running.{runs_append, cost_append}
use Rattle.table.specs.declared.row.Node.{Node}
use Rattle.search.specs.Solved.{PathTo}
use Rattle.search.specs.Ways.{Begins, Follows, Way, OneEach}

module _ (m : Meaning) (nodes : ℕ → Node) (n : ℕ) where
  -- one action on
  pub path_on : (v : Node) (plan : List ℕ) (f : Follows m nodes n v) → PathTo m (nodes f.step.from) plan → PathTo m v (plan ++ f.step.action ∷ [])
  path_on v plan f p = record {
    runs = runs_append m plan (f.step.action ∷ []) m.start p.runs (ap (λ s. m.runs s f.step.action) p.state ∙ f.runs, tt);
    state = fold_push m.next m.start plan f.step.action ∙ ap (λ s. m.next s f.step.action) p.state ∙ f.next;
    cost = omega (arith, cost_append m plan (f.step.action ∷ []), p.cost, f.cost);
  }

  path_begins : (v : Node) → Begins m v → PathTo m v []
  path_begins v b = record { runs = tt; state = sym b.state; cost = sym b.cost }

  -- every row has one, since a way follows from a row with fewer steps
  path_by : ((i : ℕ) → i < n → Way m nodes n (nodes i)) → (k i : ℕ) → i < n → (nodes i).steps ≤ k → (plan : List ℕ) × PathTo m (nodes i) plan
  path_by ways zero i h l = ⊎_elim (λ b. ([], path_begins (nodes i) b)) (λ f. absurd (omega (arith, f.steps))) (ways i h)
  path_by ways (suc k) i h l =
      ⊎_elim
      (λ b. ([], path_begins (nodes i) b))
      (λ f. let before = path_by ways k f.step.from f.from (omega (arith, f.steps)) in (before.0 ++ f.step.action ∷ [], path_on (nodes i) before.0 f before.1))
      (ways i h)

  pub path_to : ((i : ℕ) → i < n → Way m nodes n (nodes i)) → (i : ℕ) → i < n → (plan : List ℕ) × PathTo m (nodes i) plan
  path_to ways i h = path_by ways (nodes i).steps i h (omega arith)

  pub reachable : ((i : ℕ) → i < n → Way m nodes n (nodes i)) → (i : ℕ) → i < n → Reachable m (nodes i).state
  reachable ways i h = let p = path_to ways i h in (p.0, (p.1.runs, p.1.state))

-- The states of the first n rows, and of one that is not among them.
abbrev pub states_of : (ℕ → Node) → ℕ → List ℕ
states_of nodes zero = []
states_of nodes (suc n) = (nodes n).state ∷ states_of nodes n

pub states_length : (nodes : ℕ → Node) (n : ℕ) → length (states_of nodes n) ≡ n
states_length nodes zero = refl
states_length nodes (suc n) = ap suc (states_length nodes n)

-- the state at a place of the list is that of a row, and places differ as rows do
states_at : (nodes : ℕ → Node) (n k d : ℕ) → k < n → get_or (states_of nodes n) k d ≡ (nodes (n - suc k)).state
states_at nodes (suc n) zero d h = ap (λ i. (nodes i).state) (omega arith)
states_at nodes (suc n) (suc k) d h = states_at nodes n k d (omega arith) ∙ ap (λ i. (nodes i).state) (omega arith)
states_at nodes zero k d h = absurd (omega arith)

module _ (m : Meaning) (nodes : ℕ → Node) (n : ℕ) (ways : (i : ℕ) → i < n → Way m nodes n (nodes i)) (one_each : OneEach nodes n) where
  -- a reachable state beside them makes more than n
  pub more_than : (s : ℕ) → Reachable m s → ((i : ℕ) → i < n → (nodes i).state ≡ s → ⊥) → MoreThan m n
  more_than s reached absent = record { states = s ∷ states_of nodes n; many = omega (arith, states_length nodes n); each = each; apart = apart }
    where
      each : All (Reachable m) (s ∷ states_of nodes n)
      each zero d h = reached
      each (suc i) d h = let l : i < n = omega (arith, states_length nodes n) in subst (Reachable m) (sym (states_at nodes n i d l)) (reachable m nodes n ways (n - suc i) (omega arith))

      apart : AllPairs (λ x y. x ≡ y → ⊥) (s ∷ states_of nodes n)
      apart zero (suc j) d l h e = let k : j < n = omega (arith, states_length nodes n) in absent (n - suc j) (omega arith) (sym (states_at nodes n j d k) ∙ sym e)
      apart (suc i) (suc j) d l h e =
          let k : j < n = omega (arith, states_length nodes n) in
          let same : n - suc i ≡ n - suc j = one_each (n - suc i) (n - suc j) (omega arith) (omega arith) (sym (states_at nodes n i d (omega arith)) ∙ e ∙ states_at nodes n j d k) in
          omega arith
      apart zero zero d l h e = omega arith
      apart (suc i) zero d l h e = omega arith
