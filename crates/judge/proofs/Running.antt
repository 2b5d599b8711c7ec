-- The first actions of a list, run one after another from the start.
use Rattle.std.proofs.Common.{◌≡◌, ℕ, ◌+◌, ◌*◌, ◌<◌, ◌≤◌, true, List, [], ◌∷◌, ◌++◌, length, get_or, take, sym, ap, ◌∙◌, arith}
use Rattle.std.proofs.lemmas.List.{take_more}
use Rattle.std.proofs.lemmas.List.Sums.{fold_more}
use Rattle.domain.specs.Meaning.{Meaning}
use Rattle.plans.specs.Plans.{after, RunsAll, cost_of}
use Rattle.plans.proofs.Running.{runs_append, cost_append}

-- the first n actions run, lead to a state and have a cost, which is at most 65535 for each
pub record Ran (d : Meaning) (list : List ℕ) (n state cost : ℕ) : Type 0 where
  pub runs : RunsAll d d.start (take n list)
  pub last : state ≡ after d d.start (take n list)
  pub costs : cost ≡ cost_of d (take n list)
  pub low : cost ≤ 65535 * n

module _ (d : Meaning) (list : List ℕ) (n state cost : ℕ) (ran : Ran d list n state cost) where
  -- the next action runs too
  pub ran_more : (next more : ℕ) → n < length list → d.runs state (get_or list n 0) ≡ true → next ≡ d.next state (get_or list n 0) → more ≡ d.cost (get_or list n 0) → more ≤ 65535 → Ran d list (n + 1) next (cost + more)
  ran_more next more inside can is-next is-more small =
      let a = get_or list n 0 in
      let front = take n list in
      let grown : take (n + 1) list ≡ front ++ (a ∷ []) = take_more list n 0 inside in
      record {
        runs = rw grown (runs_append d front (a ∷ []) d.start ran.runs (rw (sym ran.last) can, tt));
        last = is-next ∙ ap (λ s. d.next s a) ran.last ∙ sym (fold_more d.next d.start list n 0 inside);
        costs = rw grown (omega (arith, cost_append d front (a ∷ []), ran.costs));
        low = omega (arith, ran.low);
      }
