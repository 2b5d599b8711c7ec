-- A plan is written from its last action back: what stands in the place leads from the row that was come to on to the last one.
use Rattle.std.proofs.Common.{◌≡◌, ℕ, zero, suc, ◌+◌, ◌<◌, ◌≤◌, List, ◌∷◌, ◌++◌, length, take, drop, set, IsSome, Some, None, sym, refl, ap, ◌∙◌, subst, ⊎_elim, arith}
use Rattle.std.proofs.lemmas.List.{length-set, drop-set, take_at, drop_at}
use Rattle.std.proofs.lemmas.Bool.{false≢true}
use Rattle.std.proofs.lemmas.Option.{none-some, same_Some}
use Rattle.domain.specs.Meaning.{Meaning}
use Rattle.plans.specs.Plans.{after, RunsAll, cost_of}
use Rattle.table.specs.declared.row.Node.{Node}
use Rattle.table.specs.declared.row.Step.{Step}
use Rattle.search.specs.Answers.{RepeatsNone}
use Rattle.search.specs.Solved.{Solved, PathTo, Written}
use Rattle.search.specs.Ways.{Begins, Follows}

module _ (m : Meaning) (nodes : ℕ → Node) (n last : ℕ) where
  -- the last actions of the way, from row i on, of which k actions are left to write
  pub record WrittenFrom (before now : List ℕ) (len i k : ℕ) : Type 0 where
    pub row : i < n
    pub steps : (nodes i).steps ≡ k
    pub long : length now ≡ length before
    pub tail : List ℕ
    pub size : length tail + k ≡ len
    pub stands : drop k now ≡ tail ++ drop len before
    pub runs : RunsAll m (nodes i).state tail
    pub leads : after m (nodes i).state tail ≡ (nodes last).state
    pub cost : (nodes i).cost + cost_of m tail ≡ (nodes last).cost
    -- each state on the way is that of a row with as many steps
    pub passes : (j : ℕ) → j ≤ length tail → (r : ℕ) × ((r < n) × (((nodes r).steps ≡ k + j) × (after m (nodes i).state (take j tail) ≡ (nodes r).state)))

  module _ (solved : Solved m nodes n) where
    -- a row that has a last step follows another by it
    follows : (i : ℕ) (step : Step) → i < n → (nodes i).last ≡ Some step → (f : Follows m nodes n (nodes i)) × (f.step ≡ step)
    follows i step h e = ⊎_elim (λ b. absurd (none-some step (sym b.last ∙ e))) (λ f. (f, same_Some f.step step (sym f.last ∙ e))) (solved.ways i h)

    -- where there is a step, its action is left to write
    pub some_left : (before now : List ℕ) (len i k : ℕ) → WrittenFrom before now len i k → IsSome (nodes i).last → 0 < k
    some_left before now len i k so some = ⊎_elim (λ b. absurd (false≢true (subst IsSome b.last some))) (λ f. omega (arith, f.steps, so.steps)) (solved.ways i so.row)

    module _ (before now : List ℕ) (len i : ℕ) (step : Step) (last_is : (nodes i).last ≡ Some step) where
      module _ (k : ℕ) (so : WrittenFrom before now len i (k + 1)) (fits : k < length now) (f : Follows m nodes n (nodes i)) where
        passes : (j : ℕ) → j ≤ length (f.step.action ∷ so.tail) → (r : ℕ) × ((r < n) × (((nodes r).steps ≡ k + j) × (after m (nodes f.step.from).state (take j (f.step.action ∷ so.tail)) ≡ (nodes r).state)))
        passes zero h = (f.step.from, (f.from, (omega (arith, f.steps, so.steps), refl)))
        passes (suc j) h =
            let r = so.passes j (omega arith) in
            (r.0, (r.1.0, (omega (arith, r.1.1.0), ap (λ s. after m s (take j so.tail)) f.next ∙ r.1.1.1)))

        written_more : WrittenFrom before (set now k f.step.action) len f.step.from k
        written_more = record {
          row = f.from;
          steps = omega (arith, f.steps, so.steps);
          long = length-set now k f.step.action ∙ so.long;
          tail = f.step.action ∷ so.tail;
          size = omega (arith, so.size);
          stands = drop-set now k f.step.action fits ∙ ap (λ xs. f.step.action ∷ xs) so.stands;
          runs = (f.runs, subst (λ s. RunsAll m s so.tail) (sym f.next) so.runs);
          leads = ap (λ s. after m s so.tail) f.next ∙ so.leads;
          cost = omega (arith, f.cost, so.cost);
          passes = passes;
        }

      -- the row before it, and the action that leads on from there
      pub writing_on : (k : ℕ) → WrittenFrom before now len i (k + 1) → k < length now → WrittenFrom before (set now k step.action) len step.from k
      writing_on k so fits =
          let f = follows i step so.row last_is in
          subst (λ t. WrittenFrom before (set now k t.action) len t.from k) f.1 (written_more k so fits f.0)

    -- all is written
    pub writing_ends : (before now : List ℕ) (len i k : ℕ) → (nodes i).last ≡ None → len ≡ (nodes last).steps → WrittenFrom before now len i k → Written m (nodes last) before now len
    writing_ends before now len i k none e so =
        let start : Begins m (nodes i) = ⊎_elim (λ b. b) (λ f. absurd (none-some f.step (sym none ∙ f.last))) (solved.ways i so.row) in
        let all : k ≡ 0 = omega (arith, start.steps, so.steps) in
        let size : length so.tail ≡ len = omega (arith, so.size) in
        let stands : now ≡ so.tail ++ drop len before = ap (λ j. drop j now) (sym all) ∙ so.stands in
        let front : take len now ≡ so.tail = ap (take len) stands ∙ take_at so.tail (drop len before) len size in
        let path : PathTo m (nodes last) so.tail = record {
          runs = subst (λ s. RunsAll m s so.tail) start.state so.runs;
          state = ap (λ s. after m s so.tail) (sym start.state) ∙ so.leads;
          cost = omega (arith, so.cost, start.cost);
        } in
        let once : RepeatsNone m so.tail = λ p q l h same.
        let a = so.passes p (omega arith) in
        let b = so.passes q h in
        let one : a.0 ≡ b.0 = solved.one_each a.0 b.0 a.1.0 b.1.0 (sym a.1.1.1 ∙ ap (λ s. after m s (take p so.tail)) start.state ∙ same ∙ ap (λ s. after m s (take q so.tail)) (sym start.state) ∙ b.1.1.1) in
        omega (arith, a.1.1.0, b.1.1.0, all, ap (λ r. (nodes r).steps) one) in
        record {
          steps = e;
          path = subst (PathTo m (nodes last)) (sym front) path;
          repeats_none = subst (RepeatsNone m) (sym front) once;
          rest = ap (drop len) stands ∙ drop_at so.tail (drop len before) len size;
          long = so.long;
        }
