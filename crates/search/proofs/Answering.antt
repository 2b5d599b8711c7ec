-- A finished table answers for every list of actions.
use Rattle.std.proofs.Common.{◌≡◌, ℕ, zero, suc, ◌+◌, ◌<◌, ◌≤◌, Bool, true, false, List, [], ◌∷◌, length, take, Some, None, Option, sym, refl, ap, ◌∙◌, subst, ⊎_elim, add-zero, add_assoc, arith}
use Rattle.std.specs.Option.{option_map, option_or}
use Rattle.std.specs.List.{Contains}
use Rattle.std.proofs.lemmas.List.Elements.{Contains-append_right}
use Rattle.std.proofs.lemmas.List.{length-take-le}
use Rattle.std.proofs.lemmas.Option.{none-some}
use Rattle.std.proofs.lemmas.Bool.{cases_lt}
use Rattle.domain.specs.Meaning.{Meaning, Limits}
use Rattle.plans.specs.Plans.{after, RunsAll, cost_of, PlanFor, CompletePlan, Cheapest, LeastCost}
use Rattle.plans.specs.Reachable.{AtMost}
use Rattle.plans.proofs.Running.{is_action}
use Rattle.table.specs.declared.row.Node.{Node}
use Rattle.search.specs.Answers.{ShownKind, Shown, Found}
use Rattle.search.specs.Solved.{Solved, Ends, CheapestEnd, PathTo, Written}
use Rattle.search.specs.Ways.{KnownAt}
use Rattle.search.proofs.Paths.{path_to, states_of, states_length}

module _ (m : Meaning) (limits : Limits m) (nodes : ℕ → Node) (n : ℕ) (solved : Solved m nodes n) where
  -- from a known state every list leads to a known state, at no more than it costs
  leads_on : (plan : List ℕ) (s c : ℕ) → KnownAt nodes n s c → RunsAll m s plan → KnownAt nodes n (after m s plan) (c + cost_of m plan)
  leads_on [] s c k r = subst (KnownAt nodes n s) (sym (add-zero c)) k
  leads_on (a ∷ plan) s c k r =
      let i = k.0 in
      let same : (nodes i).state ≡ s = k.1.1.0 in
      let step = solved.closed i k.1.0 a (is_action m limits s a r.0) (ap (λ t. m.runs t a) same ∙ r.0) in
      let there : KnownAt nodes n (m.next s a) (c + m.cost a) = (step.0, (step.1.0, (step.1.1.0 ∙ ap (λ t. m.next t a) same, omega (arith, step.1.1.1, k.1.1.1)))) in
      subst (KnownAt nodes n (after m (m.next s a) plan)) (add_assoc c (m.cost a) (cost_of m plan)) (leads_on plan (m.next s a) (c + m.cost a) there r.1)

  known_after : (plan : List ℕ) → RunsAll m m.start plan → KnownAt nodes n (after m m.start plan) (cost_of m plan)
  known_after plan r = let k = leads_on plan m.start 0 solved.start r in (k.0, (k.1.0, (k.1.1.0, omega (arith, k.1.1.1))))

  -- every reachable state is one of the rows' states
  states_have : (k i : ℕ) → i < k → Contains (states_of nodes k) (nodes i).state
  states_have zero i h = absurd (omega arith)
  states_have (suc k) i h =
      ⊎_elim
      (λ l. Contains-append_right ((nodes k).state ∷ []) (states_of nodes k) (nodes i).state (states_have k i l))
      (λ l. let same : k ≡ i = omega arith in (0, omega arith, ap (λ j. (nodes j).state) same))
      (cases_lt i k)

  pub at_most : (rows : ℕ) → n ≤ rows → AtMost m rows
  at_most rows h = record {
    states = states_of nodes n;
    few = omega (arith, states_length nodes n);
    all = λ s r. let k = known_after r.0 r.1.0 in subst (Contains (states_of nodes n)) (k.1.1.0 ∙ r.1.1) (states_have n k.0 k.1.0);
  }

  module _ (goal : ℕ) where
    -- plans for the goal, or those that end in a complete state
    abbrev pub Kind : Bool → List ℕ → Type 0
    Kind false plan = PlanFor m goal plan
    Kind true plan = CompletePlan m goal plan

    kind_from : (whole : Bool) (plan : List ℕ) → RunsAll m m.start plan → Ends m goal whole (after m m.start plan) → Kind whole plan
    kind_from false plan r e = record { runs = r; meets = e }
    kind_from true plan r e = record { plan_for = record { runs = r; meets = e.0 }; complete = e.1 }

    kind_runs : (whole : Bool) (plan : List ℕ) → Kind whole plan → RunsAll m m.start plan
    kind_runs false plan k = k.runs
    kind_runs true plan k = k.plan_for.runs

    kind_ends : (whole : Bool) (plan : List ℕ) → Kind whole plan → Ends m goal whole (after m m.start plan)
    kind_ends false plan k = k.meets
    kind_ends true plan k = (k.plan_for.meets, k.complete)

    module _ (whole : Bool) where
      -- a plan of the kind ends in the state of a row that costs no more
      ends_at : (plan : List ℕ) → Kind whole plan → (i : ℕ) × ((i < n) × (Ends m goal whole (nodes i).state × ((nodes i).cost ≤ cost_of m plan)))
      ends_at plan k =
          let at_row = known_after plan (kind_runs whole plan k) in
          (at_row.0, (at_row.1.0, (subst (Ends m goal whole) (sym at_row.1.1.0) (kind_ends whole plan k), at_row.1.1.1)))

      -- a way to the cheapest such row is one of the cheapest plans
      pub cheapest : (j : ℕ) (plan : List ℕ) → CheapestEnd m goal whole nodes n (Some j) → PathTo m (nodes j) plan → Cheapest m (Kind whole) plan × (cost_of m plan ≡ (nodes j).cost)
      cheapest j plan c p = (
        record {
          of_kind = kind_from whole plan p.runs (subst (Ends m goal whole) (sym p.state) c.1.0);
          least = λ other k. let e = ends_at other k in omega (arith, p.cost, c.1.1 e.0 e.1.0 e.1.1.0, e.1.1.1);
        },
        p.cost,
      )

      pub least_of : (o : Option ℕ) → CheapestEnd m goal whole nodes n o → LeastCost m (Kind whole) (option_map (λ j. (nodes j).cost) o)
      least_of None c = λ plan k. let e = ends_at plan k in c e.0 e.1.0 e.1.1.0
      least_of (Some j) c = let p = path_to m nodes n solved.ways j c.0 in (p.0, cheapest j p.0 c p.1)

    -- What is shown, by the cheapest ends that there are.
    module _ (before : List ℕ) where
      shown_way : (without with : Option ℕ) (j : ℕ) (place : List ℕ) (len : ℕ) → j < n → ShownKind m goal without with (take len place) → Written m (nodes j) before place len → Shown m goal n without with before place len
      shown_way without with j place len low kind w = record {
        kind = kind;
        repeats_none = w.repeats_none;
        short = omega (arith, w.steps, solved.short j low);
        rest = w.rest;
        long = w.long;
      }

      whole_kind : (without : Option ℕ) (c : ℕ) (plan : List ℕ) → Cheapest m (CompletePlan m goal) plan → cost_of m plan ≡ c → ShownKind m goal without (Some c) plan
      whole_kind None c plan k e = (k, e)
      whole_kind (Some x) c plan k e = (k, e)

      found_whole : (o : Option ℕ) (j : ℕ) (place : List ℕ) (len : ℕ) → CheapestEnd m goal false nodes n o → CheapestEnd m goal true nodes n (Some j) → Written m (nodes j) before place len → Found m goal n (option_map (λ i. (nodes i).cost) o) (Some (nodes j).cost) before place len
      found_whole o j place len one two w =
          let best = cheapest true j (take len place) two w.path in
          record {
            least = least_of false o one;
            least_complete = least_of true (Some j) two;
            shown = shown_way (option_map (λ i. (nodes i).cost) o) (Some (nodes j).cost) j place len two.0 (whole_kind (option_map (λ i. (nodes i).cost) o) (nodes j).cost (take len place) best.0 best.1) w;
          }

      found_cut : (j : ℕ) (place : List ℕ) (len : ℕ) → CheapestEnd m goal false nodes n (Some j) → CheapestEnd m goal true nodes n None → Written m (nodes j) before place len → Found m goal n (Some (nodes j).cost) None before place len
      found_cut j place len one two w = record {
        least = least_of false (Some j) one;
        least_complete = least_of true None two;
        shown = shown_way (Some (nodes j).cost) None j place len one.0 (cheapest false j (take len place) one w.path) w;
      }

      found_none : CheapestEnd m goal false nodes n None → CheapestEnd m goal true nodes n None → Found m goal n None None before before 0
      found_none one two =
          let size : length (take 0 before) ≡ 0 = length-take-le 0 before (omega arith) in
          record {
            least = least_of false None one;
            least_complete = least_of true None two;
            shown = record {
              kind = size;
              repeats_none = λ i j l h. absurd (omega arith);
              short = omega (arith, solved.start.1.0);
              rest = refl;
              long = refl;
            };
          }

      -- the row whose way is shown, if there is one
      pub found_shown : (without with : Option ℕ) (j : ℕ) (place : List ℕ) (len : ℕ) → option_or with without ≡ Some j → CheapestEnd m goal false nodes n without → CheapestEnd m goal true nodes n with → Written m (nodes j) before place len → Found m goal n (option_map (λ i. (nodes i).cost) without) (option_map (λ i. (nodes i).cost) with) before place len
      found_shown without (Some k) j place len e one two w = let same : k ≡ j = cc in found_whole without k place len one two (subst (λ i. Written m (nodes i) before place len) (sym same) w)
      found_shown (Some k) None j place len e one two w = let same : k ≡ j = cc in found_cut k place len one two (subst (λ i. Written m (nodes i) before place len) (sym same) w)
      found_shown None None j place len e one two w = absurd (none-some j e)

      pub found_not : (without with : Option ℕ) → option_or with without ≡ None → CheapestEnd m goal false nodes n without → CheapestEnd m goal true nodes n with → Found m goal n (option_map (λ i. (nodes i).cost) without) (option_map (λ i. (nodes i).cost) with) before before 0
      found_not without (Some k) e one two = absurd (none-some k (sym e))
      found_not (Some k) None e one two = absurd (none-some k (sym e))
      found_not None None e one two = found_none one two

      pub shown_low : (without with : Option ℕ) (j : ℕ) → option_or with without ≡ Some j → CheapestEnd m goal false nodes n without → CheapestEnd m goal true nodes n with → j < n
      shown_low without (Some k) j e one two = let same : k ≡ j = cc in omega (arith, two.0)
      shown_low (Some k) None j e one two = let same : k ≡ j = cc in omega (arith, one.0)
      shown_low None None j e one two = absurd (none-some j e)

pub found_wider : (m : Meaning) (goal n rows : ℕ) (without with : Option ℕ) (before place : List ℕ) (len : ℕ) → n ≤ rows → Found m goal n without with before place len → Found m goal rows without with before place len
found_wider m goal n rows without with before place len h f = record {
  least = f.least;
  least_complete = f.least_complete;
  shown = record {
    kind = f.shown.kind;
    repeats_none = f.shown.repeats_none;
    short = omega (arith, f.shown.short);
    rest = f.shown.rest;
    long = f.shown.long;
  };
}

-- the same of costs that are equal
pub found_same : (m : Meaning) (goal n : ℕ) (a b x y : Option ℕ) (before place : List ℕ) (len : ℕ) → x ≡ a → y ≡ b → Found m goal n a b before place len → Found m goal n x y before place len
found_same m goal n a b x y before place len e h f = subst (λ z. Found m goal n z y before place len) (sym e) (subst (λ z. Found m goal n a z before place len) (sym h) f)
