-- The verdict on two least costs is right.
use Rattle.std.proofs.Common.{◌≡◌, ℕ, ◌≤◌, List, Some, None, Option, subst, arith}
use Rattle.std.proofs.lemmas.Bool.Decides.{nat_tests}
use Rattle.plans.specs.Logs.{Admitted, Whole, Stands}
use Rattle.domain.specs.Meaning.{Meaning}
use Rattle.plans.specs.Plans.{cost_of, LeastCost}
use Rattle.plans.specs.Verdicts.{verdict_of, JudgesRightly}

module _ (d : Meaning) (log : List ℕ) (g : ℕ) where
  -- equal least costs: a cheapest whole plan is a cheapest admitted one
  equal_stands : (c : ℕ) → LeastCost d (Admitted d log g) (Some c) → LeastCost d (Whole d log g) (Some c) → Stands d log g
  equal_stands c one two =
      let p = two.0 in
      let whole = two.1.0.of_kind in
      let least : (q : List ℕ) → Admitted d log g q → cost_of d p ≤ cost_of d q = λ q a. omega (arith, two.1.1, one.1.1, one.1.0.least q a) in
      (p, (record { of_kind = whole.admitted; least = least }, whole))

  -- a cheapest admitted plan that is whole has both least costs
  stands_equal : (c e : ℕ) → LeastCost d (Admitted d log g) (Some c) → LeastCost d (Whole d log g) (Some e) → Stands d log g → c ≡ e
  stands_equal c e one two stands =
      let p = stands.0 in
      let cheap = stands.1.0 in
      let whole = stands.1.1 in
      omega (
        arith,
        one.1.1,
        two.1.1,
        one.1.0.least p cheap.of_kind,
        cheap.least one.0 one.1.0.of_kind,
        two.1.0.least p whole,
        cheap.least two.0 two.1.0.of_kind.admitted,
      )

pub judges_rightly : (first second : Option ℕ) → JudgesRightly first second (verdict_of first second)
judges_rightly None second = record {
  says_so = λ d log g one two e. absurd cc;
  is_so = λ d log g one two s. absurd (one s.0 s.1.0.of_kind);
}
judges_rightly (Some c) None = record {
  says_so = λ d log g one two e. absurd cc;
  is_so = λ d log g one two s. absurd (two s.0 s.1.1);
}
judges_rightly (Some c) (Some e) = record {
  says_so = λ d log g one two v. equal_stands d log g c one (let same : e ≡ c = grind (arith, nat_tests) in subst (λ n. LeastCost d (Whole d log g) (Some n)) same two);
  is_so = λ d log g one two s. (let same : c ≡ e = stands_equal d log g c e one two s in grind (arith, nat_tests));
}
