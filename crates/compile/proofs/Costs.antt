-- A least cost is the same over two domains whose lists can be turned into each other at no higher cost.
use Rattle.std.proofs.Common.{◌≡◌, ℕ, ◌≤◌, List, Some, arith}
use Rattle.domain.specs.Meaning.{Meaning}
use Rattle.plans.specs.Plans.{cost_of, LeastCost}

-- some list of the kind costs no more than the number
abbrev pub CostsAtMost : Meaning → (List ℕ → Type 0) → ℕ → Type 0
CostsAtMost d Kind n = (plan : List ℕ) × (Kind plan × (cost_of d plan ≤ n))

module _ (m d : Meaning) (P Q : List ℕ → Type 0) (to : (plan : List ℕ) → P plan → CostsAtMost d Q (cost_of m plan)) (back : (plan : List ℕ) → Q plan → CostsAtMost m P (cost_of d plan)) where
  pub least_over : (k : ℕ) → LeastCost m P (Some k) → LeastCost d Q (Some k)
  least_over k least =
      let cheap = least.1.0 in
      let found = to least.0 cheap.of_kind in
      let bound : (other : List ℕ) → Q other → k ≤ cost_of d other = λ other o. let b = back other o in omega (arith, least.1.1, cheap.least b.0 b.1.0, b.1.1) in
      let same : cost_of d found.0 ≡ k = omega (arith, least.1.1, found.1.1, bound found.0 found.1.0) in
      (found.0, (record { of_kind = found.1.0; least = λ other o. omega (arith, bound other o) }, same))
