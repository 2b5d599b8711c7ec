-- Different states that all stand in a list are no more than the list is long; so at most n states and more than n exclude each other.
use Rattle.std.proofs.Common.{◌≡◌, ℕ, true, eqb, arith}
use Rattle.std.specs.List.{IsDistinct}
use Rattle.std.specs.Set.{is_member}
use Rattle.std.proofs.lemmas.Bool.Decides.{Decides-eqb}
use Rattle.std.proofs.lemmas.Cmp.{nat_eq_equiv}
use Rattle.std.proofs.lemmas.List.Elements.{All-contains}
use Rattle.std.proofs.lemmas.Map.Made.{is_member-Decides, IsDistinct-from_AllPairs, length-le_from_is_member}
use Rattle.domain.specs.Meaning.{Meaning}
use Rattle.plans.specs.Reachable.{Reachable, NeverBoth}

pub never_both : (d : Meaning) (n : ℕ) → NeverBoth d n
never_both d n few many =
    let distinct : IsDistinct eqb many.states = IsDistinct-from_AllPairs Decides-eqb many.states many.apart in
    let among : (s : ℕ) → is_member eqb many.states s ≡ true → is_member eqb few.states s ≡ true = λ s m.
    let reached = All-contains (Reachable d) many.states s many.each ((is_member-Decides Decides-eqb many.states s).0 m) in
    (is_member-Decides Decides-eqb few.states s).1 (few.all s reached) in
    omega (arith, few.few, many.many, length-le_from_is_member nat_eq_equiv many.states few.states distinct among)
