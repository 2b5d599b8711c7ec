use Rattle.std.proofs.Common.{ℕ, Bool, ◌&&◌, false, true, arith, rules}
use Rattle.search.specs.Solved.{Ends}
use Rattle.search.proofs.Cheapest.{cheapest_of_all}
use Rattle.search.proofs.ends.cheapest_ends.Goals as goal

pub returns-clause-without : goal.returns-clause-without
returns-clause-without g c =
    let m = g.D.Domain.meaning c.args.domain.now in
    let goal = c.args.goal in
    let such : ℕ → Bool = λ s. m.meets s goal in
    cheapest_of_all c.args.rows.now c.args.known (omega arith) such (Ends m goal false) (λ s. search rules) _ (c.cheapest_end-without.ensures.cheapest such (λ s r h. search rules))

pub returns-clause-with : goal.returns-clause-with
returns-clause-with g c =
    let m = g.D.Domain.meaning c.args.domain.now in
    let goal = c.args.goal in
    let such : ℕ → Bool = λ s. m.meets s goal && m.complete s in
    cheapest_of_all c.args.rows.now c.args.known (omega arith) such (Ends m goal true) (λ s. search rules) _ (c.cheapest_end-with.ensures.cheapest such (λ s r h. search rules))
