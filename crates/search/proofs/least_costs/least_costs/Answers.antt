use Rattle.std.proofs.Common.{length, refl, arith}
use Rattle.table.specs.Rows.{node}
use Rattle.search.proofs.Answering.{at_most, found_wider}
use Rattle.search.proofs.least_costs.least_costs.Goals as goal

pub returns-clause-answered : goal.returns-clause-answered
returns-clause-answered g c =
    let d = c.args.domain.now in
    let m = g.D.Domain.meaning d in
    let known = c.in_ok-known.known in
    let told = c.in_ok-known.ensures in
    record {
      is_goal = omega arith;
      suited = c.if-not-suited.ensures.0 refl;
      reachable = at_most m (g.met.D.Domain.limits d) (node c.explore.new.rows) known told.1 (length c.args.table.now) told.0;
      found = found_wider m c.args.goal known (length c.args.table.now) _ _ _ _ _ told.0 c.answer.ensures;
    }
