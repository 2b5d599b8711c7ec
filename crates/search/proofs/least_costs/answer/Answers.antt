use Rattle.std.proofs.Common.{sym, ◌∙◌, rules}
use Rattle.table.specs.Rows.{node}
use Rattle.search.proofs.Answering.{found_shown, found_not, shown_low, found_same}
use Rattle.search.proofs.least_costs.answer.Goals as goal

pub returns-in-Some : goal.returns-in-Some
returns-in-Some g c =
    let d = c.args.domain.now in
    let m = g.D.Domain.meaning d in
    let limits = g.met.D.Domain.limits d in
    let f = node c.args.rows.now in
    let n = c.args.known in
    let solved = c.requires.0 in
    let goal = c.args.goal in
    let before = c.args.plan.now in
    let row = c.in-Some.row in
    let ends = c.cheapest_ends-without.ensures in
    let is = sym c.or.ensures ∙ c.in-Some.is in
    let low = shown_low m limits f n solved goal before _ _ row is ends.without ends.with in
    let found = found_shown m limits f n solved goal before _ _ row _ _ is ends.without ends.with (c.write_plan-length.ensures m n (record { solved = solved; row = low; few = c.requires.1.0; fits = c.requires.1.1 })) in
    found_same m goal n _ _ _ _ before c.write_plan-length.new.plan c.write_plan-length.result (search rules) (search rules) found

pub returns-in-None : goal.returns-in-None
returns-in-None g c =
    let d = c.args.domain.now in
    let m = g.D.Domain.meaning d in
    let before = c.args.plan.now in
    let ends = c.cheapest_ends-without.ensures in
    let found = found_not m (g.met.D.Domain.limits d) (node c.args.rows.now) c.args.known c.requires.0 c.args.goal before _ _ (sym c.or.ensures ∙ c.in-None.is) ends.without ends.with in
    found_same m c.args.goal c.args.known _ _ _ _ before before 0 (search rules) (search rules) found
