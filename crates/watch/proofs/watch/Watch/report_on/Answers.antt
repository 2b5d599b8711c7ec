use Rattle.std.proofs.Common.{rules, arith}
use Rattle.watch.proofs.Listing.{report_cut, sizes_cut}
use Rattle.watch.proofs.watch.Watch.report_on.Goals as goal

pub returns-clause-law : goal.returns-clause-law
returns-clause-law g c =
    let told = c.report-outcome.ensures in
    report_cut _ _ _ _ _ _ c.args.request.goal _ _ _ c.report-outcome.new.plan _ c.report-outcome.result c.map-slot.result
    (sizes_cut c.args.table.now c.args.waiting.now c.args.slot.now.plan c.args.request _ _ c.min-places.result c.min-rows.ensures c.min-entries.ensures (omega arith))
    (omega arith) told.reported (λ plan. search rules) told.law
