use Rattle.std.proofs.Common.{rules, Ok, Result}
use Rattle.search.specs.Answers.{sizes_of}
use Rattle.watch.specs.declared.fault.WatchFault.{WatchFault}
use Rattle.watch.specs.declared.report.Report.{Report}
use Rattle.watch.proofs.Laws.{report_law}
use Rattle.watch.proofs.watch.Watch.report.Goals as goal

pub returns-in_err-costs-clause-law : goal.returns-in_err-costs-clause-law
returns-in_err-costs-clause-law g c =
    let self = c.args.self.now in
    report_law _ (g.met.D.Domain.limits self.domain) self.log _ self.rows _ self.long c.args.goal (sizes_of c.args.table.now c.args.waiting.now c.args.plan.now) c.args.plan.now c.least_costs.new.plan c.from_residual.result (search rules) (search rules) (search rules)

pub returns-clause-law : goal.returns-clause-law
returns-clause-law g c =
    let self = c.args.self.now in
    let report : Result Report WatchFault = Ok (record { verdict = c.of.result; without = c.in_ok-costs.costs.0; with = c.in_ok-costs.costs.1; length = c.in_ok-costs.length }) in
    report_law _ (g.met.D.Domain.limits self.domain) self.log _ self.rows _ self.long c.args.goal (sizes_of c.args.table.now c.args.waiting.now c.args.plan.now) c.args.plan.now c.least_costs.new.plan report (search rules) (search rules) (search rules)
