use Rattle.std.proofs.Common.{rules, Ok}
use Rattle.watch.proofs.Laws.{retract_law}
use Rattle.watch.proofs.watch.Watch.retract.Goals as goal

pub returns-in_err-drop_entry-clause-law : goal.returns-in_err-drop_entry-clause-law
returns-in_err-drop_entry-clause-law g c =
    retract_law _ _ _ _ _ c.args.self.now.long c.from_residual.result (search rules) (search rules) (search rules)

pub returns-clause-law : goal.returns-clause-law
returns-clause-law g c =
    retract_law _ _ _ _ _ c.args.self.now.long (Ok tt) (search rules) (search rules) (search rules)
