use Rattle.std.proofs.Common.{rules, Ok}
use Rattle.watch.proofs.Laws.{note_law}
use Rattle.watch.proofs.watch.Watch.note.Goals as goal

pub returns-in_err-add_entry-clause-law : goal.returns-in_err-add_entry-clause-law
returns-in_err-add_entry-clause-law g c =
    note_law _ _ _ _ _ c.args.self.now.long c.from_residual.result c.args.action (search rules) (search rules) (search rules)

pub returns-clause-law : goal.returns-clause-law
returns-clause-law g c =
    note_law _ _ _ _ _ c.args.self.now.long (Ok tt) c.args.action (search rules) (search rules) (search rules)
