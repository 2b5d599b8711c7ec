use Rattle.std.proofs.Common.{sym, subst, rules}
use Rattle.std.proofs.lemmas.Bool.{MatchBool-at_true}
use Rattle.table.specs.Rows.{at}
use Rattle.heap.specs.Lowering.{Lowers}
use Rattle.search.specs.Entries.{order}
use Rattle.search.proofs.Reaching.{is_lower, improved}
use Rattle.search.proofs.reach.improve.Goals as goal

pub returns : goal.returns
returns c = λ dearer m level so.
    let told = c.lower.ensures in
    let place = (at c.args.rows.now c.args.row).place in
    let lowers = subst (λ x. Lowers order c.args.progress.waiting place x c.args.list.now) (sym c.new.ensures) (is_lower so c.args.row dearer) in
    let yes = (told.value order).1 lowers in
    improved so _ c.lower.new.rows c.lower.new.list told.kept c.args.row c.new.result dearer c.new.ensures (search rules) (MatchBool-at_true _ _ yes told.lowered) (MatchBool-at_true _ _ yes told.tracked)
