use Rattle.std.proofs.Common.{sym, ◌∙◌}
use Rattle.std.proofs.lemmas.Option.{MatchOption-at_some, cond_some}
use Rattle.search.proofs.Reaching.{discovered}
use Rattle.search.proofs.reach.discover.Goals as goal

pub returns : goal.returns
returns c = λ absent m level so.
    let known = c.in_ok-known.known in
    let waiting = c.in_ok-waiting.waiting in
    let added = c.in_ok-known.ensures.ok_part in
    let pushed = c.in_ok-waiting.ensures.ok_part in
    discovered so c.add.new.rows c.push.new.rows c.push.new.list c.push.ensures.kept known waiting c.new-entry.result
    (sym (cond_some _ _ _ (sym c.add.ensures.value ∙ added)).1) c.new-entry.ensures absent
    (MatchOption-at_some _ _ known added c.add.ensures.rows) (MatchOption-at_some _ _ waiting pushed c.push.ensures.pushed) (MatchOption-at_some _ _ waiting pushed c.push.ensures.tracked)
