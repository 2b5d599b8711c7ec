use Rattle.std.proofs.Common.{◌<◌, length, ◌∙◌, arith}
use Rattle.std.proofs.lemmas.Bool.{lt-ltb, cond-true}
use Rattle.std.proofs.lemmas.Option.{MatchOption-at_some}
use Rattle.table.specs.declared.row.Node.{Node}
use Rattle.search.proofs.Exploring.{exploring_begins}
use Rattle.search.proofs.explore.begin.Goals as goal

pub returns : goal.returns
returns g c =
    let rows = c.clear.new.rows in
    let list = c.args.list.now in
    let none = c.default.result in
    let start : Node = record { state = c.start.result; cost = none.cost; steps = none.steps; last = none.last; settled = none.settled } in
    let some_rows : 0 < length rows = omega arith in
    let some_places : 0 < length list = omega arith in
    let told = c.push.ensures in
    let added = c.add.ensures.value ∙ cond-true _ _ _ (lt-ltb 0 (length rows) some_rows) in
    let pushed = told.value ∙ cond-true _ _ _ (lt-ltb 0 (length list) some_places) in
    exploring_begins (g.D.Domain.meaning c.args.domain.now) rows c.add.new.rows c.push.new.rows list c.push.new.list 1
    start c.new.result c.new.ensures (record { state = c.start.ensures; cost = c.default.ensures.1.1.1.0; steps = c.default.ensures.1.0; last = c.default.ensures.1.1.0 }) c.default.ensures.1.1.1.1 (omega arith) (omega arith)
    c.clear.ensures.indexed (MatchOption-at_some _ _ 1 added c.add.ensures.rows) told.kept (MatchOption-at_some _ _ 1 pushed told.pushed) (MatchOption-at_some _ _ 1 pushed told.tracked)
