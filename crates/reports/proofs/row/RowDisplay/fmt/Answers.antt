use Rattle.std.proofs.Common.{rules, arith}
use Rattle.reports.proofs.Rows.{shows_more, shows_row}
use Rattle.reports.proofs.row.RowDisplay.fmt.Goals as goal

pub loop-item-preserved : goal.loop-item-preserved
loop-item-preserved g c plain =
    shows_more g.T.Display.output g.W.Write.write_str_gives _ c.loop-item.f _ c.write-in-loop-item.result c.in-Some.rest.now c.loop-item.item-index c.item-item.result (omega arith) c.item-item.is (c.loop-item.invariant plain) c.write-in-loop-item.ensures.writes (search rules)

pub returns-clause-writes : goal.returns-clause-writes
returns-clause-writes g c =
    shows_row g.T.Display.output g.W.Write.write_str_gives c.args.f.now _ c.loop-item.f c.write.result c.args.self.now.1.now c.args.self.now.0.now c.in-Some.first.now c.in-Some.rest.now c.loop-item.item-index (search rules) (omega arith) c.write.ensures.writes (search rules) c.loop-item.invariant
