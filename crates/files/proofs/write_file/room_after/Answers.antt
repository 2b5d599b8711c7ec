use Rattle.std.proofs.Common.{arith}
use Rattle.files.proofs.WriteSteps.{items_long}
use Rattle.files.proofs.write_file.room_after.Goals as goal

pub returns-in_err-left : goal.returns-in_err-left
returns-in_err-left g c =
    let here = items_long c.args.layout g.R.Record.written c.args.items.now c.loop-item.item-index c.item-item.result c.loop-item-test.true c.item-item.is in
    rw c.from_residual.ensures (λ fits. omega (arith, here, c.in_err-left.ensures, c.record_length.ensures))

pub loop-item-preserved : goal.loop-item-preserved
loop-item-preserved g c =
    let here = items_long c.args.layout g.R.Record.written c.args.items.now c.loop-item.item-index c.item-item.result c.loop-item-test.true c.item-item.is in
    omega (arith, here, c.in_ok-left.ensures, c.record_length.ensures)
