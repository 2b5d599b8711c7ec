use Rattle.std.proofs.Common.{arith}
use Rattle.compile.proofs.Values.{part_more}
use Rattle.compile.proofs.compile.push_each.Goals as goal

pub loop-number-preserved : goal.loop-number-preserved
loop-number-preserved g c =
    let at = c.loop-number in
    let pushed = c.push_reserved.ensures in (
      omega (arith, at.invariant.0, pushed.len),
      omega (arith, pushed.capacity, at.invariant.1),
      λ of gives. part_more of c.args.place.now.items at.place.items c.push_reserved.new.self.items at.number c.part.result (at.invariant.2 of gives) (gives at.number c.part.result (omega arith) c.part.ensures) pushed.items,
    )
