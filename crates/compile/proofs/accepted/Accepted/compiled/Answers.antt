use Rattle.std.proofs.Common.{rules}
use Rattle.compile.proofs.CardLimits.{compiled_limits}
use Rattle.compile.proofs.Values.{card_is}
use Rattle.compile.proofs.accepted.Accepted.compiled.Goals as goal

pub unwrap-requires : goal.unwrap-requires
unwrap-requires c =
    let it = c.args.self.now in
    let parts = c.parts-actions.ensures in
    (card_is it.card it.log c.from-start.result c.new.result (search rules) (search rules) parts.actions parts.goals (compiled_limits it.card it.log it.limits it.fits) c.new.ensures).0

pub returns : goal.returns
returns c =
    let it = c.args.self.now in
    let parts = c.parts-actions.ensures in
    (card_is it.card it.log c.from-start.result c.new.result (search rules) (search rules) parts.actions parts.goals (compiled_limits it.card it.log it.limits it.fits) c.new.ensures).1 c.unwrap.result c.unwrap.ensures
