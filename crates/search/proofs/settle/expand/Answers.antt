use Rattle.std.proofs.Common.{rules}
use Rattle.search.proofs.settle.expand.Goals as goal

pub returns-in_err-offer : goal.returns-in_err-offer
returns-in_err-offer g c = let told = c.in_err-offer.ensures _ c.loop-action.invariant.0 c.loop-action.invariant.1 in search rules
