use Rattle.std.proofs.Props.{props}
use Rattle.formats.proofs.FileLaws.{limits_out}
use Rattle.cards.proofs.card.Card.read.Goals as goal

pub invariant_of-result : goal.invariant_of-result
invariant_of-result c = record { in_limits = limits_out (Prim.hlevel props) c.in_ok-parts.parts.in_limits }
