use Rattle.std.proofs.Common.{arith}
use Rattle.fluents.proofs.Sets.{holds_and_not}
use Rattle.fluents.proofs.FluentSet.without.Goals as goal

pub returns : goal.returns
returns c i = holds_and_not 64 i c.args.self.0 c.args.other.0 (omega arith) (omega arith)
