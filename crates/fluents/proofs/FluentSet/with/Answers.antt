use Rattle.fluents.proofs.Sets.{holds_or}
use Rattle.fluents.proofs.FluentSet.with.Goals as goal

pub returns : goal.returns
returns c i = holds_or i c.args.self.0 c.args.other.0
