use Rattle.fluents.proofs.Sets.{decides_within}
use Rattle.fluents.proofs.FluentSet.within.Goals as goal

pub returns : goal.returns
returns c = decides_within c.args.self.0 c.args.other.0
