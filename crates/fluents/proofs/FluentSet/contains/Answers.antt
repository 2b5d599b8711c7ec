use Rattle.std.proofs.Common.{rules}
use Rattle.fluents.proofs.Sets.{holds_past}
use Rattle.fluents.proofs.FluentSet.contains.Goals as goal

pub returns : goal.returns
returns c = search (rules, holds_past 64 c.args.fluent c.args.self.0)
