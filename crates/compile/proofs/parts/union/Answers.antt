use Rattle.std.proofs.Common.{sym, ap, ◌∙◌}
use Rattle.fluents.specs.SetRecords.{set_of}
use Rattle.fluents.proofs.Sets.{holds_or, same_set}
use Rattle.compile.proofs.parts.union.Goals as goal

pub returns : goal.returns
returns c = ap set_of (same_set c.with.result.0 _ (λ i. c.with.ensures i ∙ sym (holds_or i c.args.a.0 c.args.b.0)))
