use Rattle.std.proofs.Common.{sym}
use Rattle.search.proofs.reach.reach.Goals as goal

pub returns-then-way-rows : goal.returns-then-way-rows
returns-then-way-rows c = let found = c.in-Some.ensures.row in c.improve.ensures (record { row = found.0; same = sym found.1; cheaper = c.if-way-rows.true })
