use Rattle.watch.proofs.Stepping.{begun}
use Rattle.watch.proofs.watch.Watch.new.Goals as goal

pub returns-clause-law : goal.returns-clause-law
returns-clause-law g c = rw c.new.ensures.log (begun _ _ c.new-2.ensures)
