use Rattle.plans.proofs.Pigeonhole.{never_both}
use Rattle.plans.proofs.Stacking.{stack_laws}
use Rattle.plans.proofs.Watching.{plan_laws, whole_laws}
use Rattle.watched.proofs.watched.Watched.new.Goals as goal

pub returns-clause-plans : goal.returns-clause-plans
returns-clause-plans g c = plan_laws

pub returns-clause-whole : goal.returns-clause-whole
returns-clause-whole g c = whole_laws

pub returns-clause-stacks : goal.returns-clause-stacks
returns-clause-stacks g c = stack_laws

pub returns-clause-counts : goal.returns-clause-counts
returns-clause-counts g c = never_both
