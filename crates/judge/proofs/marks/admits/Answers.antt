use Rattle.std.proofs.Common.{rules, tests}
use Rattle.std.proofs.lemmas.Iterator.{YieldsList-from_slice}
use Rattle.std.proofs.lemmas.Iterator.Search.{all_from_yields_List}
use Rattle.logs.specs.Entries.{entries}
use Rattle.plans.specs.Counting.{may_run}
use Rattle.judge.proofs.Logging.{all_logged}
use Rattle.judge.proofs.marks.admits.Goals as goal

pub returns : goal.returns
returns g c =
    let d = g.D.Domain.meaning c.args.domain.now in
    let log = entries c.args.log.now in
    all_logged d log c.args.list.now c.all.result
    (all_from_yields_List (λ a. may_run log a (d.marked a)) _ _ c.all.result c.all.ensures.ran (YieldsList-from_slice c.args.list.now cc) (λ x b q k. search (rules, tests)))
