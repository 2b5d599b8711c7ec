use Rattle.std.proofs.Common.{◌≡◌, ap, arith}
use Rattle.logs.specs.Entries.{entries}
use Rattle.logs.proofs.Fronts.{few_entries}
use Rattle.plans.proofs.Watching.{next_sum}
use Rattle.watched.proofs.watched_domain.WatchedDomain.next.Goals as goal

pub overflow_add-result : goal.overflow_add-result
overflow_add-result g c =
    let self = c.args.self.now in
    let same : c.self.inside.domain ≡ self.domain = ap (λ h. h.domain) c.self.view_is in
    let sum = next_sum (g.D.Domain.meaning self.domain) (entries self.log) (g.met.D.Domain.limits self.domain) (few_entries self.log) c.args.state c.args.action c.next.result c.advance-carried.result c.width.result (cc) (cc) (cc) (cc) in
    omega (arith, sum.1)

pub returns : goal.returns
returns g c =
    let self = c.args.self.now in
    let same : c.self.inside.domain ≡ self.domain = ap (λ h. h.domain) c.self.view_is in
    (next_sum (g.D.Domain.meaning self.domain) (entries self.log) (g.met.D.Domain.limits self.domain) (few_entries self.log) c.args.state c.args.action c.next.result c.advance-carried.result c.width.result (cc) (cc) (cc) (cc)).0
