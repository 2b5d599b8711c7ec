use Rattle.std.proofs.Common.{◌≡◌, ◌+◌, false, Some, sym, refl, ap, ◌∙◌}
use Rattle.std.proofs.lemmas.Result.{MatchResult-weaker}
use Rattle.table.specs.declared.row.Node.{Node}
use Rattle.table.specs.declared.row.Step.{Step}
use Rattle.table.specs.Rows.{node}
use Rattle.search.proofs.Settling.{offers, expand_steps, expand_full}
use Rattle.search.proofs.settle.offer.Goals as goal

pub returns : goal.returns
returns g c = λ before own so.
    let d = c.args.domain.now in
    let m = g.D.Domain.meaning d in
    let limits = g.met.D.Domain.limits d in
    let here = c.args.here.now in
    let i = c.args.row in
    let a = c.args.action in
    let is = own.here in
    let step : Step = record { from = i; action = a } in
    let v : Node = record { state = c.next-state.result; cost = here.cost + c.from.result; steps = here.steps + 1; last = Some step; settled = false } in
    let state : v.state ≡ m.next (node before.rows i).state a = c.next-state.ensures ∙ ap (λ (x : Node). m.next x.state a) is in
    let cost : v.cost ≡ (node before.rows i).cost + m.cost a = ap (λ n. here.cost + n) (c.from.ensures ∙ c.cost.ensures) ∙ ap (λ (x : Node). x.cost + m.cost a) is in
    let steps : v.steps ≡ (node before.rows i).steps + 1 = ap (λ (x : Node). x.steps + 1) is in
    let away : v.state ≡ (node before.rows i).state → ⊥ = λ e. c.if-state-here.false (e ∙ sym (ap (λ (x : Node). x.state) is)) in
    MatchResult-weaker c.reach.result (c.reach.ensures m (node before.rows i).cost (offers limits own so v step refl state cost steps refl refl refl away))
    (λ done. expand_steps limits own so v step refl state cost steps refl refl refl away)
    (λ fault h. (h.0, expand_full limits own so v step refl state cost steps refl refl refl away h.1))
