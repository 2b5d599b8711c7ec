use Rattle.std.proofs.Common.{◌≤◌, length, sym, ap, ◌∙◌, subst, arith}
use Rattle.std.proofs.lemmas.List.{take_all}
use Rattle.logs.specs.Entries.{entries}
use Rattle.plans.specs.Counting.{advance_all}
use Rattle.judge.specs.Carried.{NoneLonger}
use Rattle.judge.proofs.Places.{followed_passed, followed_taken, none_longer}
use Rattle.judge.proofs.carrying.carried.Goals as goal
use Rattle.judge.proofs.carrying.carried.Goals.{then-grown-count, else-grown-count}

pub loop-place-preserved : goal.loop-place-preserved
loop-place-preserved c =
    let log = entries c.args.log.now in
    let list = c.args.list.now in
    let before = c.args.places.now in
    let loop = c.loop-place in
    let grown = c.advance-grown.result in
    let room : length log ≤ length loop.places = omega arith in
    elim c.if-grown-count.branch [
      | then-grown-count w ↦ rw (w.places-is, w.count-is) (followed_taken log list before loop.places loop.place loop.count grown loop.invariant c.loop-place-test.true c.advance-grown.ensures room w.if-grown-count.true)
      | else-grown-count w ↦ rw (w.places-is, w.count-is) (followed_passed log list before loop.places loop.place loop.count grown loop.invariant c.loop-place-test.true c.advance-grown.ensures w.if-grown-count.false)
    ]

pub returns-clause-most : goal.returns-clause-most
returns-clause-most c =
    let log = entries c.args.log.now in
    let list = c.args.list.now in
    subst (NoneLonger log list) (sym (c.loop-place.invariant.counted ∙ ap (advance_all log 0) (take_all c.loop-place.place list c.loop-place-test.false))) (none_longer log list)
