use Rattle.std.proofs.Common.{◌-◌, ◌<◌, ℕ, is_some, refl, ap, subst, arith, rules}
use Rattle.domain.specs.Meaning.{Meaning}
use Rattle.table.specs.Rows.{node}
use Rattle.search.specs.Solved.{Writable}
use Rattle.search.proofs.Writing.{WrittenFrom, some_left, writing_on, writing_ends}
use Rattle.search.proofs.plan.write_plan.Goals as goal

pub loop-at-preserved : goal.loop-at-preserved
loop-at-preserved c =
    let rows = c.args.rows.now in
    let row = c.args.row in
    let l = c.loop-at in
    let steps = (node rows row).steps in
    let left = l.left - 1 in
    let some : 0 < l.left = l.invariant.3 (ap is_some c.in-Some.is) in
    let on : (m : Meaning) (n : ℕ) → Writable m n rows row c.args.plan.now → WrittenFrom m (node rows) n row c.args.plan.now _ steps c.in-Some.step.from left = λ m n w.
    let so = subst (λ k. WrittenFrom m (node rows) n row c.args.plan.now l.plan steps l.at k) (omega (arith, some)) (l.invariant.4 m n w) in
    writing_on m (node rows) n row w.solved c.args.plan.now l.plan steps l.at c.in-Some.step c.in-Some.is left so (omega (arith, some, l.invariant.2)) in
    let w = c.requires.1.1 in
    let so = on c.requires.0 c.requires.1.0 w in
    (l.invariant.0, omega (arith, so.row, w.few), omega arith, some_left c.requires.0 (node rows) c.requires.1.0 row w.solved _ _ _ _ _ so, on)

pub returns : goal.returns
returns c = λ m n w.
    let rows = c.args.rows.now in
    writing_ends m (node rows) n c.args.row w.solved c.args.plan.now c.loop-at.plan (node rows c.args.row).steps c.loop-at.at c.loop-at.left (search rules) refl (c.loop-at.invariant.4 m n w)
