use Rattle.std.proofs.Common.{◌+◌, ◌-◌, vec_items, sym, ap, ◌∙◌, arith}
use Rattle.std.proofs.lemmas.Result.{err_from_is_err_and}
use Rattle.files.specs.Cursors.{placed}
use Rattle.files.specs.Reading.{read_records, parts_with}
use Rattle.files.proofs.ReadSteps.{prefixed, parts_ok, parts_err}
use Rattle.files.proofs.read_file.read_parts.Goals as goal

pub returns-in_err-item-clause-value : goal.returns-in_err-item-clause-value
returns-in_err-item-clause-value g c =
    let l = c.args.layout in
    let s = c.args.from in
    let at = c.loop.at in
    let p = err_from_is_err_and c.from_residual.result c.from_residual.ensures.1 in
    let refusal = parts_err g.R.Record.made l.kind l.part s.size s.bytes.now c.args.count c.loop.counter at.«record» at.byte (vec_items c.loop.room) c.in_err-item.field-0.0 c.loop-test.true (sym c.record.ensures ∙ c.in_err-item.was) in
    rw (p.1, p.2) (ap (placed (s.at.«record» + c.args.count)) (c.loop.invariant.value ∙ refusal))

pub loop-preserved : goal.loop-preserved
loop-preserved g c =
    let l = c.args.layout in
    let s = c.args.from in
    let at = c.loop.at in
    let make = g.R.Record.made in
    let item = c.in_ok-item in
    let turn = parts_ok make l.kind l.part s.size s.bytes.now c.args.count c.loop.counter at.«record» at.byte (vec_items c.loop.room) item.item item.byte c.loop-test.true (sym c.record.ensures ∙ item.was) in
    record {
      len = omega (arith, c.loop.invariant.len, c.push_reserved.ensures.len);
      width = c.push_reserved.ensures.capacity ∙ c.loop.invariant.width;
      number = omega (arith, c.loop.invariant.number);
      value =
          c.loop.invariant.value
          ∙ turn
          ∙ ap (λ xs. prefixed xs (parts_with make (read_records l.kind l.part s.size s.bytes.now (c.args.count - (c.loop.counter + 1)) (at.«record» + 1) item.byte))) (sym c.push_reserved.ensures.items);
    }
