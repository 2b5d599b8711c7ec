use Rattle.std.proofs.Common.{◌≡◌, ◌*◌, ◌^◌, length, ap, ◌∙◌, pow-suc, rules, arith}
use Rattle.std.specs.Int.{from_bool}
use Rattle.std.specs.Iterator.Adapters.{zip_first, zip_second}
use Rattle.std.specs.Slice.Iter.{iter_rest}
use Rattle.files.specs.Contents.{four_of, bit_map, mark_bit}
use Rattle.files.specs.Formats.{fields_of}
use Rattle.files.proofs.Records.{map_small}
use Rattle.files.proofs.WriteSteps.{map_more, map_of_four, fields_bits, fields_few}
use Rattle.files.proofs.layout.Layout.bit_map.Goals as goal

pub loop-field-init : goal.loop-field-init
loop-field-init g c =
    let l = c.args.self in
    let e = g.R.Record.written c.args.item.now in
    let s = c.into_iter-field-iterator.result in
    let top = mark_bit l.part e in
    let fields : iter_rest (zip_first s) ≡ fields_of l.kind l.part = search rules in
    let values : iter_rest (zip_second s) ≡ four_of e.values = search rules in
    record {
      few = omega (arith, ap length fields, ap length values, fields_few l.kind l.part);
      bits = omega (arith, ap (λ fs. 2 ^ length fs) fields, fields_bits l.kind l.part);
      map = omega (arith, ap (λ fs. bit_map fs (iter_rest (zip_second s)) top) fields ∙ ap (λ vs. bit_map (fields_of l.kind l.part) vs top) values ∙ map_of_four l.kind l.part e.values top);
    }

pub overflow_add-map : goal.overflow_add-map
overflow_add-map g c =
    let p = c.loop-field in
    let is = c.in-Some.ensures.steps in
    let more = map_more _ _ _ _ _ _ is.0 is.1 _ p.map p.bit _ _ (c.from.ensures ∙ ap from_bool c.is_written.ensures) p.invariant.map in
    omega (arith, more, map_small c.args.self.kind c.args.self.part (g.R.Record.written c.args.item.now))

pub loop-field-preserved : goal.loop-field-preserved
loop-field-preserved g c =
    let p = c.loop-field in
    let is = c.in-Some.ensures.steps in
    let half = ap (λ n. p.bit * 2 ^ n) (ap length is.0) ∙ ap (λ n. p.bit * n) (pow-suc 2 (length (iter_rest (zip_first c.next.new.self)))) in
    record {
      few = omega (arith, p.invariant.few, ap length is.0, ap length is.1);
      bits = omega (arith, p.invariant.bits, half);
      map = map_more _ _ _ _ _ _ is.0 is.1 _ p.map p.bit _ _ (c.from.ensures ∙ ap from_bool c.is_written.ensures) p.invariant.map;
    }
