use Rattle.std.proofs.Common.{◌≡◌, [], ◌∷◌, length, set, ap, ◌∙◌, ⊎_elim, inl, inr, rules, arith}
use Rattle.std.proofs.lemmas.List.{length-set}
use Rattle.std.specs.Iterator.Adapters.{zip_first, zip_second}
use Rattle.std.specs.Slice.Iter.{iter_rest}
use Rattle.files.specs.Contents.{four_of, bit_map, mark_bit, all_field_bytes, record_bytes}
use Rattle.files.specs.Formats.{fields_of}
use Rattle.files.proofs.WriteSteps.{begun_first, begun_fits, begun_more, fields_next, wrote_byte, fields_few, fields_all, bytes_of_four}
use Rattle.files.proofs.layout.Layout.write_record.Goals as goal

pub loop-field-init : goal.loop-field-init
loop-field-init g c =
    let l = c.args.self in
    let e = g.R.Record.written c.args.item.now in
    let b = c.bit_map.result in
    let p = c.args.place.now in
    let s = c.into_iter-field-iterator.result in
    let fields : iter_rest (zip_first s) ≡ fields_of l.kind l.part = search rules in
    let values : iter_rest (zip_second s) ≡ four_of e.values = search rules in
    let rest = ap (λ fs. all_field_bytes fs (iter_rest (zip_second s))) fields ∙ ap (all_field_bytes (fields_of l.kind l.part)) values ∙ bytes_of_four l.kind l.part e.values in
    let bytes = record_bytes l.kind l.part e in
    record {
      few = omega (arith, ap length fields, ap length values, fields_few l.kind l.part);
      begun = begun_first bytes (b ∷ []) (all_field_bytes (iter_rest (zip_first s)) (iter_rest (zip_second s))) p (set p 0 b) 1 (ap (λ n. n ∷ all_field_bytes (iter_rest (zip_first s)) (iter_rest (zip_second s))) c.bit_map.ensures ∙ ap (λ t. bit_map (fields_of l.kind l.part) e.values (mark_bit l.part e) ∷ t) rest) (wrote_byte b p (omega (arith, c.requires)));
    }

pub write-count-requires : goal.write-count-requires
write-count-requires g c =
    let s = c.loop-field.field-iterator in
    let t = c.next.new.self in
    let is = c.in-Some.ensures.steps in
    let b = fields_next (iter_rest (zip_first s)) (iter_rest (zip_first t)) (iter_rest (zip_second s)) (iter_rest (zip_second t)) c.in-Some.field.now c.in-Some.value.now is.0 is.1 _ _ _ _ c.loop-field.invariant.begun in
    begun_fits _ _ _ _ _ _ b c.requires (c.loop-field.auto.place ∙ length-set c.args.place.now 0 c.bit_map.result)

pub loop-field-preserved : goal.loop-field-preserved
loop-field-preserved g c =
    let s = c.loop-field.field-iterator in
    let t = c.next.new.self in
    let is = c.in-Some.ensures.steps in
    let b = fields_next (iter_rest (zip_first s)) (iter_rest (zip_first t)) (iter_rest (zip_second s)) (iter_rest (zip_second t)) c.in-Some.field.now c.in-Some.value.now is.0 is.1 _ _ _ _ c.loop-field.invariant.begun in
    record {
      few = omega (arith, c.loop-field.invariant.few, ap length is.0, ap length is.1);
      begun = begun_more _ _ (all_field_bytes (iter_rest (zip_first t)) (iter_rest (zip_second t))) _ _ _ b _ _ c.write-count.ensures;
    }

pub returns : goal.returns
returns g c =
    let s = c.loop-field.field-iterator in
    let none = ⊎_elim (λ e. inl e.1.0) (λ e. inr e.1.0) c.in-None.ensures.steps in
    fields_all (iter_rest (zip_first s)) (iter_rest (zip_second s)) _ _ _ _ c.loop-field.invariant.few none c.loop-field.invariant.begun
