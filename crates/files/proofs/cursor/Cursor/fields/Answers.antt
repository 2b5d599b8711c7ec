use Rattle.std.proofs.Common.{◌≡◌, ℕ, ◌+◌, ◌/◌, ◌%◌, Ok, length, set, take, drop, sym, ap, ◌∙◌, arith}
use Rattle.std.proofs.lemmas.Bool.{eq-eqb, ne_eqb}
use Rattle.std.proofs.lemmas.List.{take_more_set, drop-set-lt, drop-drop, length-set, set-get_or}
use Rattle.std.specs.Slice.Iter.{iter_rest}
use Rattle.files.specs.Cursors.{in_four}
use Rattle.files.specs.Reading.{is_odd, read_field, read_fields}
use Rattle.files.proofs.ReadSteps.{prefixed, zeros, fields_ok, fields_end, size_first, field_next}
use Rattle.files.proofs.cursor.Cursor.fields.Goals as goal
use Rattle.files.proofs.cursor.Cursor.fields.Goals.{then-rest-eq1+in_ok-value, else-rest-eq1}

pub loop-value-preserved : goal.loop-value-preserved
loop-value-preserved c =
    let s = c.args.self in
    let bs = s.bytes.now in
    let r = s.at.«record» in
    let f = c.in-Some.field.now in
    let p = c.loop-value in
    let i = p.value-index in
    let vs = p.value-items in
    let fs = iter_rest p.fields in
    let gs = iter_rest c.next.new.self in
    let next = c.if-rest-eq1.byte in
    let is = c.in-Some.ensures.steps in
    let turn : (v : ℕ) × (c.if-rest-eq1.value-items ≡ set vs i v) × (read_field bs s.size r p.byte f (is_odd p.rest) ≡ Ok (v, next)) =
    elim c.if-rest-eq1.branch [
      | then-rest-eq1+in_ok-value w ↦
          let v = w.in_ok-value.field-0-0 in
          (v, w.value-items-is, ap (read_field bs s.size r p.byte f) (eq-eqb (p.rest % 2) 1 w.if-rest-eq1.true) ∙ sym w.field.ensures ∙ w.in_ok-value.was ∙ ap (λ n. Ok (v, n)) (sym w.byte-is))
      | else-rest-eq1 w ↦
          let v = w.absent.result in
          (v, w.value-items-is, ap (read_field bs s.size r p.byte f) (ne_eqb (p.rest % 2) 1 w.if-rest-eq1.false) ∙ ap (λ v. Ok (v, p.byte)) (sym w.absent.ensures) ∙ ap (λ n. Ok (v, n)) (sym w.byte-is))
    ] in
    let v = turn.0 in
    let read = turn.2 in
    record {
      few = omega (arith, p.invariant.few, ap length is);
      long = ap length turn.1 ∙ length-set vs i v ∙ p.invariant.long;
      inside = omega (arith, p.invariant.inside, size_first bs s.size r p.byte p.rest vs fs gs f is, field_next bs s.size r p.byte f (is_odd p.rest) (v, next) read);
      empty = ap (drop (i + 1)) turn.1 ∙ drop-set-lt (i + 1) vs i v (omega arith) ∙ sym (drop-drop 1 i vs) ∙ ap (drop 1) p.invariant.empty ∙ drop-drop 1 i zeros;
      read =
          p.invariant.read
          ∙ fields_ok bs s.size r p.byte p.rest (take i vs) fs gs f is v next read
          ∙ ap (λ vs. prefixed vs (read_fields bs s.size r next (p.rest / 2) gs)) (sym (ap (take (i + 1)) turn.1 ∙ take_more_set vs i v (omega (arith, p.invariant.long, c.loop-value-test.true))));
    }

pub returns-in_default : goal.returns-in_default
returns-in_default c =
    let s = c.args.self in
    let p = c.loop-value in
    let none = c.in_default.ensures.steps in
    let end = fields_end s.bytes.now s.size s.at.«record» p.byte p.rest (iter_rest p.fields) p.value-items p.value-index none.0 p.invariant.long (omega (arith, c.loop-value-test.true)) p.invariant.empty in
    ap (λ vs. Ok (vs, p.rest, p.byte)) (set-get_or p.value-items p.value-index 0) ∙ sym (ap in_four p.invariant.read ∙ end)
