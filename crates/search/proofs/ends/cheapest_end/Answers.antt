use Rattle.std.proofs.Common.{◌≡◌, ℕ, ◌<◌, length, rules, arith, sym, ap, ◌∙◌, get_or, Some, None, MatchOption}
use Rattle.std.specs.Option.{option_map}
use Rattle.std.specs.Slice.Iter.{iter_rest}
use Rattle.std.proofs.lemmas.Map.Keys.{ge_from_not_lt}
use Rattle.table.specs.Rows.{blank_row}
use Rattle.search.proofs.Cheapest.{item_test, cost_of_item, Stands, stands, read_all, read_any, cheapest}
use Rattle.search.proofs.ends.cheapest_end.Goals as goal

pub returns-clause-cheapest : goal.returns-clause-cheapest
returns-clause-cheapest g c such decides =
    let rows = c.args.rows.now in
    let picked = c.min_by_key.ensures.runs in
    let p = picked.0 in
    let filtered = c.filter.ensures.runs p p.seen picked.1 in
    let q = filtered.0 in
    let counted = c.enumerate.ensures.runs q q.seen filtered.1 in
    let b = counted.1.0 in
    let listed = c.iter.ensures.runs b b.seen in
    let kept = filtered.2.4 (item_test such) (λ x r f' k. search rules) in
    let mapped : MatchOption c.min_by_key.result (c.map.result ≡ None) (λ x. c.map.result ≡ Some x.0) = search rules in
    let from = ap iter_rest counted.1.1 ∙ c.iter.ensures.rest in
    let whole = counted.1.2.1 ∙ filtered.2.0 ∙ picked.2 in
    let long = listed.1 whole ∙ ap length from in
    let size = sym q.long ∙ sym counted.1.2.0.0 ∙ long in
    let each : (i : ℕ) → i < length rows → Stands rows q.items i = λ i h.
    let read = ap (option_map (λ y. y.now)) (sym (counted.1.2.0.2 i)) ∙ listed.2 i blank_row (omega (arith, long)) ∙ ap (λ xs. Some (get_or xs i blank_row)) from in
    stands rows q.items i (q.at i) (counted.0 i) read (λ d. q.reads i d (omega (arith, long, counted.1.2.0.0))) in
    cheapest rows such q.items p.items kept size each c.min_by_key.result c.map.result _ _ (λ e. sym p.long ∙ e)
    (λ x h.
    let keys = h.1 (λ a r f' k. search rules) in
    let own : keys.0 ≡ cost_of_item x = search rules in
    record {
      place = h.0.0;
      low = omega (arith, h.0.1, p.long);
      here = read_any (p.at h.0.0) _ x (p.reads h.0.0 x h.0.1) h.0.2;
      least = λ k d low.
          let key = read_all (p.at k) _ _ (p.reads k d (omega (arith, p.long))) (keys.2 k) in
          let its : key.0 ≡ cost_of_item (get_or p.items k d) = search rules in
          omega (arith, own, its, ge_from_not_lt key.0 keys.0 key.2);
    })
    picked.3 mapped
