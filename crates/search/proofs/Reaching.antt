-- A way that is offered to the table: the first to its state, or a cheaper one.
use Rattle.std.proofs.Common.{◌≡◌, ℕ, ◌+◌, ◌<◌, List, length, get_or, take, None, sym, refl, ap, ◌∙◌, subst, arith}
use Rattle.std.proofs.lemmas.List.{get_or-take, length-take-le}
use Rattle.domain.specs.Meaning.{Meaning}
use Rattle.heap.specs.Lowering.{Lowers, Lowered, TracksLowered}
use Rattle.heap.specs.Pushing.{Pushed, TracksPushed}
use Rattle.table.specs.declared.row.Node.{Node}
use Rattle.table.specs.declared.row.Row.{Row}
use Rattle.table.specs.Index.{Indexed, Found, Put, Added}
use Rattle.table.specs.Rows.{at, node}
use Rattle.table.proofs.Chains.{indexed_over, put_indexed}
use Rattle.search.specs.declared.entry.Entry.{Entry}
use Rattle.search.specs.Entries.{entry_of, ordered, order, noted, apart, Kept}
use Rattle.search.specs.Searching.{Stage, stage_of, Sound, Waiting, Grew, Offerable, Reached, Dearer}
use Rattle.search.specs.Ways.{KnownAt}
use Rattle.search.proofs.Nodes.{one_more, grew_more, sound_more, waits_still, grew_cheaper, sound_cheaper}
use Rattle.search.proofs.WaitingLists.{nodes_kept, waiting_pushed, place_within, place_cost, waiting_lowered, cheaper_low}

pub kept_indexed : (rows rows' : List Row) (n : ℕ) → Kept rows rows' → Indexed rows n → Indexed rows' n
kept_indexed rows rows' n kept = indexed_over rows rows' n kept.long (λ k. ap (λ v. v.state) (kept.nodes k)) kept.links

-- the entry of a row that waits stands at the place that the row notes, and a cheaper one is not greater
pub is_lower : {m : Meaning} {s : Stage} {level : ℕ} {v : Node} → Offerable m s level v → (i : ℕ) → Dearer s i v → Lowers order s.progress.waiting (at s.rows i).place (entry_of v i) s.list
is_lower {m} {s} {level} {v} so i dearer =
    let now = so.searching in
    let n = s.progress.known in
    let w = s.progress.waiting in
    let waits = waits_still so.offered now.sound i dearer.row dearer.cheaper in
    let size : length (take w s.list) ≡ w = length-take-le w s.list (omega (arith, now.sound.few, now.indexed.fits, now.long)) in
    let place = (at s.rows i).place in
    let within : place < w = omega (arith, size, place_within s.rows n (take w s.list) now.indexed.fits now.waiting i dearer.row waits) in
    record {
      whole = omega (arith, now.sound.few, now.indexed.fits, now.long);
      within = within;
      low = λ d. cheaper_low (entry_of v i) (get_or s.list place d) (omega (arith, dearer.cheaper, ap (λ (e : Entry). e.cost) (get_or-take w s.list place d within), place_cost s.rows n (take w s.list) now.indexed.fits now.waiting i dearer.row waits d));
    }

module _ {m : Meaning} {s : Stage} {level : ℕ} {v : Node} (so : Offerable m s level v) (rows' rows'' : List Row) (list' : List Entry) (kept : Kept rows' rows'') where
  abbrev rows : List Row
  rows = s.rows

  abbrev n : ℕ
  n = s.progress.known

  abbrev w : ℕ
  w = s.progress.waiting

  pub discovered : (n' w' : ℕ) (x : Entry) → n' ≡ n + 1 → x ≡ entry_of v n → Found rows n v.state None → Added rows n v rows' → Pushed ordered w x w' s.list list' → TracksPushed noted apart w x w' s.list list' rows' rows'' → Reached m s level v (stage_of rows'' list' (record { known = n'; waiting = w' }))
  discovered n' w' x more is absent added pushed_x tracks_x =
      let now = so.searching in
      let p = one_more s.progress in
      let pushed = subst (λ y. Pushed ordered w y w' s.list list') is pushed_x in
      let tracks = subst (λ y. TracksPushed noted apart w y w' s.list list' rows' rows'') is tracks_x in
      let grew : Grew (node rows) s.progress (node rows'') p = subst (λ f. Grew (node rows) s.progress f p) (nodes_kept rows' rows'' kept) (grew_more (node rows) (node rows') n v added.here added.others so.offered now.sound refl absent) in
      let sound : Sound m (node rows'') p level = subst (λ f. Sound m f p level) (nodes_kept rows' rows'' kept) (sound_more (node rows) (node rows') n v added.here added.others so.offered now.sound refl absent) in
      let known : KnownAt (node rows'') (n + 1) v.state v.cost = subst (λ f. KnownAt f (n + 1) v.state v.cost) (nodes_kept rows' rows'' kept) (n, (omega arith, (ap (λ x. x.state) added.here, omega (arith, ap (λ x. x.cost) added.here)))) in
      let all : Reached m s level v (stage_of rows'' list' p) = record {
        searching = record {
          small = omega (arith, now.small, kept.long, added.long);
          long = omega (arith, now.long, kept.long, added.long, pushed.long);
          indexed = kept_indexed rows' rows'' (n + 1) kept (added.indexed now.indexed);
          sound = sound;
          waiting = subst (λ k. Waiting rows'' (n + 1) (take k list')) pushed.more (waiting_pushed rows rows' rows'' n v (take w s.list) (take w' list') added so.offered.unsettled kept now.waiting pushed.entries (pushed.ordered order) tracks);
        };
        grew = grew;
        known = known;
        same_length = kept.long ∙ added.long;
      } in
      let P : ℕ → ℕ → Type 0 = λ j k. Reached m s level v (stage_of rows'' list' (record { known = j; waiting = k })) in
      subst (λ j. P j w') (sym more) (subst (P (n + 1)) (sym pushed.more) all)

  pub improved : (i : ℕ) (x : Entry) → Dearer s i v → x ≡ entry_of v i → Put rows i v rows' → Lowered ordered w (at rows i).place x s.list list' → TracksLowered noted apart w (at rows i).place x s.list list' rows' rows'' → Reached m s level v (stage_of rows'' list' s.progress)
  improved i x dearer is put lowered_x tracks_x =
      let now = so.searching in
      let lowered = subst (λ y. Lowered ordered w (at rows i).place y s.list list') is lowered_x in
      let tracks = subst (λ y. TracksLowered noted apart w (at rows i).place y s.list list' rows' rows'') is tracks_x in
      let here : node rows' i ≡ v = put.here (omega (arith, dearer.row, now.indexed.fits)) in
      let others : (k : ℕ) → (k ≡ i → ⊥) → node rows' k ≡ node rows k = λ k u. ap (λ r. r.node) (put.others k u) in
      let waits = waits_still so.offered now.sound i dearer.row dearer.cheaper in
      record {
        searching = record {
          small = omega (arith, now.small, kept.long, put.long);
          long = omega (arith, now.long, kept.long, put.long, lowered.long);
          indexed = kept_indexed rows' rows'' n kept (put_indexed rows rows' i v put n (omega (arith, dearer.row, now.indexed.fits)) dearer.same now.indexed);
          sound = subst (λ f. Sound m f s.progress level) (nodes_kept rows' rows'' kept) (sound_cheaper (node rows) (node rows') i v here others so.offered now.sound dearer.row dearer.same dearer.cheaper);
          waiting = waiting_lowered rows rows' rows'' n i v (take w s.list) (take w list') now.indexed.fits dearer.row waits put so.offered.unsettled kept now.waiting lowered.entries (lowered.ordered order) tracks;
        };
        grew = subst (λ f. Grew (node rows) s.progress f s.progress) (nodes_kept rows' rows'' kept) (grew_cheaper (node rows) (node rows') i v here others so.offered now.sound dearer.row dearer.same dearer.cheaper);
        known = subst (λ f. KnownAt f n v.state v.cost) (nodes_kept rows' rows'' kept) (i, (dearer.row, (ap (λ x. x.state) here, omega (arith, ap (λ x. x.cost) here))));
        same_length = kept.long ∙ put.long;
      }
