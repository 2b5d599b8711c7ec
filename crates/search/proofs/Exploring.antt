-- From the start to the finished table.
use Rattle.std.proofs.Common.{◌≡◌, ℕ, ◌-◌, ◌*◌, ◌<◌, ◌≤◌, true, false, List, length, take, sym, refl, ap, ◌∙◌, subst, inl, ⊎_elim, arith}
use Rattle.std.proofs.lemmas.List.{length-take-le}
use Rattle.std.proofs.lemmas.Bool.{cases_Bool, cases_eq, true≢false}
use Rattle.domain.specs.Meaning.{Meaning}
use Rattle.heap.specs.Pushing.{Pushed, TracksPushed}
use Rattle.heap.proofs.Orders.{none_ordered}
use Rattle.heap.proofs.Tracking.{none_tracked}
use Rattle.table.specs.declared.row.Node.{Node}
use Rattle.table.specs.declared.row.Row.{Row}
use Rattle.table.specs.Index.{Indexed, Added}
use Rattle.table.specs.Rows.{node}
use Rattle.search.specs.declared.entry.Entry.{Entry}
use Rattle.search.specs.Entries.{entry_of, ordered, order, noted, apart, Kept}
use Rattle.search.specs.declared.progress.Progress.{Progress}
use Rattle.search.specs.Searching.{Stage, stage_of, settled_count, Sound, Waiting, Searching, as_settled, Settled, SettledRow, Expanded}
use Rattle.search.specs.Solved.{Solved, Exploring}
use Rattle.search.specs.Ways.{Begins, Way, KnownAt, Closed}
use Rattle.search.proofs.Nodes.{closed_over}
use Rattle.search.proofs.Reaching.{kept_indexed}
use Rattle.search.proofs.WaitingLists.{waiting_pushed}

-- nothing waits in a table that knows no row
none_waits : (rows : List Row) (xs : List Entry) → length xs ≡ 0 → Waiting rows 0 xs
none_waits rows xs e = record {
  each = λ k d h. absurd (omega arith);
  all = λ i h s. absurd (omega arith);
  tracked = none_tracked noted apart rows xs e;
  ordered = none_ordered order xs e;
}

abbrev first_progress : Progress
first_progress = record { known = 1; waiting = 1 }

-- The start alone.
module _ (m : Meaning) (rows rows' rows'' : List Row) (list list' : List Entry) (w : ℕ) (v : Node) (x : Entry) (is : x ≡ entry_of v 0) (begins : Begins m v) (unsettled : v.settled ≡ false) (small : length rows ≤ 4096) (long : length rows ≤ length list) (indexed : Indexed rows 0) (added : Added rows 0 v rows') (kept : Kept rows' rows'') (pushed_x : Pushed ordered 0 x w list list') (tracks_x : TracksPushed noted apart 0 x w list list' rows' rows'') where
  pushed : Pushed ordered 0 (entry_of v 0) w list list'
  pushed = subst (λ y. Pushed ordered 0 y w list list') is pushed_x

  tracks : TracksPushed noted apart 0 (entry_of v 0) w list list' rows' rows''
  tracks = subst (λ y. TracksPushed noted apart 0 y w list list' rows' rows'') is tracks_x

  first : node rows'' 0 ≡ v
  first = kept.nodes 0 ∙ added.here

  only : (P : Node → Type 0) → P v → (i : ℕ) → i < 1 → P (node rows'' i)
  only P p i h = let zero : i ≡ 0 = omega arith in subst P (sym (ap (node rows'') zero ∙ first)) p

  begun_sound : Sound m (node rows'') first_progress 0
  begun_sound = record {
    few = omega arith;
    one_each = λ i j h k e. omega arith;
    start = (0, (omega arith, (ap (λ x. x.state) first ∙ begins.state, omega (arith, ap (λ x. x.cost) first, begins.cost))));
    ways = only (Way m (node rows'') 1) (inl begins);
    cheap = only (λ x. x.cost ≤ 60000 * x.steps) (omega (arith, begins.cost));
    short = only (λ x. x.steps ≤ 1 - 1) (omega (arith, begins.steps));
    shorter = only (λ x. x.settled ≡ true → x.steps < 1 - 1) (λ e. absurd (true≢false (sym e ∙ unsettled)));
    below = only (λ x. x.settled ≡ true → x.cost ≤ 0) (λ e. absurd (true≢false (sym e ∙ unsettled)));
    above = only (λ x. x.settled ≡ false → 0 ≤ x.cost) (λ e. omega arith);
  }

  begun : Searching m (stage_of rows'' list' first_progress) 0
  begun = record {
    small = omega (arith, small, kept.long, added.long);
    long = omega (arith, long, kept.long, added.long, pushed.long);
    indexed = kept_indexed rows' rows'' 1 kept (added.indexed indexed);
    sound = begun_sound;
    waiting = subst (λ k. Waiting rows'' 1 (take k list')) pushed.more (waiting_pushed rows rows' rows'' 0 v (take 0 list) (take w list') added unsettled kept (none_waits rows (take 0 list) (length-take-le 0 list (omega arith))) pushed.entries (pushed.ordered order) tracks);
  }

  pub exploring_begins : Exploring m (stage_of rows'' list' first_progress)
  exploring_begins = record { level = 0; searching = begun; closed = λ i h settled. absurd (omega (arith, begun_sound.shorter i h settled)) }

-- One state more is settled.
module _ {m : Meaning} {before taken after : Stage} {i : ℕ} (so : Exploring m before) (settled : Settled m before i taken) (expanded : Expanded m taken i m.actions after) where
  keeps : (k : ℕ) → ((node taken.rows k).state ≡ (node before.rows k).state) × ((node taken.rows k).cost ≡ (node before.rows k).cost)
  keeps k = ⊎_elim
      (λ e.
      let now : node taken.rows k ≡ as_settled (node before.rows k) = ap (node taken.rows) e ∙ settled.here ∙ ap (λ j. as_settled (node before.rows j)) (sym e) in
      (ap (λ x. x.state) now, ap (λ x. x.cost) now))
      (λ u. (ap (λ x. x.state) (settled.others k u), ap (λ x. x.cost) (settled.others k u)))
      (cases_eq k i)

  known_kept : (s c : ℕ) → KnownAt (node before.rows) before.progress.known s c → KnownAt (node taken.rows) taken.progress.known s c
  known_kept s c k = (k.0, (omega (arith, k.1.0, settled.same_known), ((keeps k.0).0 ∙ k.1.1.0, omega (arith, (keeps k.0).1, k.1.1.1))))

  closed_more : (k : ℕ) → k < after.progress.known → (node after.rows k).settled ≡ true → Closed m (node after.rows) after.progress.known m.actions (node after.rows k)
  closed_more k h e =
      let Done : Node → Type 0 = Closed m (node after.rows) after.progress.known m.actions in
      let was = expanded.grew.none_settled k h e in
      let same : node after.rows k ≡ node taken.rows k = expanded.grew.settled k was.0 was.1 in
      subst Done (sym same) (⊎_elim
      (λ at_i. subst (λ j. Done (node taken.rows j)) (sym at_i) expanded.closed)
      (λ u.
      let stayed : node taken.rows k ≡ node before.rows k = settled.others k u in
      let closed = so.closed k (omega (arith, was.0, settled.same_known)) (sym (ap (λ x. x.settled) stayed) ∙ was.1) in
      subst Done (sym stayed) (closed_over expanded.grew m m.actions (node before.rows k) (λ a l r. known_kept _ _ (closed a l r))))
      (cases_eq k i))

  pub exploring_on : Exploring m after
  exploring_on = record { level = _; searching = expanded.searching; closed = closed_more }

  -- fewer rows are left to settle
  pub left_falls : (size : ℕ) → size ≡ length before.rows → size - settled_count after.progress < size - settled_count before.progress
  left_falls size e = omega (arith, e, so.searching.sound.few, so.searching.indexed.fits, settled.fewer, settled.same_known, expanded.grew.same_settled)

-- what was taken can be expanded
pub next_row : {m : Meaning} {before taken : Stage} {i : ℕ} → Settled m before i taken → SettledRow taken i (node taken.rows i)
next_row s = record { row = omega (arith, s.row, s.same_known); settled = ap (λ v. v.settled) s.here; here = refl }

pub next_searching : {m : Meaning} {before taken : Stage} {i : ℕ} → Settled m before i taken → Searching m taken (node taken.rows i).cost
next_searching {m} {before} {taken} s = subst (Searching m taken) (sym (ap (λ v. v.cost) s.here)) s.searching

-- Nothing waits any more.
pub solved : {m : Meaning} {s : Stage} → s.progress.waiting ≡ 0 → Exploring m s → Solved m (node s.rows) s.progress.known
solved {m} {s} e so =
    let sound = so.searching.sound in
    let none : length (take s.progress.waiting s.list) ≡ 0 = length-take-le s.progress.waiting s.list (omega arith) ∙ e in
    let all : (i : ℕ) → i < s.progress.known → (node s.rows i).settled ≡ true = λ i h. ⊎_elim (λ t. t) (λ f. absurd (omega (arith, none, (so.searching.waiting.all i h f).1.0.1))) (cases_Bool (node s.rows i).settled) in
    record {
      one_each = sound.one_each;
      start = sound.start;
      ways = sound.ways;
      short = λ i h. omega (arith, sound.shorter i h (all i h));
      closed = λ i h. so.closed i h (all i h);
    }
