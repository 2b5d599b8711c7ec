-- A cheapest state that waits is settled, and what its actions lead to is offered.
use Rattle.std.proofs.Common.{◌≡◌, ℕ, ◌+◌, ◌*◌, ◌<◌, ◌≤◌, true, false, List, ◌∷◌, length, take, Some, sym, refl, ap, ◌∙◌, subst, ⊎_elim, arith}
use Rattle.std.specs.List.Sorted.{IsPermutation}
use Rattle.std.specs.List.{All}
use Rattle.std.proofs.lemmas.List.Elements.{All-contains}
use Rattle.std.proofs.lemmas.List.Sorted.{All-permutation}
use Rattle.std.proofs.lemmas.Bool.{cases_Bool, cases_eq}
use Rattle.domain.specs.Meaning.{Meaning, Limits}
use Rattle.heap.specs.Taking.{Taken, TracksTaken}
use Rattle.plans.specs.Reachable.{MoreThan}
use Rattle.table.specs.declared.row.Node.{Node}
use Rattle.table.specs.declared.row.Row.{Row}
use Rattle.table.specs.declared.row.Step.{Step}
use Rattle.table.specs.Index.{Put}
use Rattle.table.specs.Rows.{node}
use Rattle.table.proofs.Chains.{put_indexed}
use Rattle.search.specs.declared.entry.Entry.{Entry}
use Rattle.search.specs.Entries.{ordered, order, noted, apart, Kept}
use Rattle.search.specs.Searching.{Stage, stage_of, settled_count, Waits, Waiting, Searching, Offerable, Reached, Full, as_settled, Settled, SettledRow, Expanded}
use Rattle.search.specs.Ways.{KnownAt}
use Rattle.search.proofs.Nodes.{sound_settled, known_over, grew_chain}
use Rattle.search.proofs.Paths.{path_to, path_on, more_than}
use Rattle.search.proofs.Reaching.{kept_indexed}
use Rattle.search.proofs.WaitingLists.{waiting_taken, least_cost}

-- the row of an entry that is taken
taken_waits : (f : ℕ → Node) (n : ℕ) (x : Entry) (xs ys : List Entry) → All (Waits f n) xs → IsPermutation xs (x ∷ ys) → Waits f n x
taken_waits f n x xs ys each shuffled = All-permutation (Waits f n) xs (x ∷ ys) shuffled each 0 x (omega arith)

pub taken_row : (rows : List Row) (n : ℕ) (x : Entry) (xs ys : List Entry) → n ≤ length rows → Waiting rows n xs → IsPermutation xs (x ∷ ys) → x.row < length rows
taken_row rows n x xs ys fits waiting shuffled = omega (arith, fits, (taken_waits (node rows) n x xs ys waiting.each shuffled).row)

module _ {m : Meaning} {s : Stage} {level : ℕ} (so : Searching m s level) (rows' rows'' : List Row) (list' : List Entry) (w' : ℕ) (x : Entry) (taken : Taken ordered s.progress.waiting x w' s.list list') (kept : Kept s.rows rows') (tracks : TracksTaken noted apart s.progress.waiting w' s.list list' s.rows rows') (put : Put rows' x.row (as_settled (node rows' x.row)) rows'') where
  abbrev rows : List Row
  rows = s.rows

  abbrev n : ℕ
  n = s.progress.known

  abbrev entries : List Entry
  entries = take s.progress.waiting s.list

  waits : Waits (node rows) n x
  waits = taken_waits (node rows) n x entries (take w' list') so.waiting.each taken.entries

  same_node : node rows' x.row ≡ node rows x.row
  same_node = kept.nodes x.row

  here : node rows'' x.row ≡ as_settled (node rows x.row)
  here = put.here (omega (arith, waits.row, so.indexed.fits, kept.long)) ∙ ap as_settled same_node

  others : (k : ℕ) → (k ≡ x.row → ⊥) → node rows'' k ≡ node rows k
  others k u = ap (λ r. r.node) (put.others k u) ∙ kept.nodes k

  -- no row that waits costs less
  least : (k : ℕ) → k < n → (node rows k).settled ≡ false → (node rows x.row).cost ≤ (node rows k).cost
  least k h e =
      let own = so.waiting.all k h e in
      let found = own.1.0 in
      let entry : Waits (node rows) n own.0 = All-contains (Waits (node rows) n) entries own.0 so.waiting.each found in
      omega (
        arith,
        waits.cost,
        least_cost x entries (taken.least order so.waiting.ordered) found.0 own.0 found.1,
        ap (λ (y : Entry). y.cost) found.2,
        entry.cost,
        ap (λ r. (node rows r).cost) own.1.1,
      )

  pub settled_next : Settled m s x.row (stage_of rows'' list' (record { known = n; waiting = w' }))
  settled_next = record {
    same_known = refl;
    fewer = taken.fewer;
    row = waits.row;
    waited = waits.unsettled;
    here = here;
    others = others;
    searching = record {
      small = omega (arith, so.small, kept.long, put.long);
      long = omega (arith, so.long, kept.long, put.long, taken.long);
      indexed = put_indexed rows' rows'' x.row (as_settled (node rows' x.row)) put n (omega (arith, waits.row, so.indexed.fits, kept.long)) refl (kept_indexed rows rows' n kept so.indexed);
      sound = sound_settled (node rows) (node rows'') x.row (as_settled (node rows x.row)) here others w' waits.row waits.unsettled refl taken.fewer least so.sound;
      waiting = waiting_taken rows rows' rows'' n x (as_settled (node rows' x.row)) entries (take w' list') kept put refl so.indexed.fits taken.entries so.waiting (taken.ordered order so.waiting.ordered) (tracks so.waiting.tracked);
    };
  }

-- Offering what the actions lead to from row i, one action after another.
module _ {m : Meaning} (limits : Limits m) {before : Stage} {i : ℕ} {node_i : Node} (own : SettledRow before i node_i) where
  abbrev here_i : Node
  here_i = node before.rows i

  module _ {now : Stage} {a : ℕ} (so : Expanded m before i a now) where
    still : node now.rows i ≡ here_i
    still = so.grew.settled i own.row own.settled

    row_low : i < now.progress.known
    row_low = omega (arith, own.row, so.grew.more)

    still_settled : (node now.rows i).settled ≡ true
    still_settled = ap (λ v. v.settled) still ∙ own.settled

    own_steps : here_i.steps < settled_count now.progress
    own_steps = omega (arith, ap (λ v. v.steps) still, so.searching.sound.shorter i row_low still_settled)

    own_cost : here_i.cost ≤ 60000 * here_i.steps
    own_cost = subst (λ v. v.cost ≤ 60000 * v.steps) still (so.searching.sound.cheap i row_low)

    -- an action that leads elsewhere can run
    runs_if : (m.next here_i.state a ≡ here_i.state → ⊥) → m.runs here_i.state a ≡ true
    runs_if away = ⊎_elim (λ e. e) (λ e. absurd (away (limits.next_same here_i.state a e))) (cases_Bool (m.runs here_i.state a))

    module _ (v : Node) (step : Step) (last : v.last ≡ Some step) (state : v.state ≡ m.next here_i.state a) (cost : v.cost ≡ here_i.cost + m.cost a) (steps : v.steps ≡ here_i.steps + 1) (from : step.from ≡ i) (action : step.action ≡ a) (unsettled : v.settled ≡ false) (away : v.state ≡ here_i.state → ⊥) where
      source : node now.rows step.from ≡ here_i
      source = ap (node now.rows) from ∙ still

      pub offers : Offerable m now here_i.cost v
      offers = record {
        searching = so.searching;
        offered = record {
          follows = record {
            step = step;
            last = last;
            from = omega (arith, from, row_low);
            settled = ap (λ x. x.settled) source ∙ own.settled;
            runs = ap (λ x. m.runs x.state step.action) source ∙ ap (m.runs here_i.state) action ∙ runs_if (λ e. away (state ∙ e));
            next = ap (λ x. m.next x.state step.action) source ∙ ap (m.next here_i.state) action ∙ sym state;
            cost = cost ∙ ap (λ b. here_i.cost + m.cost b) (sym action) ∙ sym (ap (λ x. x.cost + m.cost step.action) source);
            steps = steps ∙ sym (ap (λ x. x.steps + 1) source);
          };
          unsettled = unsettled;
          cheap = omega (arith, cost, steps, own_cost, limits.cost_high a);
          short = omega (arith, steps, own_steps);
          above = omega (arith, cost);
        };
      }

      pub expand_steps : {after : Stage} → Reached m now here_i.cost v after → Expanded m before i (a + 1) after
      expand_steps {after} reached = record {
        searching = reached.searching;
        grew = grew_chain so.grew reached.grew;
        closed = λ b h r. ⊎_elim
            (λ e.
            let P : ℕ → ℕ → Type 0 = KnownAt (node after.rows) after.progress.known in
            subst (λ c. P (m.next here_i.state c) (here_i.cost + m.cost c)) (sym e) (subst (λ t. P t (here_i.cost + m.cost a)) state (subst (P v.state) cost reached.known)))
            (λ u. known_over reached.grew _ _ (so.closed b (omega arith) r))
            (cases_eq b a);
        same_length = reached.same_length ∙ so.same_length;
      }

      -- a new state in a full table
      pub expand_full : Full now v.state → MoreThan m (length before.rows)
      expand_full full =
          let follows = offers.offered.follows in
          let sound = so.searching.sound in
          let n = now.progress.known in
          let path = path_to m (node now.rows) n sound.ways follows.step.from follows.from in
          let on = path_on m (node now.rows) n v path.0 follows path.1 in
          subst (MoreThan m) (full.full ∙ so.same_length) (more_than m (node now.rows) n sound.ways sound.one_each v.state (_, (on.runs, on.state)) full.absent)

    -- an action that leads nowhere else
    pub expand_stays : m.next here_i.state a ≡ here_i.state → Expanded m before i (a + 1) now
    expand_stays same = record {
      searching = so.searching;
      grew = so.grew;
      closed = λ b h r. ⊎_elim
          (λ e. (i, (row_low, (ap (λ v. v.state) still ∙ sym same ∙ ap (m.next here_i.state) (sym e), omega (arith, ap (λ v. v.cost) still)))))
          (λ u. so.closed b (omega arith) r)
          (cases_eq b a);
      same_length = so.same_length;
    }
