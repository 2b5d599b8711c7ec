-- The waiting list stays that of the rows that wait, as entries come, get cheaper and are taken.
use Rattle.std.proofs.Common.{◌≡◌, ℕ, suc, ◌+◌, ◌<◌, ◌≤◌, Bool, true, false, cond, eqb, ltb, List, [], ◌∷◌, length, get_or, set, Ordering, Less, Equal, Greater, sym, refl, ap, ◌∙◌, subst, ⊎_elim, arith}
use Rattle.std.specs.Ordering.{is_lt, is_gt, ordering_then}
use Rattle.std.specs.List.Sorted.{IsPermutation}
use Rattle.std.specs.List.{All, Contains}
use Rattle.std.proofs.lemmas.List.{length-set, get_or-set_same, get_or-set_other, get_or_read}
use Rattle.std.proofs.lemmas.List.Elements.{All-cons, All-weaker, Contains-append_right}
use Rattle.std.proofs.lemmas.List.Sorted.{All-permutation, Contains-permutation}
use Rattle.std.proofs.lemmas.Map.Made.{Contains-tail}
use Rattle.std.proofs.lemmas.Bool.{cases_eq, lt-ltb, ltb-false, true≢false}
use Rattle.heap.specs.Order.{HeapOrder, Least}
use Rattle.heap.specs.Tracking.{Apart, Noted, NotedBut, Tracked}
use Rattle.heap.proofs.Tracking.{apart_shuffled, apart_more, apart_set}
use Rattle.table.specs.declared.row.Node.{Node}
use Rattle.table.specs.declared.row.Row.{Row}
use Rattle.table.specs.Index.{Put, Added}
use Rattle.table.specs.Rows.{at, node}
use Rattle.table.proofs.Chains.{put_places}
use Rattle.search.specs.declared.entry.Entry.{Entry}
use Rattle.search.specs.Entries.{entry_of, ordered, order, noted, apart, Kept}
use Rattle.search.specs.Searching.{Waits, AllWait, Waiting}

waits_over : (f g : ℕ → Node) (n n' : ℕ) → n ≤ n' → (x : Entry) → g x.row ≡ f x.row → Waits f n x → Waits g n' x
waits_over f g n n' h x same y = record {
  row = omega (arith, y.row);
  unsettled = ap (λ v. v.settled) same ∙ y.unsettled;
  cost = y.cost ∙ sym (ap (λ v. v.cost) same);
  state = y.state ∙ sym (ap (λ v. v.state) same);
}

waits_own : (f : ℕ → Node) (n i : ℕ) (v : Node) → i < n → f i ≡ v → v.settled ≡ false → Waits f n (entry_of v i)
waits_own f n i v h here e = record { row = h; unsettled = ap (λ x. x.settled) here ∙ e; cost = sym (ap (λ x. x.cost) here); state = sym (ap (λ x. x.state) here) }

all_wait_shuffled : (f : ℕ → Node) (n : ℕ) (xs ys : List Entry) → IsPermutation xs ys → AllWait f n xs → AllWait f n ys
all_wait_shuffled f n xs ys s all i h e = let x = all i h e in (x.0, (Contains-permutation xs ys x.0 s x.1.0, x.1.1))

-- places that stay are noted as before
noted_over : (rows rows' : List Row) (x : Entry) (k : ℕ) → length rows' ≡ length rows → ((i : ℕ) → (at rows' i).place ≡ (at rows i).place) → noted rows x k → noted rows' x k
noted_over rows rows' x k long places h low = places x.row ∙ h (subst (λ n. x.row < n) long low)

pub nodes_kept : (rows rows' : List Row) → Kept rows rows' → node rows ≡ node rows'
nodes_kept rows rows' kept = λ i k. sym (kept.nodes k) i

-- the rows after a heap function noted the places anew
module _ (rows rows' : List Row) (n : ℕ) (xs ys : List Entry) (kept : Kept rows rows') (shuffled : IsPermutation xs ys) (each : All (Waits (node rows) n) xs) (all : AllWait (node rows) n xs) (tracked : Tracked noted apart rows' ys) (ordered : HeapOrder order ys) where
  waiting_noted : Waiting rows' n ys
  waiting_noted = record {
    each = subst (λ f. All (Waits f n) ys) (nodes_kept rows rows' kept) (All-permutation (Waits (node rows) n) xs ys shuffled each);
    all = subst (λ f. AllWait f n ys) (nodes_kept rows rows' kept) (all_wait_shuffled (node rows) n xs ys shuffled all);
    tracked = tracked;
    ordered = ordered;
  }

-- One row more, which waits.
module _ (rows rows' rows'' : List Row) (n : ℕ) (v : Node) (xs ys : List Entry) (added : Added rows n v rows') (unsettled : v.settled ≡ false) (kept : Kept rows' rows'') (waiting : Waiting rows n xs) where
  each_pushed : All (Waits (node rows') (n + 1)) (entry_of v n ∷ xs)
  each_pushed =
      All-cons (Waits (node rows') (n + 1)) (entry_of v n) xs (waits_own (node rows') (n + 1) n v (omega arith) added.here unsettled) (All-weaker (Waits (node rows) n) (Waits (node rows') (n + 1)) (λ x w. waits_over (node rows) (node rows') n (n + 1) (omega arith) x (added.others x.row (omega (arith, w.row))) w) xs waiting.each)

  all_pushed : AllWait (node rows') (n + 1) (entry_of v n ∷ xs)
  all_pushed i h e =
      ⊎_elim
      (λ same. (entry_of v n, ((0, omega arith, refl), sym same)))
      (λ other. let x = waiting.all i (omega arith) (sym (ap (λ y. y.settled) (added.others i other)) ∙ e) in (x.0, (Contains-append_right (entry_of v n ∷ []) xs x.0 x.1.0, x.1.1)))
      (cases_eq i n)

  row_low : (k : ℕ) (d : Entry) → k < length xs → (get_or xs k d).row < n
  row_low k d h = (waiting.each k d h).row

  apart_pushed : Apart apart (entry_of v n ∷ xs)
  apart_pushed = apart_more apart (entry_of v n) xs waiting.tracked.0 (λ k d h. (λ e. omega (arith, row_low k d h), λ e. omega (arith, row_low k d h)))

  noted_pushed : Noted noted rows' xs
  noted_pushed k d h = noted_over rows rows' (get_or xs k d) k added.long added.places (waiting.tracked.1 k d h)

  pub waiting_pushed : IsPermutation (entry_of v n ∷ xs) ys → (HeapOrder order xs → HeapOrder order ys) → (Apart apart (entry_of v n ∷ xs) → Noted noted rows' xs → Tracked noted apart rows'' ys) → Waiting rows'' (n + 1) ys
  waiting_pushed shuffled ordered tracks = waiting_noted rows' rows'' (n + 1) (entry_of v n ∷ xs) ys kept shuffled each_pushed all_pushed (tracks apart_pushed noted_pushed) (ordered waiting.ordered)

-- Where the entry of a row stands.
module _ (rows : List Row) (n : ℕ) (xs : List Entry) (fits : n ≤ length rows) (waiting : Waiting rows n xs) (i : ℕ) (low : i < n) (unsettled : (node rows i).settled ≡ false) where
  own : (e : Entry) × (Contains xs e × (e.row ≡ i))
  own = waiting.all i low unsettled

  own_row : (d : Entry) → (get_or xs own.1.0.0 d).row ≡ i
  own_row d = ap (λ (y : Entry). y.row) (sym (get_or_read xs own.1.0.0 own.0 own.1.0.1 (sym own.1.0.2) d)) ∙ own.1.1

  place_is : (at rows i).place ≡ own.1.0.0
  place_is = let e = own.0 in ap (λ r. (at rows r).place) (sym (own_row e)) ∙ waiting.tracked.1 own.1.0.0 e own.1.0.1 (omega (arith, own_row e))

  pub place_within : (at rows i).place < length xs
  place_within = omega (arith, place_is, own.1.0.1)

  pub place_row : (d : Entry) → (get_or xs (at rows i).place d).row ≡ i
  place_row d = ap (λ k. (get_or xs k d).row) place_is ∙ own_row d

  pub place_cost : (d : Entry) → (get_or xs (at rows i).place d).cost ≡ (node rows i).cost
  place_cost d = (waiting.each (at rows i).place d place_within).cost ∙ ap (λ r. (node rows r).cost) (place_row d)

-- A row that waits gets another node of the same state, and its entry comes in the place of the old one.
module _ (rows rows' rows'' : List Row) (n i : ℕ) (v : Node) (xs ys : List Entry) (fits : n ≤ length rows) (low : i < n) (waits : (node rows i).settled ≡ false) (put : Put rows i v rows') (unsettled : v.settled ≡ false) (kept : Kept rows' rows'') (waiting : Waiting rows n xs) where
  p : ℕ
  p = (at rows i).place

  within : p < length xs
  unfolding p
  within = place_within rows n xs fits waiting i low waits

  here : node rows' i ≡ v
  here = put.here (omega (arith, low, fits))

  -- the entries at other places are of other rows
  other_row : (k : ℕ) (d : Entry) → k < length xs → (k ≡ p → ⊥) → (get_or xs k d).row ≡ i → ⊥
  unfolding p
  other_row k d h u e = waiting.tracked.0 k p d h within u (e ∙ sym (place_row rows n xs fits waiting i low waits d))

  node_other : (k : ℕ) → (k ≡ i → ⊥) → node rows' k ≡ node rows k
  node_other k u = ap (λ r. r.node) (put.others k u)

  entry_other : (k : ℕ) (d : Entry) → (k ≡ p → ⊥) → get_or (set xs p (entry_of v i)) k d ≡ get_or xs k d
  entry_other k d u = get_or-set_other xs p k (entry_of v i) d u

  entry_here : (d : Entry) → get_or (set xs p (entry_of v i)) p d ≡ entry_of v i
  entry_here d = get_or-set_same xs p (entry_of v i) d within

  each_lowered : All (Waits (node rows') n) (set xs p (entry_of v i))
  each_lowered k d h = ⊎_elim
      (λ e. subst (Waits (node rows') n) (sym (ap (λ j. get_or (set xs p (entry_of v i)) j d) e ∙ entry_here d)) (waits_own (node rows') n i v low here unsettled))
      (λ u.
      let l : k < length xs = omega (arith, length-set xs p (entry_of v i)) in
      let x = get_or xs k d in
      subst (Waits (node rows') n) (sym (entry_other k d u)) (waits_over (node rows) (node rows') n n (omega arith) x (node_other x.row (other_row k d l u)) (waiting.each k d l)))
      (cases_eq k p)

  own_row_here : (d : Entry) → (get_or xs p d).row ≡ i
  unfolding p
  own_row_here d = place_row rows n xs fits waiting i low waits d

  all_lowered : AllWait (node rows') n (set xs p (entry_of v i))
  all_lowered j h e =
      ⊎_elim
      (λ same. (entry_of v i, ((p, omega (arith, within, length-set xs p (entry_of v i)), entry_here (entry_of v i)), sym same)))
      (λ other.
      let x = waiting.all j h (sym (ap (λ y. y.settled) (node_other j other)) ∙ e) in
      let k = x.1.0.0 in
      let away : k ≡ p → ⊥ = λ at_p. other (sym (ap (λ (y : Entry). y.row) (sym (ap (λ q. get_or xs q x.0) at_p) ∙ x.1.0.2) ∙ x.1.1) ∙ own_row_here x.0) in
      (x.0, ((k, omega (arith, x.1.0.1, length-set xs p (entry_of v i)), entry_other k x.0 away ∙ x.1.0.2), x.1.1)))
      (cases_eq j i)

  apart_lowered : Apart apart (set xs p (entry_of v i))
  apart_lowered = apart_set apart xs p (entry_of v i) waiting.tracked.0 (λ k d h u. (λ e. other_row k d h u (sym e), other_row k d h u))

  noted_lowered : NotedBut noted p rows' xs
  noted_lowered k d h u = noted_over rows rows' (get_or xs k d) k put.long (put_places rows rows' i v put) (waiting.tracked.1 k d h)

  pub waiting_lowered : IsPermutation (set xs (at rows i).place (entry_of v i)) ys → (HeapOrder order xs → HeapOrder order ys) → (Apart apart (set xs (at rows i).place (entry_of v i)) → NotedBut noted (at rows i).place rows' xs → Tracked noted apart rows'' ys) → Waiting rows'' n ys
  unfolding p
  waiting_lowered shuffled ordered tracks = waiting_noted rows' rows'' n (set xs p (entry_of v i)) ys kept shuffled each_lowered all_lowered (tracks apart_lowered noted_lowered) (ordered waiting.ordered)

-- An entry is taken and its row is settled.
module _ (rows rows' rows'' : List Row) (n : ℕ) (x : Entry) (v : Node) (xs ys : List Entry) (kept : Kept rows rows') (put : Put rows' x.row v rows'') (settled : v.settled ≡ true) (fits : n ≤ length rows) (shuffled : IsPermutation xs (x ∷ ys)) (waiting : Waiting rows n xs) where
  each_both : All (Waits (node rows) n) (x ∷ ys)
  each_both = All-permutation (Waits (node rows) n) xs (x ∷ ys) shuffled waiting.each

  apart_both : Apart apart (x ∷ ys)
  apart_both = apart_shuffled apart xs (x ∷ ys) shuffled waiting.tracked.0

  node_away : (k : ℕ) → (k ≡ x.row → ⊥) → node rows'' k ≡ node rows k
  node_away k u = ap (λ r. r.node) (put.others k u) ∙ kept.nodes k

  each_left : All (Waits (node rows'') n) ys
  each_left k d h =
      let y = get_or ys k d in
      waits_over (node rows) (node rows'') n n (omega arith) y (node_away y.row (apart_both (suc k) 0 d (omega arith) (omega arith) (omega arith))) (each_both (suc k) d (omega arith))

  all_left : AllWait (node rows'') n ys
  all_left i h e =
      let away : i ≡ x.row → ⊥ = λ same. true≢false (sym settled ∙ sym (ap (λ y. y.settled) (put.here (omega (arith, (each_both 0 x (omega arith)).row, kept.long, fits)))) ∙ ap (λ r. (node rows'' r).settled) (sym same) ∙ e) in
      let y = waiting.all i h (sym (ap (λ z. z.settled) (node_away i away)) ∙ e) in
      let other : x ≡ y.0 → ⊥ = λ same. away (sym y.1.1 ∙ ap (λ (z : Entry). z.row) (sym same)) in
      (y.0, (Contains-tail x ys y.0 other (Contains-permutation xs (x ∷ ys) y.0 shuffled y.1.0), y.1.1))

  pub waiting_taken : HeapOrder order ys → Tracked noted apart rows' ys → Waiting rows'' n ys
  waiting_taken ordered tracked = record {
    each = each_left;
    all = all_left;
    tracked = (tracked.0, λ k d h. noted_over rows' rows'' (get_or ys k d) k put.long (put_places rows' rows'' x.row v put) (tracked.1 k d h));
    ordered = ordered;
  }

-- The order of entries is by cost first.
not_less : (a b : Bool) (o : Ordering) → is_lt (ordering_then (cond a Less (cond b Equal Greater)) o) ≡ false → a ≡ false
not_less true b o h = h
not_less false b o h = refl

not_greater : (a b : Bool) (o : Ordering) → a ≡ true → is_gt (ordering_then (cond a Less (cond b Equal Greater)) o) ≡ false
not_greater true b o h = refl
not_greater false b o h = absurd (true≢false (sym h))

pub least_cost : (x : Entry) (xs : List Entry) → Least order x xs → (k : ℕ) (d : Entry) → k < length xs → x.cost ≤ (get_or xs k d).cost
least_cost x xs least k d h = ltb-false _ _ (not_less (ltb (get_or xs k d).cost x.cost) (eqb (get_or xs k d).cost x.cost) _ (least k d h))

pub cheaper_low : (x y : Entry) → x.cost < y.cost → is_gt (ordered x y) ≡ false
cheaper_low x y h = not_greater (ltb x.cost y.cost) (eqb x.cost y.cost) _ (lt-ltb _ _ h)
