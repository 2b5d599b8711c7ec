-- The cheapest of the rows that pass a test is the cheapest of the list of those that passed.
use Rattle.std.proofs.Common.{◌≡◌, ℕ, zero, suc, ◌<◌, ◌≤◌, Bool, true, false, cond, List, [], ◌∷◌, length, get_or, take, ◌↔◌, Some, None, Option, IfSome, IsSomeAnd, IsTrue, MatchOption, sym, ap, ◌∙◌, subst, arith, rules}
use Rattle.std.specs.List.{All, filter}
use Rattle.std.specs.Option.{option_map}
use Rattle.std.proofs.lemmas.Bool.{false≢true}
use Rattle.std.proofs.lemmas.List.{get_or_read, get_or-take, length-take-le}
use Rattle.std.proofs.lemmas.List.Elements.{filter_passes, All-filter}
use denote.Ref.{Bor}
use Rattle.table.specs.declared.row.Row.{Row}
use Rattle.table.specs.Rows.{at, node, blank_row}
use Rattle.search.specs.Solved.{CheapestIn}

module _ {X : Type 0} (test : X → Bool) (P : X → Type 0) where
  split : (b : Bool) (x : X) (xs : List X) → All P (cond b (x ∷ xs) xs) → (b ≡ true → P x) × All P xs
  split true x xs all = (λ e. all 0 x (omega arith), λ k d h. all (suc k) d (omega arith))
  split false x xs all = (λ e. absurd (false≢true e), all)

  -- what holds of all that passed holds of each that passes
  of_passing : (xs : List X) → All P (filter test xs) → (k : ℕ) (d : X) → k < length xs → test (get_or xs k d) ≡ true → P (get_or xs k d)
  of_passing [] all k d h e = absurd (omega arith)
  of_passing (x ∷ xs) all zero d h e = (split (test x) x (filter test xs) all).0 e
  of_passing (x ∷ xs) all (suc k) d h e = of_passing xs (split (test x) x (filter test xs) all).1 k d (omega arith) e

-- a row with its number, as an iterator gives it
abbrev pub Item : Type 0
Item = ℕ × Bor Row

abbrev pub item_test : (ℕ → Bool) → Item → Bool
item_test such x = such x.1.now.node.state

abbrev pub cost_of_item : Item → ℕ
cost_of_item x = x.1.now.node.cost

-- the item at place i is row i
pub record Stands (rows : List Row) (items : List Item) (i : ℕ) : Type 0 where
  pub item : Item
  pub number : item.0 ≡ i
  pub row : item.1.now ≡ at rows i
  pub here : get_or items i item ≡ item

module _ (rows : List Row) (such : ℕ → Bool) (items passed : List Item) (kept : passed ≡ filter (item_test such) items) (size : length items ≡ length rows) (each : (i : ℕ) → i < length rows → Stands rows items i) where
  -- what holds of all that passed holds of each row that passes
  of_row : (P : Item → Type 0) → All P passed → (i : ℕ) (h : i < length rows) → IsTrue (such (node rows i).state) → P (each i h).item
  of_row P all i h e =
      let x = each i h in
      subst P x.here (of_passing (item_test such) P items (subst (All P) kept all) i x.item (omega (arith, size)) (ap (item_test such) x.here ∙ ap (λ r. such r.node.state) x.row ∙ e))

  -- an item is a row with its own number
  abbrev Own : Item → Type 0
  Own x = (x.0 < length rows) × (x.1.now ≡ at rows x.0)

  own : All Own items
  own k d h =
      let x = each k (omega (arith, size)) in
      subst Own (get_or_read items k x.item h (sym x.here) d) (omega (arith, size, x.number), x.row ∙ ap (at rows) (sym x.number))

  cheapest_none : length passed ≡ 0 → CheapestIn (λ s. IsTrue (such s)) (node rows) (length rows) None
  cheapest_none e i h s = of_row (λ x. ⊥) (λ k d l. absurd (omega (arith, e))) i h s

  -- an item that passed and costs no more than any other that did
  pub record Chosen (x : Item) : Type 0 where
    pub place : ℕ
    pub low : place < length passed
    pub here : get_or passed place x ≡ x
    pub least : All (λ y. cost_of_item x ≤ cost_of_item y) passed

  cheapest_some : (x : Item) → Chosen x → CheapestIn (λ s. IsTrue (such s)) (node rows) (length rows) (Some x.0)
  cheapest_some x chosen =
      let mine : Own x = subst Own chosen.here (subst (All Own) (sym kept) (All-filter (item_test such) Own items own) chosen.place x chosen.low) in
      let passes = subst (λ y. item_test such y ≡ true) chosen.here (subst (All (λ y. item_test such y ≡ true)) (sym kept) (filter_passes (item_test such) items) chosen.place x chosen.low) in
      (mine.0, (sym (ap (λ r. such r.node.state) mine.1) ∙ passes, λ i h s. omega (arith, of_row (λ y. cost_of_item x ≤ cost_of_item y) chosen.least i h s, ap (λ (r : Row). r.node.cost) (each i h).row, ap (λ (r : Row). r.node.cost) mine.1)))

  -- what an iterator picked of those that passed, and the number of that
  pub cheapest : (o : Option Item) (r : Option ℕ) (P : Type 0) (Q : Item → Type 0) → (P → length passed ≡ 0) → ((x : Item) → Q x → Chosen x) → MatchOption o P Q → MatchOption o (r ≡ None) (λ x. r ≡ Some x.0) → CheapestIn (λ s. IsTrue (such s)) (node rows) (length rows) r
  cheapest None r P Q none some picked is = subst (CheapestIn (λ s. IsTrue (such s)) (node rows) (length rows)) (sym is) (cheapest_none (none picked))
  cheapest (Some x) r P Q none some picked is = subst (CheapestIn (λ s. IsTrue (such s)) (node rows) (length rows)) (sym is) (cheapest_some x (some x picked))

-- an item that a run has at a place
pub read_all : (o : Option Item) (x : Item) (P : Item → Type 0) → option_map (λ y. y) o ≡ Some x → IfSome o P → P x
read_all None x P reads all = absurd (search rules)
read_all (Some y) x P reads all = let same : y ≡ x = cc in subst P same all

pub read_any : (o : Option Item) (x y : Item) → option_map (λ y. y) o ≡ Some x → IsSomeAnd o (λ z. z ≡ y) → x ≡ y
read_any None x y reads any = absurd (search rules)
read_any (Some z) x y reads any = cc

-- an item that was read at a place
pub stands : (rows : List Row) (items : List Item) (i : ℕ) (o : Option Item) → IfSome o (λ x. x.0 ≡ i) → option_map (λ (y : Bor Row). y.now) (option_map (λ (x : Item). x.1) o) ≡ Some (at rows i) → ((d : Item) → option_map (λ y. y) o ≡ Some (get_or items i d)) → Stands rows items i
stands rows items i None number row reads = absurd (search rules)
stands rows items i (Some x) number row reads = record { item = x; number = number; row = cc; here = let read = reads x in cc }

-- the cheapest of the first rows as one of them all, by another test of their states
module _ (rows : List Row) (n : ℕ) (fits : n ≤ length rows) (such : ℕ → Bool) (Such : ℕ → Type 0) (same : (s : ℕ) → IsTrue (such s) ↔ Such s) where
  size : length (take n rows) ≡ n
  size = length-take-le n rows fits

  among : (i : ℕ) → i < n → node (take n rows) i ≡ node rows i
  among i h = ap (λ (r : Row). r.node) (get_or-take n rows i blank_row h)

  to_such : (i : ℕ) → i < n → Such (node rows i).state → IsTrue (such (node (take n rows) i).state)
  to_such i h e = (same _).1 (subst (λ v. Such v.state) (sym (among i h)) e)

  pub cheapest_of_all : (o : Option ℕ) → CheapestIn (λ s. IsTrue (such s)) (node (take n rows)) (length (take n rows)) o → CheapestIn Such (node rows) n o
  cheapest_of_all None c = λ i h e. c i (omega (arith, size)) (to_such i h e)
  cheapest_of_all (Some j) c =
      let low : j < n = omega (arith, c.0, size) in
      (low, (subst (λ v. Such v.state) (among j low) ((same _).0 c.1.0), λ i h e. omega (arith, c.1.1 i (omega (arith, size)) (to_such i h e), ap (λ v. v.cost) (among i h), ap (λ v. v.cost) (among j low))))
