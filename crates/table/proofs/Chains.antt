-- Following a chain, and adding a row to one.
use Rattle.std.proofs.Common.{◌≡◌, ℕ, ◌+◌, ◌<◌, ◌≤◌, List, length, Some, None, Option, sym, ap, ◌∙◌, subst, ⊎_elim, arith}
use Rattle.std.proofs.lemmas.Nat.{mod_below}
use Rattle.std.proofs.lemmas.Bool.{cases_eq}
use Rattle.table.specs.declared.row.Node.{Node}
use Rattle.table.specs.declared.row.Row.{Row}
use Rattle.table.specs.Index.{chain_of, chain, Latest, Indexed, Put, Linked, Added}
use Rattle.table.specs.Rows.{at, node}

-- the state is not among the rows from bound on, and seek is the latest row of its chain before
abbrev pub Seeking : List Row → ℕ → ℕ → ℕ → Option ℕ → Type 0
Seeking rows n s bound seek = Indexed rows n → Latest rows bound (chain_of (length rows) s) seek × ((i : ℕ) → bound ≤ i → i < n → (node rows i).state ≡ s → ⊥)

-- Chains of rows with the same states.
module _ (xs ys : List Row) where
  latest_over : (m b : ℕ) (o : Option ℕ) → ((k : ℕ) → k < m → chain ys k ≡ chain xs k) → Latest xs m b o → Latest ys m b o
  latest_over m b None same l = λ i h e. l i h (sym (same i h) ∙ e)
  latest_over m b (Some j) same l = (l.0, same j l.0 ∙ l.1, λ i h k e. l.2 i h k (sym (same i k) ∙ e))

  pub indexed_over : (n : ℕ) → length ys ≡ length xs → ((k : ℕ) → (node ys k).state ≡ (node xs k).state) → ((k : ℕ) → (at ys k).link ≡ (at xs k).link) → Indexed xs n → Indexed ys n
  indexed_over n long states links ok =
      let same : (k : ℕ) → chain ys k ≡ chain xs k = λ k. ap (λ m. chain_of m (node ys k).state) long ∙ ap (chain_of (length xs)) (states k) in
      record {
        fits = omega (arith, long, ok.fits);
        heads = λ b h. subst (λ o. Latest ys n b o) (sym (ap (λ l. l.head) (links b))) (latest_over n b _ (λ k _. same k) (ok.heads b (omega (arith, long))));
        nexts = λ i h. subst (λ o. Latest ys i (chain ys i) o) (sym (ap (λ l. l.next) (links i))) (subst (λ b. Latest ys i b (at xs i).link.next) (sym (same i)) (latest_over i (chain xs i) _ (λ k _. same k) (ok.nexts i h)));
      }

latest_more : (rows : List Row) (n b : ℕ) (o : Option ℕ) → (chain rows n ≡ b → ⊥) → Latest rows n b o → Latest rows (n + 1) b o
latest_more rows n b None other l = λ i h e. ⊎_elim (λ same. other (ap (chain rows) (sym same) ∙ e)) (λ apart. l i (omega arith) e) (cases_eq i n)
latest_more rows n b (Some j) other l = (omega (arith, l.0), l.1, λ i h k e. ⊎_elim (λ same. other (ap (chain rows) (sym same) ∙ e)) (λ apart. l.2 i h (omega arith) e) (cases_eq i n))

-- Another node in row i.
module _ (xs ys : List Row) (i : ℕ) (new : Node) (put : Put xs i new ys) where
  pub put_places : (k : ℕ) → (at ys k).place ≡ (at xs k).place
  put_places k = ⊎_elim (λ same. ap (λ j. (at ys j).place) same ∙ put.place ∙ ap (λ j. (at xs j).place) (sym same)) (λ apart. ap (λ r. r.place) (put.others k apart)) (cases_eq k i)

  put_links : (k : ℕ) → (at ys k).link ≡ (at xs k).link
  put_links k = ⊎_elim (λ same. ap (λ j. (at ys j).link) same ∙ put.link ∙ ap (λ j. (at xs j).link) (sym same)) (λ apart. ap (λ r. r.link) (put.others k apart)) (cases_eq k i)

  put_states : i < length xs → new.state ≡ (node xs i).state → (k : ℕ) → (node ys k).state ≡ (node xs k).state
  put_states low state k = ⊎_elim (λ same. ap (λ j. (node ys j).state) same ∙ ap (λ v. v.state) (put.here low) ∙ state ∙ ap (λ j. (node xs j).state) (sym same)) (λ apart. ap (λ r. r.node.state) (put.others k apart)) (cases_eq k i)

  -- a row whose state stays is found as before
  pub put_indexed : (n : ℕ) → i < length xs → new.state ≡ (node xs i).state → Indexed xs n → Indexed ys n
  put_indexed n low state = indexed_over xs ys n put.long (put_states low state) put_links

-- A node put into row n, which then joins its chain.
module _ (xs ys zs : List Row) (n : ℕ) (new : Node) (low : n < length xs) (put : Put xs n new ys) (linked : Linked ys n zs) where
  nodes_before : (k : ℕ) → (k ≡ n → ⊥) → node zs k ≡ node xs k
  nodes_before k apart = linked.nodes k ∙ ap (λ r. r.node) (put.others k apart)

  long : length zs ≡ length xs
  long = linked.long ∙ put.long

  chain_before : (k : ℕ) → (k ≡ n → ⊥) → chain zs k ≡ chain xs k
  chain_before k apart = ap (λ m. chain_of m (node zs k).state) long ∙ ap (λ v. chain_of (length xs) v.state) (nodes_before k apart)

  chain_new : chain zs n ≡ chain ys n
  chain_new = ap (λ m. chain_of m (node zs n).state) linked.long ∙ ap (λ v. chain_of (length ys) v.state) (linked.nodes n)

  chain_low : chain zs n < length xs
  chain_low = subst (λ m. chain zs n < m) long (mod_below _ (length zs) (omega (arith, long)))

  over : (m b : ℕ) (o : Option ℕ) → m ≤ n → Latest xs m b o → Latest zs m b o
  over m b o h = latest_over xs zs m b o (λ k l. chain_before k (omega arith))

  indexed_more : Indexed xs n → Indexed zs (n + 1)
  indexed_more ok = record {
    fits = omega (arith, long);
    heads = λ b h. ⊎_elim
        (λ same. subst (λ o. Latest zs (n + 1) b o) (sym (ap (λ c. (at zs c).link.head) same ∙ linked.head)) (omega arith, chain_new ∙ sym same, λ i l k e. absurd (omega arith)))
        (λ apart.
        let stayed : (at zs b).link.head ≡ (at xs b).link.head = linked.heads b apart ∙ ap (λ l. l.head) (put_links xs ys n new put b) in
        subst (λ o. Latest zs (n + 1) b o) (sym stayed) (latest_more zs n b _ (λ e. apart (sym e ∙ chain_new)) (over n b _ (omega arith) (ok.heads b (omega (arith, long))))))
        (cases_eq b (chain ys n));
    nexts = λ i h. ⊎_elim
        (λ same.
        let head : (at zs n).link.next ≡ (at xs (chain zs n)).link.head = linked.next ∙ ap (λ l. l.head) (put_links xs ys n new put (chain ys n)) ∙ ap (λ c. (at xs c).link.head) (sym chain_new) in
        subst (λ j. Latest zs j (chain zs j) (at zs j).link.next) (sym same) (subst (λ o. Latest zs n (chain zs n) o) (sym head) (over n (chain zs n) _ (omega arith) (ok.heads (chain zs n) chain_low))))
        (λ apart.
        let stayed : (at zs i).link.next ≡ (at xs i).link.next = linked.nexts i apart ∙ ap (λ l. l.next) (put_links xs ys n new put i) in
        subst (λ o. Latest zs i (chain zs i) o) (sym stayed) (subst (λ b. Latest zs i b (at xs i).link.next) (sym (chain_before i apart)) (over i (chain xs i) _ (omega arith) (ok.nexts i (omega arith)))))
        (cases_eq i n);
  }

  pub add_done : Added xs n new zs
  add_done = record {
    long = long;
    here = linked.nodes n ∙ put.here low;
    others = nodes_before;
    places = λ k. linked.places k ∙ put_places xs ys n new put k;
    indexed = indexed_more;
  }
