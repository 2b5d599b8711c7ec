-- The nodes of a table stay sound when one more comes, when one gets cheaper, and when one is settled.
use Rattle.std.proofs.Common.{◌≡◌, ℕ, ◌+◌, ◌-◌, ◌*◌, ◌<◌, ◌≤◌, true, false, sym, refl, ap, ◌∙◌, subst, inl, inr, ⊎_elim, arith}
use Rattle.std.proofs.lemmas.Bool.{cases_Bool, cases_eq, true≢false}
use Rattle.domain.specs.Meaning.{Meaning}
use Rattle.table.specs.declared.row.Node.{Node}
use Rattle.search.specs.declared.progress.Progress.{Progress}
use Rattle.search.specs.Searching.{settled_count, Sound, Offered, Grew, as_settled}
use Rattle.search.specs.Ways.{Follows, Way, KnownAt, Closed, OneEach}

-- What carries over to nodes that grew.
module _ {f g : ℕ → Node} {p q : Progress} (grew : Grew f p g q) where
  pub known_over : (s c : ℕ) → KnownAt f p.known s c → KnownAt g q.known s c
  known_over s c k =
      let j = k.0 in
      (j, (omega (arith, k.1.0, grew.more), (grew.states j k.1.0 ∙ k.1.1.0, omega (arith, grew.costs j k.1.0, k.1.1.1))))

  module _ (m : Meaning) where
    follows_over : (v : Node) → Follows m f p.known v → Follows m g q.known v
    follows_over v x =
        let step = x.step in
        let same : g step.from ≡ f step.from = grew.settled step.from x.from x.settled in
        record {
          step = step;
          last = x.last;
          from = omega (arith, x.from, grew.more);
          settled = ap (λ y. y.settled) same ∙ x.settled;
          runs = ap (λ y. m.runs y.state step.action) same ∙ x.runs;
          next = ap (λ y. m.next y.state step.action) same ∙ x.next;
          cost = x.cost ∙ sym (ap (λ y. y.cost + m.cost step.action) same);
          steps = x.steps ∙ sym (ap (λ y. y.steps + 1) same);
        }

    way_over : (v : Node) → Way m f p.known v → Way m g q.known v
    way_over v = ⊎_elim inl (λ x. inr (follows_over v x))

    pub closed_over : (actions : ℕ) (v : Node) → Closed m f p.known actions v → Closed m g q.known actions v
    closed_over actions v closed a h r = known_over _ _ (closed a h r)

pub grew_chain : {f g h : ℕ → Node} {p q r : Progress} → Grew f p g q → Grew g q h r → Grew f p h r
grew_chain a b = record {
  more = omega (arith, a.more, b.more);
  same_settled = b.same_settled ∙ a.same_settled;
  settled = λ i low e. b.settled i (omega (arith, a.more)) (ap (λ v. v.settled) (a.settled i low e) ∙ e) ∙ a.settled i low e;
  states = λ i low. b.states i (omega (arith, a.more)) ∙ a.states i low;
  costs = λ i low. omega (arith, b.costs i (omega (arith, a.more)), a.costs i low);
  none_settled = λ i low e. let was = b.none_settled i low e in a.none_settled i was.0 was.1;
}

-- a settled row costs at most level, and so no more than a way that is offered
pub waits_still : {m : Meaning} {f : ℕ → Node} {p : Progress} {level : ℕ} {v : Node} → Offered m f p level v → Sound m f p level → (row : ℕ) → row < p.known → v.cost < (f row).cost → (f row).settled ≡ false
waits_still {m} {f} offered sound row low cheaper = ⊎_elim (λ e. absurd (omega (arith, sound.below row low e, offered.above))) (λ e. e) (cases_Bool (f row).settled)

-- a row more, which waits
abbrev pub one_more : Progress → Progress
one_more p = record { known = p.known + 1; waiting = p.waiting + 1 }

-- One node changed: g is f but at row, where it is v.
module _ (f g : ℕ → Node) (row : ℕ) (v : Node) (here : g row ≡ v) (others : (k : ℕ) → (k ≡ row → ⊥) → g k ≡ f k) where
  each : (P : Node → Type 0) (n : ℕ) → P v → ((k : ℕ) → k < n → (k ≡ row → ⊥) → P (f k)) → (k : ℕ) → k < n → P (g k)
  each P n new old k h = ⊎_elim (λ e. subst P (sym (ap g e ∙ here)) new) (λ apart. subst P (sym (others k apart)) (old k h apart)) (cases_eq k row)

  -- a first way to a state
  module _ {m : Meaning} {p : Progress} {level : ℕ} (offered : Offered m f p level v) (sound : Sound m f p level) (is : row ≡ p.known) (absent : (i : ℕ) → i < p.known → (f i).state ≡ v.state → ⊥) where
    before : (k : ℕ) → k < p.known → g k ≡ f k
    before k h = others k (omega arith)

    pub grew_more : Grew f p g (one_more p)
    grew_more = record {
      more = omega arith;
      same_settled = omega (arith, sound.few);
      settled = λ i h e. before i h;
      states = λ i h. ap (λ x. x.state) (before i h);
      costs = λ i h. omega (arith, ap (λ x. x.cost) (before i h));
      none_settled = λ i h e. ⊎_elim
          (λ at. absurd (true≢false (sym e ∙ ap (λ x. x.settled) (ap g at ∙ here) ∙ offered.unsettled)))
          (λ apart. (omega arith, sym (ap (λ x. x.settled) (others i apart)) ∙ e))
          (cases_eq i row);
    }

    one_each_more : OneEach g (p.known + 1)
    one_each_more i j h k e =
        ⊎_elim
        (λ a. ⊎_elim (λ b. omega arith) (λ b. absurd (absent j (omega arith) (sym (ap (λ x. x.state) (others j b)) ∙ sym e ∙ ap (λ x. x.state) (ap g a ∙ here)))) (cases_eq j row))
        (λ a. ⊎_elim
        (λ b. absurd (absent i (omega arith) (sym (ap (λ x. x.state) (others i a)) ∙ e ∙ ap (λ x. x.state) (ap g b ∙ here))))
        (λ b. sound.one_each i j (omega arith) (omega arith) (sym (ap (λ x. x.state) (others i a)) ∙ e ∙ ap (λ x. x.state) (others j b)))
        (cases_eq j row))
        (cases_eq i row)

    pub sound_more : Sound m g (one_more p) level
    sound_more = record {
      few = omega (arith, sound.few);
      one_each = one_each_more;
      start = known_over grew_more m.start 0 sound.start;
      ways = each (Way m g (p.known + 1)) (p.known + 1) (inr (follows_over grew_more m v offered.follows)) (λ k h apart. way_over grew_more m (f k) (sound.ways k (omega arith)));
      cheap = each (λ x. x.cost ≤ 60000 * x.steps) (p.known + 1) offered.cheap (λ k h apart. sound.cheap k (omega arith));
      short = each (λ x. x.steps ≤ settled_count (one_more p)) (p.known + 1) (omega (arith, offered.short)) (λ k h apart. omega (arith, sound.short k (omega arith)));
      shorter = each (λ x. x.settled ≡ true → x.steps < settled_count (one_more p)) (p.known + 1) (λ e. absurd (true≢false (sym e ∙ offered.unsettled))) (λ k h apart e. omega (arith, sound.shorter k (omega arith) e));
      below = each (λ x. x.settled ≡ true → x.cost ≤ level) (p.known + 1) (λ e. absurd (true≢false (sym e ∙ offered.unsettled))) (λ k h apart e. sound.below k (omega arith) e);
      above = each (λ x. x.settled ≡ false → level ≤ x.cost) (p.known + 1) (λ e. offered.above) (λ k h apart e. sound.above k (omega arith) e);
    }

  -- the same states: one node a state stays so
  same_states : (n : ℕ) → v.state ≡ (f row).state → OneEach f n → OneEach g n
  same_states n same one i j h k e =
      let state : (q : ℕ) → (g q).state ≡ (f q).state = λ q. ⊎_elim (λ at. ap (λ x. x.state) (ap g at ∙ here) ∙ same ∙ sym (ap (λ r. (f r).state) at)) (λ apart. ap (λ x. x.state) (others q apart)) (cases_eq q row) in
      one i j h k (sym (state i) ∙ e ∙ state j)

  -- a cheaper way to a state that waits
  module _ {m : Meaning} {p : Progress} {level : ℕ} (offered : Offered m f p level v) (sound : Sound m f p level) (low : row < p.known) (same : v.state ≡ (f row).state) (cheaper : v.cost < (f row).cost) where
    pub grew_cheaper : Grew f p g p
    grew_cheaper = record {
      more = omega arith;
      same_settled = refl;
      settled = λ i h e. others i (λ at. true≢false (sym e ∙ ap (λ r. (f r).settled) at ∙ waits_still offered sound row low cheaper));
      states = λ i h. ⊎_elim (λ at. ap (λ x. x.state) (ap g at ∙ here) ∙ same ∙ sym (ap (λ r. (f r).state) at)) (λ apart. ap (λ x. x.state) (others i apart)) (cases_eq i row);
      costs = λ i h. ⊎_elim (λ at. omega (arith, ap (λ x. x.cost) (ap g at ∙ here), ap (λ r. (f r).cost) at)) (λ apart. omega (arith, ap (λ x. x.cost) (others i apart))) (cases_eq i row);
      none_settled = λ i h e. ⊎_elim
          (λ at. absurd (true≢false (sym e ∙ ap (λ x. x.settled) (ap g at ∙ here) ∙ offered.unsettled)))
          (λ apart. (h, sym (ap (λ x. x.settled) (others i apart)) ∙ e))
          (cases_eq i row);
    }

    pub sound_cheaper : Sound m g p level
    sound_cheaper = record {
      few = sound.few;
      one_each = same_states p.known same sound.one_each;
      start = known_over grew_cheaper m.start 0 sound.start;
      ways = each (Way m g p.known) p.known (inr (follows_over grew_cheaper m v offered.follows)) (λ k h apart. way_over grew_cheaper m (f k) (sound.ways k h));
      cheap = each (λ x. x.cost ≤ 60000 * x.steps) p.known offered.cheap (λ k h apart. sound.cheap k h);
      short = each (λ x. x.steps ≤ settled_count p) p.known offered.short (λ k h apart. sound.short k h);
      shorter = each (λ x. x.settled ≡ true → x.steps < settled_count p) p.known (λ e. absurd (true≢false (sym e ∙ offered.unsettled))) (λ k h apart. sound.shorter k h);
      below = each (λ x. x.settled ≡ true → x.cost ≤ level) p.known (λ e. absurd (true≢false (sym e ∙ offered.unsettled))) (λ k h apart. sound.below k h);
      above = each (λ x. x.settled ≡ false → level ≤ x.cost) p.known (λ e. offered.above) (λ k h apart. sound.above k h);
    }

  -- one of the cheapest that wait is settled
  module _ {m : Meaning} {p : Progress} {level : ℕ} (w : ℕ) (low : row < p.known) (waits : (f row).settled ≡ false) (is : v ≡ as_settled (f row)) (fewer : w + 1 ≡ p.waiting) (least : (k : ℕ) → k < p.known → (f k).settled ≡ false → (f row).cost ≤ (f k).cost) (sound : Sound m f p level) where
    follows_settled : (x : Node) → Follows m f p.known x → Follows m g p.known x
    follows_settled x y =
        let step = y.step in
        let same : g step.from ≡ f step.from = others step.from (λ at. true≢false (sym y.settled ∙ ap (λ r. (f r).settled) at ∙ waits)) in
        record {
          step = step;
          last = y.last;
          from = y.from;
          settled = ap (λ z. z.settled) same ∙ y.settled;
          runs = ap (λ z. m.runs z.state step.action) same ∙ y.runs;
          next = ap (λ z. m.next z.state step.action) same ∙ y.next;
          cost = y.cost ∙ sym (ap (λ z. z.cost + m.cost step.action) same);
          steps = y.steps ∙ sym (ap (λ z. z.steps + 1) same);
        }

    way_settled : (x : Node) → Way m f p.known x → Way m g p.known x
    way_settled x = ⊎_elim inl (λ y. inr (follows_settled x y))

    -- a settled node has the way that it had when it waited
    own_way : Way m g p.known (as_settled (f row))
    own_way = ⊎_elim
        (λ b. inl (record { state = b.state; cost = b.cost; steps = b.steps; last = b.last }))
        (λ y. let z = follows_settled (f row) y in inr (record { step = z.step; last = z.last; from = z.from; settled = z.settled; runs = z.runs; next = z.next; cost = z.cost; steps = z.steps }))
        (sound.ways row low)

    known_settled : (s c : ℕ) → KnownAt f p.known s c → KnownAt g p.known s c
    known_settled s c k = (
      k.0,
      (
        k.1.0,
        ⊎_elim
            (λ at. let now : g k.0 ≡ _ = ap g at ∙ here ∙ is in (ap (λ x. x.state) now ∙ sym (ap (λ r. (f r).state) at) ∙ k.1.1.0, omega (arith, ap (λ x. x.cost) now, ap (λ r. (f r).cost) at, k.1.1.1)))
            (λ apart. (ap (λ x. x.state) (others k.0 apart) ∙ k.1.1.0, omega (arith, ap (λ x. x.cost) (others k.0 apart), k.1.1.1)))
            (cases_eq k.0 row),
      ),
    )

    pub sound_settled : Sound m g (record { known = p.known; waiting = w }) (f row).cost
    sound_settled = record {
      few = omega (arith, sound.few);
      one_each = same_states p.known (ap (λ x. x.state) is) sound.one_each;
      start = known_settled m.start 0 sound.start;
      ways = each (Way m g p.known) p.known (subst (Way m g p.known) (sym is) own_way) (λ k h apart. way_settled (f k) (sound.ways k h));
      cheap = each (λ x. x.cost ≤ 60000 * x.steps) p.known (subst (λ x. x.cost ≤ 60000 * x.steps) (sym is) (sound.cheap row low)) (λ k h apart. sound.cheap k h);
      short = each (λ x. x.steps ≤ p.known - w) p.known (omega (arith, ap (λ x. x.steps) is, sound.short row low)) (λ k h apart. omega (arith, sound.short k h));
      shorter = each (λ x. x.settled ≡ true → x.steps < p.known - w) p.known (λ e. omega (arith, ap (λ x. x.steps) is, sound.short row low, sound.few)) (λ k h apart e. omega (arith, sound.shorter k h e));
      below = each (λ x. x.settled ≡ true → x.cost ≤ (f row).cost) p.known (λ e. omega (arith, ap (λ x. x.cost) is)) (λ k h apart e. omega (arith, sound.below k h e, sound.above row low waits));
      above = each (λ x. x.settled ≡ false → (f row).cost ≤ x.cost) p.known (λ e. absurd (true≢false (sym (ap (λ x. x.settled) is) ∙ e))) (λ k h apart e. least k h e);
    }
