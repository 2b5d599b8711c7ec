-- One call more: the law of a run is carried on.
use Rattle.std.proofs.Common.{◌≡◌, ℕ, ◌<◌, List, [], ◌∷◌, ◌++◌, length, get_or, replicate, Ok, Err, Option, sym, refl, ap, ◌∙◌, ⊎_elim, append_assoc, arith}
use Rattle.std.proofs.lemmas.Grind.{common_steps}
use Rattle.std.proofs.lemmas.List.{get_or-replicate, get_or-set_same, get_or-set_other}
use Rattle.std.proofs.lemmas.Bool.{cases_eq}
use Rattle.board.specs.declared.row.BoardRow.{BoardRow}
use Rattle.board.specs.Rows.{open_row, judged_row}
use Rattle.domain.specs.Meaning.{Meaning}
use Rattle.plans.specs.Logs.{Admitted, Whole}
use Rattle.plans.specs.Plans.{LeastCost}
use Rattle.watch.specs.Book.{log_after, book_from, book}
use Rattle.watch.specs.Calls.{Event, note, retract, report}
use Rattle.watch.specs.Reports.{Right}
use Rattle.watch.specs.Runs.{ReportsOn, ChangesLog, Occurs, LogChanges, NotReported, RowTells, Ran, RowsAfter}

nonempty : {C : Type 0} (xs : List Event) (x : Event) (ys : List Event) → [] ≡ xs ++ (x ∷ ys) → C
nonempty [] x ys e = cc
nonempty (y ∷ xs) x ys e = cc

-- What holds of an event at the end of a run, and of those that stand in the run, holds of each where the run has the event.
at_each : (run : List Event) (e : Event) (P : List Event → Event → List Event → Type 0) → P run e [] → ((before : List Event) (x : Event) (rest : List Event) → Occurs run before x rest → P before x (rest ++ (e ∷ []))) → (before : List Event) (x : Event) (later : List Event) → Occurs (run ++ (e ∷ [])) before x later → P before x later
at_each [] e P last within [] x later o =
    let same : x ≡ e = cc in
    let none : later ≡ [] = cc in
    rw (same, none) last
at_each [] e P last within (b ∷ before) x later o = nonempty before x later (cc)
at_each (r ∷ run) e P last within [] x later o =
    let rest : later ≡ run ++ (e ∷ []) = cc in
    rw rest (within [] x run (record { is = cc }))
at_each (r ∷ run) e P last within (b ∷ before) x later o =
    let first : b ≡ r = cc in
    rw first (at_each run e (λ shorter. P (r ∷ shorter)) last (λ shorter y rest i. within (r ∷ shorter) y rest (record { is = ap (λ h. r ∷ h) i.is })) before x later (record { is = cc }))

-- an event of a run stands in the run with one more at the end
occurs_more : (run before : List Event) (e x : Event) (later : List Event) → Occurs run before x later → Occurs (run ++ (e ∷ [])) before x (later ++ (e ∷ []))
occurs_more run before e x later o = record { is = ap (λ h. h ++ (e ∷ [])) o.is ∙ append_assoc before (x ∷ later) (e ∷ []) }

-- The book of a run with one call more.
book_from_lem : (d : Meaning) (log : List ℕ) (run : List Event) (e : Event) → book_from d log (run ++ (e ∷ [])) ≡ log_after d (book_from d log run) e.0
book_from_lem d log [] e = refl
book_from_lem d log (x ∷ run) e = book_from_lem d (log_after d log x.0) run e

-- Changes of the log among events, of which the last may be one.
changes_more : (later : List Event) (e : Event) → LogChanges later → LogChanges (later ++ (e ∷ []))
changes_more later e (before, (x, (rest, (o, c)))) = (before, (x, (rest ++ (e ∷ []), (occurs_more later before e x rest o, c))))

changes_last : (later : List Event) (e : Event) → ChangesLog e → LogChanges (later ++ (e ∷ []))
changes_last later e c = (later, (e, ([], (record { is = refl }, c))))

changes_fewer : (later : List Event) (e : Event) → (ChangesLog e → ⊥) → LogChanges (later ++ (e ∷ [])) → LogChanges later
changes_fewer later e never (before, (x, (rest, (o, c)))) = at_each later e (λ b y r. ChangesLog y → LogChanges later) (λ k. absurd (never k)) (λ b y r i k. (b, (y, (r, (i, k))))) before x rest o c

changes_none : LogChanges [] → ⊥
changes_none (before, (x, (rest, (o, c)))) = nonempty before x rest o.is

-- Reports since the last change, with one event more.
module _ (run : List Event) (e : Event) (g : ℕ) where
  -- the log changed just now
  reported_changed : ChangesLog e → (ReportsOn g e → ⊥) → NotReported (run ++ (e ∷ [])) g
  reported_changed c never = at_each run e (λ before x later. ReportsOn g x → LogChanges later) (λ r. absurd (never r)) (λ before x rest o r. changes_last rest e c)

  -- nothing that matters to the goal happened
  reported_same : (ReportsOn g e → ⊥) → NotReported run g → NotReported (run ++ (e ∷ [])) g
  reported_same never n = at_each run e (λ before x later. ReportsOn g x → LogChanges later) (λ r. absurd (never r)) (λ before x rest o r. changes_more rest e (n before x rest o r))

  reported_before : (ChangesLog e → ⊥) → NotReported (run ++ (e ∷ [])) g → NotReported run g
  reported_before never n before x later o r = changes_fewer later e never (n before x (later ++ (e ∷ [])) (occurs_more run before e x later o) r)

  -- the goal was reported on just now
  reported_now : ReportsOn g e → NotReported (run ++ (e ∷ [])) g → ⊥
  reported_now r n = changes_none (n run e [] (record { is = refl }) r)

-- How a row goes on.
module _ (d : Meaning) (run : List Event) (e : Event) (log' : List ℕ) (g : ℕ) (row' : BoardRow) where
  row_opens : ChangesLog e → (ReportsOn g e → ⊥) → row' ≡ open_row → RowTells d (run ++ (e ∷ [])) log' g row'
  row_opens c never is = let changed = reported_changed run e g c never in grind arith

  row_judged : ReportsOn g e → (without with : Option ℕ) → row' ≡ judged_row without with → g < d.goals → LeastCost d (Admitted d log' g) without → LeastCost d (Whole d log' g) with → RowTells d (run ++ (e ∷ [])) log' g row'
  row_judged r without with is goal one two = let now = reported_now run e g r in grind arith

  row_stays : (log : List ℕ) (row : BoardRow) → (ChangesLog e → ⊥) → (ReportsOn g e → ⊥) → log' ≡ log → row' ≡ row → RowTells d run log g row → RowTells d (run ++ (e ∷ [])) log' g row'
  row_stays log row unchanged never same is t = rw (same, is) (record {
    open_so = λ k. reported_same run e g never (t.open_so k);
    so_open = λ n. t.so_open (reported_before run e g unchanged n);
    judged = t.judged;
  })

-- A refusal leaves the log.
note_refused : (d : Meaning) (log : List ℕ) (a n : ℕ) → Right d log (note a, Err n) → log_after d log (note a) ≡ log
note_refused d log a n r = grind arith

retract_refused : (d : Meaning) (log : List ℕ) (n : ℕ) → Right d log (retract, Err n) → log_after d log retract ≡ log
retract_refused d log n r = grind (arith, common_steps)

module _ (d : Meaning) (run : List Event) (log log' : List ℕ) (rows rows' : List BoardRow) (ran : Ran d run log rows) (long : length rows ≡ 32) where
  board_on : (e : Event) → Right d log e → log' ≡ log_after d log e.0 → RowsAfter rows e rows' → (g : ℕ) → g < 32 → RowTells d (run ++ (e ∷ [])) log' g (get_or rows' g open_row)
  board_on (note a, Ok x) right is after g h = row_opens _ _ _ _ _ _ tt (λ r. r) (rw (after, get_or-replicate))
  board_on (note a, Err n) right is after g h = row_stays _ _ _ _ _ _ log (get_or rows g open_row) (λ c. c) (λ r. r) (is ∙ note_refused d log a n right) (rw after) (ran.board g h)
  board_on (retract, Ok x) right is after g h = row_opens _ _ _ _ _ _ tt (λ r. r) (rw (after, get_or-replicate))
  board_on (retract, Err n) right is after g h = row_stays _ _ _ _ _ _ log (get_or rows g open_row) (λ c. c) (λ r. r) (is ∙ retract_refused d log n right) (rw after) (ran.board g h)
  board_on (report goal s, Ok r) right is after g h =
      ⊎_elim
      (λ own. row_judged _ _ _ _ _ _ own r.without r.with (rw (after, own, get_or-set_same rows g (judged_row r.without r.with) open_row (omega (arith, long)))) (omega (arith, own, right.is_goal)) (rw (is, ← own) right.without) (rw (is, ← own) right.with))
      (λ other. row_stays _ _ _ _ _ _ log (get_or rows g open_row) (λ c. c) other is (rw (after, get_or-set_other rows goal g (judged_row r.without r.with) open_row (λ k. other (sym k)))) (ran.board g h))
      (cases_eq goal g)
  board_on (report goal s, Err n) right is after g h = row_stays _ _ _ _ _ _ log (get_or rows g open_row) (λ c. c) (λ r. r) is (rw after) (ran.board g h)

  pub carried_on : (e : Event) → Right d log e → log' ≡ log_after d log e.0 → RowsAfter rows e rows' → Ran d (run ++ (e ∷ [])) log' rows'
  carried_on e right is after = record {
    answered = at_each run e (λ before x later. Right d (book d before) x) (rw (← ran.logged) right) ran.answered;
    logged = rw (is, book_from_lem d [] run e, ran.logged);
    board = board_on e right is after;
  }

-- A watch that begins: no call was made.
pub begun : (d : Meaning) (rows : List BoardRow) → rows ≡ replicate 32 open_row → Ran d [] [] rows
begun d rows e = record {
  answered = λ before x later o. nonempty before x later o.is;
  logged = refl;
  board = λ g h.
      let is : get_or rows g open_row ≡ open_row = rw (e, get_or-replicate) in
      record {
        open_so = λ _ before x later o r. nonempty before x later o.is;
        so_open = λ _. is;
        judged = λ v k. let h = rw is at k in cc;
      };
}
