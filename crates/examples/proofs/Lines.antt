-- A line of the worked examples holds where two tables of costs to go pass their test.
use Rattle.std.proofs.Common.{◌≡◌, ℕ, suc, ◌*◌, ◌^◌, Bool, true, false, ◌&&◌, leb, List, [], ◌∷◌, length, sym, refl, ◌∙◌, arith}
use Rattle.std.specs.List.{AllByRecursion as All}
use Rattle.std.proofs.lemmas.Bool.{and_parts, and_from, leb-true}
use Rattle.domain.specs.Meaning.{Meaning, Limits}
use Rattle.plans.specs.Laws.{Watchable}
use Rattle.plans.specs.Logs.{Admitted, Whole}
use Rattle.plans.specs.Plans.{PlanFor, CompletePlan, LeastCost}
use Rattle.plans.specs.Verdicts.{verdict_of}
use Rattle.plans.specs.Watched.{watched}
use Rattle.plans.proofs.Judging.{judges_rightly}
use Rattle.plans.proofs.LeastCosts.{least_over, least_admitted, least_whole}
use Rattle.plans.proofs.Watching.{watched_limits}
use Rattle.examples.specs.Worked.{Line, Holds}
use Rattle.examples.proofs.CostsToGo.{Arrives, is_least, least, table_after}

-- plans of the two least costs of a line, where there are such plans
pub record Shown : Type 0 where
  pub without : List ℕ
  pub with : List ℕ

-- no sample needs more steps to a goal from any of its states
abbrev rounds : ℕ
rounds = 8

module _ (d : Meaning) (l : Line) where
  abbrev view : Meaning
  view = watched d l.log

  -- the states below the count that comes after the log's length
  abbrev states : ℕ
  states = 2 ^ d.width * suc (length l.log)

  abbrev meets : ℕ → Bool
  meets x = view.meets x l.goal

  abbrev meets_complete : ℕ → Bool
  meets_complete x = meets x && view.complete x

  abbrev small : Bool
  small = leb (length l.log) 20 && leb d.width 55

  abbrev passes : Shown → Bool
  passes shown = small && (is_least view meets (table_after view meets rounds states) l.without shown.without && is_least view meets_complete (table_after view meets_complete rounds states) l.with shown.with)

  module _ (limits : Limits d) (is_small : small ≡ true) where
    watchable : Watchable d l.log
    watchable =
        let both = and_parts _ _ is_small in
        record { limits = limits; few = leb-true (length l.log) 20 both.0; wide = λ h. absurd (omega (arith, leb-true d.width 55 both.1)) }

    least_without : LeastCost view (Arrives view meets) l.without → LeastCost d (Admitted d l.log l.goal) l.without
    least_without c =
        least_admitted d l.log watchable l.goal l.without
        (least_over view view (λ plan. refl) (Arrives view meets) (PlanFor view l.goal) (λ plan a. record { runs = a.runs; meets = a.there }) (λ plan p. record { runs = p.runs; there = p.meets }) l.without c)

    least_with : LeastCost view (Arrives view meets_complete) l.with → LeastCost d (Whole d l.log l.goal) l.with
    least_with c =
        least_whole d l.log watchable l.goal l.with
        (least_over view view (λ plan. refl) (Arrives view meets_complete) (CompletePlan view l.goal)
        (λ plan a. let both = and_parts _ _ a.there in record { plan_for = record { runs = a.runs; meets = both.0 }; complete = both.1 })
        (λ plan p. record { runs = p.plan_for.runs; there = and_from _ _ p.plan_for.meets p.complete })
        l.with c)

  pub line_holds : Limits d → verdict_of l.without l.with ≡ l.verdict → (shown : Shown) → passes shown ≡ true → Holds d l
  line_holds limits v shown h =
      let one = and_parts _ _ h in
      let two = and_parts _ _ one.1 in
      let above = watched_limits d l.log limits (leb-true (length l.log) 20 (and_parts _ _ one.0).0) in
      let first = least_without limits one.0 (least view meets above (table_after view meets rounds states) l.without shown.without two.0) in
      let second = least_with limits one.0 (least view meets_complete above (table_after view meets_complete rounds states) l.with shown.with two.1) in
      let right = judges_rightly l.without l.with in
      record {
        without = first;
        with = second;
        verdict = v;
        says_so = λ e. right.says_so d l.log l.goal first second (v ∙ e);
        is_so = λ s. sym v ∙ right.is_so d l.log l.goal first second s;
      }

-- a list of lines, each with its plans
abbrev pub all_pass : Meaning → List Line → List Shown → Bool
all_pass d [] shown = true
all_pass d (l ∷ ls) [] = false
all_pass d (l ∷ ls) (s ∷ shown) = passes d l s && all_pass d ls shown

pub lines_hold : (d : Meaning) → Limits d → (ls : List Line) (shown : List Shown) → All (λ l. verdict_of l.without l.with ≡ l.verdict) ls → all_pass d ls shown ≡ true → All (Holds d) ls
lines_hold d limits [] shown v h = tt
lines_hold d limits (l ∷ ls) (s ∷ shown) v h = let both = and_parts _ _ h in (line_holds d l limits v.0 s both.0, lines_hold d limits ls shown v.1 both.1)
lines_hold d limits (l ∷ ls) [] v h = let z : ◌≡◌ {A = ℕ} 0 1 = cc in absurd (omega arith)
