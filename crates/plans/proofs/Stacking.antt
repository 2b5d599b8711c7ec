-- The plans of a stack of logs.
use Rattle.std.proofs.Common.{ℕ, List, [], ◌∷◌, sym}
use Rattle.std.proofs.lemmas.Bool.{true≢false}
use Rattle.std.proofs.lemmas.List.Elements.{All-nil, All-cons, All-head, All-tail}
use Rattle.plans.specs.Logs.{Carries, Logged, Whole}
use Rattle.domain.specs.Meaning.{Meaning}
use Rattle.plans.specs.Laws.{WholeLaws}
use Rattle.plans.specs.Stacks.{stack, Stackable, MarksLogged, WholeBelow, StackLaws}
use Rattle.plans.proofs.Watching.{whole_laws}

-- the marks that a log judges: those of the bottom, if it is the innermost, and otherwise none
marks_down : (b : Meaning) (log : List ℕ) (logs : List (List ℕ)) (plan : List ℕ) → Logged (stack b logs) log plan → MarksLogged b logs plan → MarksLogged b (log ∷ logs) plan
marks_down b log [] plan here m = here
marks_down b log (inner ∷ logs) plan here m = m

marks_up : (b : Meaning) (log : List ℕ) (logs : List (List ℕ)) (plan : List ℕ) → MarksLogged b (log ∷ logs) plan → Logged (stack b logs) log plan × MarksLogged b logs plan
marks_up b log [] plan m = (m, tt)
marks_up b log (inner ∷ logs) plan m = ((λ a o marked. absurd (true≢false (sym marked))), m)

pub stack_laws : (b : Meaning) (logs : List (List ℕ)) → Stackable b logs → StackLaws b logs
stack_laws b [] ok = record {
  complete_whole = λ g plan p. record { plan_for = p.plan_for; marks = tt; carries = All-nil (λ log. Carries log plan); complete = p.complete };
  whole_complete = λ g plan w. record { plan_for = w.plan_for; complete = w.complete };
}
stack_laws b (log ∷ logs) ok =
    let top : WholeLaws (stack b logs) log = whole_laws (stack b logs) log ok.0 in
    let rest : StackLaws b logs = stack_laws b logs ok.1 in
    record {
      complete_whole = λ g plan p.
          let whole : Whole (stack b logs) log g plan = top.complete_whole g plan p in
          let down : WholeBelow b logs g plan = rest.complete_whole g plan (record { plan_for = whole.admitted.plan_for; complete = whole.complete }) in
          record {
            plan_for = down.plan_for;
            marks = marks_down b log logs plan whole.admitted.logged down.marks;
            carries = All-cons (λ l. Carries l plan) log logs whole.carries down.carries;
            complete = down.complete;
          };
      whole_complete = λ g plan w.
          let marks = marks_up b log logs plan w.marks in
          let inner = rest.whole_complete g plan (record { plan_for = w.plan_for; marks = marks.1; carries = All-tail (λ l. Carries l plan) log logs w.carries; complete = w.complete }) in
          top.whole_complete g plan (record { admitted = record { plan_for = inner.plan_for; logged = marks.0 }; carries = All-head (λ l. Carries l plan) log logs w.carries; complete = inner.complete });
    }
