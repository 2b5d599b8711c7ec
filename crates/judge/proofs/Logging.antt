-- Every marked action of a list is in the log exactly when every action of the list may run.
use Rattle.std.proofs.Common.{◌≡◌, ◌↔◌, IsTrue, ℕ, Bool, true, eqb, List, get_or, sym, refl, ◌∙◌, subst}
use Rattle.std.specs.List.{list_all}
use Rattle.std.proofs.lemmas.Bool.{eq-eqb, eqb-true}
use Rattle.std.proofs.lemmas.List.Folds.{Any-from_list_any, list_any_at}
use Rattle.std.proofs.lemmas.List.Sums.{AllPass-from_list_all, list_all-from_AllPass}
use Rattle.domain.specs.Meaning.{Meaning}
use Rattle.plans.specs.Counting.{may_run}
use Rattle.plans.specs.Logs.{Logged}
use Rattle.plans.proofs.Marks.{may_logged, logged_may}

module _ (d : Meaning) (log : List ℕ) where
  abbrev may : ℕ → Bool
  may a = may_run log a (d.marked a)

  all_may : (list : List ℕ) → Logged d log list → list_all may list ≡ true
  all_may list logged = list_all-from_AllPass may list (λ k e l.
      let a = get_or list k e in
      logged_may log a (d.marked a) (logged a (list_any_at (λ x. eqb x a) list k e l (eq-eqb a a refl))))

  may_all : (list : List ℕ) → list_all may list ≡ true → Logged d log list
  may_all list all a o m =
      let at = Any-from_list_any (λ x. eqb x a) list o in
      let here = at.3 ∙ eqb-true at.1 a at.4 in
      may_logged log a (d.marked a) (subst (λ x. may x ≡ true) here (AllPass-from_list_all may list all at.0 at.1 at.2)) m

  pub all_logged : (list : List ℕ) (r : Bool) → r ≡ list_all may list → IsTrue r ↔ Logged d log list
  all_logged list r asked = ((λ t. may_all list (sym asked ∙ t)), (λ logged. asked ∙ all_may list logged))
