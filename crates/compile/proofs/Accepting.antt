-- What is known of a card and a log of which all questions are answered yes.
use Rattle.std.proofs.Common.{◌≡◌, ℕ, ◌+◌, ◌<◌, ◌≤◌, true, leb, ltb, List, length, get_or, Ok, Err, Result, sym, refl, ap, ◌∙◌, subst, arith}
use Rattle.std.specs.List.{list_all}
use Rattle.std.proofs.lemmas.Bool.{leb-true, ltb-true}
use Rattle.std.proofs.lemmas.List.Sums.{AllPass-from_list_all}
use Rattle.domain.specs.declared.fault.LogFault.{LogFault}
use Rattle.domain.specs.declared.fault.LogFault.TheVariants.{Action, Full}
use Rattle.files.proofs.Outcomes.{passed}
use Rattle.cards.specs.Contents.{Contents}
use Rattle.logs.specs.Reading.{read_log}
use Rattle.compile.specs.Questions.{fitting, then_fitting, accepted_log, Fits}
use Rattle.compile.specs.declared.fault.CompileFault.TheVariants.{Fluents, Actions, Goals}

log_ok : (bytes log : List ℕ) (n : ℕ) → read_log bytes n ≡ Ok log → (log ≡ bytes) × (length bytes ≤ 20) × (list_all (λ a. ltb a n) bytes ≡ true)
log_ok bytes log n h =
    let few = passed (leb (length bytes) 20) _ Full log h in
    let below = passed (list_all (λ a. ltb a n) bytes) (Ok bytes) Action log few.1 in
    ((cc below.1), leb-true (length bytes) 20 few.0, below.0)

read_first : (c : Contents) (r : Result (List ℕ) LogFault) (log : List ℕ) → then_fitting c r ≡ Ok log → (read : List ℕ) × (r ≡ Ok read) × (fitting c read ≡ Ok log)
read_first c (Ok read) log h = (read, refl, h)
read_first c (Err e) log h = absurd cc

pub accepted_fits : (c : Contents) (bytes log : List ℕ) → accepted_log c bytes ≡ Ok log → Fits c log × (log ≡ bytes)
accepted_fits c bytes log h =
    let first = read_first c (read_log bytes (length c.actions)) log h in
    let read = first.0 in
    let told = log_ok bytes read (length c.actions) first.1 in
    let fluents = passed (leb (c.fluents + length read) 55) _ Fluents log first.2 in
    let actions = passed (leb (length c.actions + length read) 120) _ Actions log fluents.1 in
    let goals = passed (leb (length c.goals + length c.goals) 32) (Ok read) Goals log actions.1 in
    let same : read ≡ log = cc goals.1 in
    let few : length read ≤ 20 = omega (arith, ap length told.0, told.1) in
    let fits : Fits c read = record {
      few = few;
      entries_below = λ j l. subst (λ xs. j < length xs → get_or xs j 0 < length c.actions) (sym told.0) (λ h. ltb-true _ _ (AllPass-from_list_all (λ a. ltb a (length c.actions)) bytes told.2 j 0 h)) l;
      fluents_high = leb-true (c.fluents + length read) 55 fluents.0;
      actions_high = leb-true (length c.actions + length read) 120 actions.0;
      goals_high = leb-true (length c.goals + length c.goals) 32 goals.0;
    } in
    (subst (Fits c) same fits, sym same ∙ told.0)
