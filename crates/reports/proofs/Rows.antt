-- The text of a row, item by item.
use Rattle.std.proofs.Common.{◌≡◌, ℕ, ◌+◌, ◌<◌, ◌≤◌, List, [], ◌∷◌, ◌++◌, length, get_or, take, Some, None, Ok, Option, Result, codes, refl, sym, ap, ◌∙◌, IsOk}
use Rattle.std.specs.Fmt.{◌++?◌, IsPlainFormatter, DisplaysOnOk}
use Rattle.std.specs.declared.fmt.Error.{Error}
use Rattle.std.specs.declared.fmt.Formatter.{Formatter}
use Rattle.std.proofs.Debugs.{Shows, shows_then, shows_from, displays_from}
use Rattle.std.proofs.Output.{then_text_assoc}
use Rattle.std.proofs.lemmas.List.{append-nil, take_all, take_more}
use Rattle.reports.specs.Words.{rest_text, row_text}

last : (o : Option (List ℕ)) → o ++? Some [] ≡ Some [] ++? o
last None = refl
last (Some a) = ap Some (append-nil a)

module _ {T : Type 0} (output : T → Option (List ℕ)) where
  rest_text-push : (xs : List T) (x : T) → rest_text output (xs ++ x ∷ []) ≡ rest_text output xs ++? (Some (codes " ") ++? output x)
  rest_text-push [] x = last (Some (codes " ") ++? output x)
  rest_text-push (y ∷ xs) x = ap (λ o. (Some (codes " ") ++? output y) ++? o) (rest_text-push xs x) ∙ sym (then_text_assoc (Some (codes " ") ++? output y) (rest_text output xs) (Some (codes " ") ++? output x))

  -- one item more was written
  pub shows_more : {W : Type 0} (took : W → List ℕ → W → Type 0) (f now next : Formatter W) (r : Result (Unit {0}) Error) (xs : List T) (i : ℕ) (x : T) → i < length xs → x ≡ get_or xs i x → Shows took f (rest_text output (take i xs)) now → DisplaysOnOk took now r (Some (codes " ") ++? output x) next → IsOk r → Shows took f (rest_text output (take (i + 1) xs)) next
  shows_more took f now next r xs i x within is so_far wrote ok =
      rw (take_more xs i x within, ← is, rest_text-push (take i xs) x)
      (shows_then took f now next (rest_text output (take i xs)) (Some (codes " ") ++? output x) so_far (λ plain. shows_from took now next r (Some (codes " ") ++? output x) wrote plain ok))

  -- the first item was written, and then all others
  pub shows_row : {W : Type 0} (took : W → List ℕ → W → Type 0) (f now last : Formatter W) (r : Result (Unit {0}) Error) (none : List ℕ) (row : List T) (x : T) (xs : List T) (i : ℕ) → row ≡ x ∷ xs → length xs ≤ i → DisplaysOnOk took f r (output x) now → IsOk r → (IsPlainFormatter now → Shows took now (rest_text output (take i xs)) last) → DisplaysOnOk took f (Ok tt) (row_text output none row) last
  shows_row took f now last r none row x xs i is whole wrote ok later =
      rw is (displays_from took f last (Ok tt) (output x ++? rest_text output xs) (λ plain _.
      shows_then took f now last (output x) (rest_text output xs) (shows_from took f now r (output x) wrote plain ok) (λ fine. rw (take_all i xs whole) at (later fine))))
