-- What an accepted step tells of the steps in it.
use Rattle.std.proofs.Common.{◌≡◌, ℕ, Bool, true, false, cond, Ok, Err, Result, refl, arith}
use Rattle.files.specs.Reading.{and_then, known_as}

module _ {E : Type 0} where
  pub ok_same : {X : Type 0} (x y : X) → ◌≡◌ {A = Result X E} (Ok x) (Ok y) → x ≡ y
  ok_same x y e = cc

  pub ok_or_err : {X C : Type 0} (x : X) (f : E) → ◌≡◌ {A = Result X E} (Err f) (Ok x) → C
  ok_or_err x f e = let z : ◌≡◌ {A = ℕ} 0 1 = cc in absurd (omega arith)

  -- where a test decides between going on and a refusal
  pub passed : {X : Type 0} (b : Bool) (r : Result X E) (f : E) (y : X) → cond b r (Err f) ≡ Ok y → (b ≡ true) × (r ≡ Ok y)
  passed true r f y e = (refl, e)
  passed false r f y e = ok_or_err y f e

  -- where one step follows another, and where what it gave is told in other words
  pub then_ok : {X Y : Type 0} (r : Result X E) (f : X → Result Y E) (y : Y) → and_then r f ≡ Ok y → (x : X) × (r ≡ Ok x) × (f x ≡ Ok y)
  then_ok (Ok x) f y e = (x, refl, e)
  then_ok (Err g) f y e = ok_or_err y g e

  pub known_ok : {X Y : Type 0} (words : X → Y) (r : Result X E) (y : Y) → known_as words r ≡ Ok y → (x : X) × (r ≡ Ok x) × (words x ≡ y)
  known_ok words (Ok x) y e = (x, refl, ok_same _ y e)
  known_ok words (Err f) y e = ok_or_err y f e
