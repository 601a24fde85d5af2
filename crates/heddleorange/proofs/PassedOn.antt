-- What is known where an error is passed on.
use Rattle.std.proofs.Common.{◌≡◌, sym, ap, subst}
use Rattle.std.specs.Prelude.{◌↔◌, Err, IfOk, IsErrAnd, Ok, OnErr, Result}

module _ {T E : Type 0} where
  -- nothing is owed of what went well
  pub none-of-err : (P : T → Type 0) (r : Result T E) (e : E) → IsErrAnd r (λ y. y ≡ e) → IfOk r P
  none-of-err P (Ok x) e passed = absurd passed
  none-of-err P (Err y) e passed = tt

  is-err : (r : Result T E) (e : E) → IsErrAnd r (λ y. y ≡ e) → r ≡ Err e
  is-err (Ok x) e is = absurd is
  is-err (Err y) e is = ap Err is

  -- what holds anyway
  pub unchanged : {P : Type 0} (r : Result T E) (e : E) → IsErrAnd r (λ y. y ≡ e) → P → OnErr r P
  unchanged {P} r e passed p = subst (λ (q : Result T E). OnErr q P) (sym (is-err r e passed)) p

  -- when the error is this one is known of the step that failed
  pub same-error : {S : Type 0} (X : Type 0) (step : Result S E) (r : Result T E) (e x : E) → step ≡ Err e → IsErrAnd r (λ y. y ≡ e)
      → ((step ≡ Err x) ↔ X) → ((r ≡ Err x) ↔ X)
  same-error X step r e x was passed says =
      let is = is-err r e passed in (λ (q : r ≡ Err x). says.0 (cc), λ (it : X). let there = says.1 it in cc)
