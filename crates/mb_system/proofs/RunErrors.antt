-- What a call answers that passes an error on by `?`.
use Rattle.std.proofs.Common.{◌≡◌, Err, ap, subst, sym, ◌∙◌}
use Rattle.std.specs.Prelude.{IfErr, IsErrAnd, IsErrOf, OnErr, Result}
use Rattle.std.proofs.lemmas.Result.{err_from_is_err_and}
use Rattle.mb_system.specs.declared.failure.RunError.{RunError}
use Rattle.mb_system.specs.declared.failure.RunError.TheVariants.{NoMemory}

module _ {T : Type 0} (result : Result T RunError) where
  -- what holds of the error that it passes on
  pub on-error : (P : RunError → Type 0) (passed : RunError) → IsErrAnd result (λ error. error ≡ passed) → P passed → IfErr result P
  on-error P passed failed p =
      let q = err_from_is_err_and result failed in
      subst (λ (r : Result T RunError). IfErr r P) (sym q.1) (subst P (sym q.2) p)

  -- that is `NoMemory`
  pub no-memory : IsErrAnd result (λ error. error ≡ NoMemory) → OnErr result (IsErrOf result NoMemory)
  no-memory failed =
      let q = err_from_is_err_and result failed in
      let is : result ≡ Err NoMemory = q.1 ∙ ap Err q.2 in
      subst (λ (r : Result T RunError). OnErr r (IsErrOf result NoMemory)) (sym is) is
