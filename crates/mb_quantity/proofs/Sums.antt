-- Sums of what things are worth.
use Rattle.std.proofs.Common.{◌≡◌, ℤ, ◌+ℤ◌, List, [], ◌∷◌, ◌++◌, sym, ap, ◌∙◌}
use Rattle.std.proofs.Math.IntN.{+ℤ_assoc, +ℤ_idl}
use Rattle.mb_quantity.specs.Quantity.{sum_of}

pub sum-append : {X : Type 0} (worth : X → ℤ) (xs ys : List X) → sum_of worth (xs ++ ys) ≡ sum_of worth xs +ℤ sum_of worth ys
sum-append worth [] ys = sym (+ℤ_idl (sum_of worth ys))
sum-append worth (x ∷ xs) ys =
    ap (λ n. worth x +ℤ n) (sum-append worth xs ys) ∙ sym (+ℤ_assoc (worth x) (sum_of worth xs) (sum_of worth ys))
