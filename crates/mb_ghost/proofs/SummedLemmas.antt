-- What changes what all seats have done.
use Rattle.std.proofs.Common.{◌≡◌, ℕ, zero, suc, ◌+◌, List, [], ◌∷◌, ◌++◌, set, sym, ap, arith}
use mathlib.Core.Option.{some, some-ne-none, some-injective}
use lib.ListN.{get_elem?}
use Rattle.mb_ghost.specs.Summed.{total}

module _ {A : Type 0} (f : A → ℕ) where
  pub total_append : (xs ys : List A) → total f (xs ++ ys) ≡ total f xs + total f ys
  total_append [] ys = omega arith
  total_append (x ∷ xs) ys = let rest = total_append xs ys in omega arith

  -- one view changes
  pub total_set : (vs : List A) (id : ℕ) (v w : A) → get_elem? vs id ≡ some v → total f (set vs id w) + f v ≡ total f vs + f w
  total_set [] id v w at = absurd (some-ne-none v (sym at))
  total_set (x ∷ xs) zero v w at = let same = ap f (some-injective x v at) in omega arith
  total_set (x ∷ xs) (suc id) v w at = let rest = total_set xs id v w at in omega arith

  -- and not in this
  pub total_stays : (vs : List A) (id : ℕ) (v w : A) → get_elem? vs id ≡ some v → f w ≡ f v → total f (set vs id w) ≡ total f vs
  total_stays vs id v w at same = let sum = total_set vs id v w at in omega arith

  -- a view is cut in two, and each has a part
  pub total_splits : (vs : List A) (id : ℕ) (v left right : A) → get_elem? vs id ≡ some v → f left + f right ≡ f v → total f (set vs id left ++
      right ∷ []) ≡ total f vs
  total_splits vs id v left right at same =
      let sum = total_set vs id v left at in let more = total_append (set vs id left) (right ∷ []) in omega arith

  -- a seat takes over what another has done
  pub total_joins : (vs : List A) (id other : ℕ) (v w both spent : A) → get_elem? vs id ≡ some v → get_elem? (set vs id both) other ≡ some w
      → f both + f spent ≡ f v + f w → total f (set (set vs id both) other spent) ≡ total f vs
  total_joins vs id other v w both spent at there same =
      let first = total_set vs id v both at in let second = total_set (set vs id both) other w spent there in omega arith
