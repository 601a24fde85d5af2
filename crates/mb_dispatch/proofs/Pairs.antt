-- Tasks with a value each, the first and the others.
use Rattle.std.proofs.Common.{◌≡◌, List, [], ◌∷◌, arith, length, subst}
use Rattle.std.specs.Prelude.{All}
use Rattle.std.specs.List.{AllZip}
use Rattle.std.proofs.lemmas.List.Elements.{All-cons, All-head, All-nil, All-tail}
use Rattle.mb_dispatch.specs.Paired.{pairs}

-- what holds of all pairs holds of the first and of the others
pub first-and-others : {T V : Type 0} (P : T × V → Type 0) (xs others : List T) (vs values : List V) (x : T) (v : V) → xs ≡ x ∷ others → vs ≡ v ∷ values
    → All P (pairs xs vs) → P (x, v) × All P (pairs others values)
first-and-others P xs others vs values x v tasks lent all =
    let both = subst (λ l. All P (pairs (x ∷ others) l)) lent (subst (λ l. All P (pairs l vs)) tasks all) in
    (All-head P (x, v) (pairs others values) both, All-tail P (x, v) (pairs others values) both)

module _ {T V : Type 0} (R : T × V → T × V → Type 0) where
  -- what holds of each pair holds of its first
  pub of-firsts : (Q : T → Type 0) → ((a b : T × V) → R a b → Q b.0) → (xs ys : List T) (vs ws : List V) → length xs ≡ length vs → length ys ≡ length xs
      → AllZip R (pairs xs vs) (pairs ys ws) → All Q ys
  of-firsts Q f xs [] vs ws lent same all = All-nil Q
  of-firsts Q f [] (y ∷ ys) vs ws lent same all = absurd (omega (arith, same))
  of-firsts Q f (x ∷ xs) (y ∷ ys) [] ws lent same all = absurd (omega (arith, lent))
  of-firsts Q f (x ∷ xs) (y ∷ ys) (v ∷ vs) [] lent same all = absurd all
  of-firsts Q f (x ∷ xs) (y ∷ ys) (v ∷ vs) (w ∷ ws) lent same all =
      All-cons Q y ys (f (x, v) (y, w) all.0) (of-firsts Q f xs ys vs ws (omega (arith, lent)) (omega (arith, same)) all.1)

  -- and so of the firsts before and after
  pub zip-firsts : (Q : T → T → Type 0) → ((a b : T × V) → R a b → Q a.0 b.0) → (xs ys : List T) (vs ws : List V) → length xs ≡ length vs
      → length ys ≡ length xs → AllZip R (pairs xs vs) (pairs ys ws) → AllZip Q xs ys
  zip-firsts Q f [] [] vs ws lent same all = tt
  zip-firsts Q f [] (y ∷ ys) vs ws lent same all = absurd (omega (arith, same))
  zip-firsts Q f (x ∷ xs) [] vs ws lent same all = absurd (omega (arith, same))
  zip-firsts Q f (x ∷ xs) (y ∷ ys) [] ws lent same all = absurd (omega (arith, lent))
  zip-firsts Q f (x ∷ xs) (y ∷ ys) (v ∷ vs) [] lent same all = absurd all
  zip-firsts Q f (x ∷ xs) (y ∷ ys) (v ∷ vs) (w ∷ ws) lent same all =
      (f (x, v) (y, w) all.0, zip-firsts Q f xs ys vs ws (omega (arith, lent)) (omega (arith, same)) all.1)
