-- A list that was lent as a slice.
use Rattle.std.proofs.Common.{◌≡◌, ℕ, List, [], ◌∷◌, ◌++◌, length, take, drop, refl, sym, ap, ◌∙◌}

module _ {X : Type 0} where
  take_front : (ys zs : List X) → take (length ys) (ys ++ zs) ≡ ys
  take_front [] zs = refl
  take_front (y ∷ ys) zs = ap (λ l. y ∷ l) (take_front ys zs)

  -- the list when the slice comes back, as long as it was
  pub refilled : (count : ℕ) (old new : List X) → length new ≡ count → take count (new ++ drop (length new) old) ≡ new
  refilled count old new e = ap (λ (n : ℕ). take n (new ++ drop (length new) old)) (sym e) ∙ take_front new (drop (length new) old)
