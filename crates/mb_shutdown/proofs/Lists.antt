-- Lists, place by place.
use Rattle.std.proofs.Common.{◌≡◌, ◌⊎◌, inl, inr, ℕ, zero, suc, ◌+◌, ◌<◌, List, [], ◌∷◌, ◌++◌, length, map, refl, sym, ap, ◌∙◌, subst}
use Rattle.std.proofs.Common.{arith, Some}
use Rattle.std.specs.Prelude.{All, option_map, slice_get}
use Rattle.std.proofs.lemmas.List.Elements.{All-nil, All-cons, All-head, All-tail}
use Rattle.std.proofs.lemmas.Option.{none-some, same_Some, slice_get-map}

module _ {X : Type 0} where
  -- what holds of each holds at a place
  pub at-place : (P : X → Type 0) (xs : List X) (i : ℕ) (x : X) → All P xs → slice_get xs i ≡ Some x → P x
  at-place P [] i x all is = absurd (none-some x is)
  at-place P (y ∷ xs) zero x all is = subst P (same_Some y x is) (All-head P y xs all)
  at-place P (y ∷ xs) (suc i) x all is = at-place P xs i x (All-tail P y xs all) is

  -- what holds at each place holds of each
  pub each-place : (P : X → Type 0) (xs : List X) → ((i : ℕ) (x : X) → slice_get xs i ≡ Some x → P x) → All P xs
  each-place P [] each = All-nil P
  each-place P (x ∷ xs) each = All-cons P x xs (each zero x refl) (each-place P xs (λ i y is. each (suc i) y is))

  -- a place within the list is one of something
  pub there : (xs : List X) (i : ℕ) → i < length xs → (x : X) × (slice_get xs i ≡ Some x)
  there [] i lt = absurd (omega (arith, lt))
  there (x ∷ xs) zero lt = (x, refl)
  there (x ∷ xs) (suc i) lt = there xs i (omega (arith, lt))

  pub within : (xs : List X) (i : ℕ) (x : X) → slice_get xs i ≡ Some x → i < length xs
  within [] i x is = absurd (none-some x is)
  within (y ∷ xs) zero x is = omega arith
  within (y ∷ xs) (suc i) x is = let lt = within xs i x is in omega (arith, lt)

  -- a place of two lists in a row is one of the first or of the second
  pub in-either : (xs ys : List X) (i : ℕ) (x : X) → slice_get (xs ++ ys) i ≡ Some x
      → ((i < length xs) × (slice_get xs i ≡ Some x)) ⊎ ((j : ℕ) × (i ≡ length xs + j) × (slice_get ys j ≡ Some x))
  in-either [] ys i x is = inr (i, omega arith, is)
  in-either (y ∷ xs) ys zero x is = inl (omega arith, is)
  in-either (y ∷ xs) ys (suc i) x is = more (in-either xs ys i x is)
    where
      more : ((i < length xs) × (slice_get xs i ≡ Some x)) ⊎ ((j : ℕ) × (i ≡ length xs + j) × (slice_get ys j ≡ Some x))
          → ((suc i < length (y ∷ xs)) × (slice_get (y ∷ xs) (suc i) ≡ Some x))
          ⊎ ((j : ℕ) × (suc i ≡ length (y ∷ xs) + j) × (slice_get ys j ≡ Some x))
      more (inl first) = inl (let lt = first.0 in omega (arith, lt), first.1)
      more (inr second) = inr (second.0, (let e = second.1 in omega (arith, e)), second.2)

  pub in-first : (xs ys : List X) (i : ℕ) (x : X) → slice_get xs i ≡ Some x → slice_get (xs ++ ys) i ≡ Some x
  in-first [] ys i x is = absurd (none-some x is)
  in-first (y ∷ xs) ys zero x is = is
  in-first (y ∷ xs) ys (suc i) x is = in-first xs ys i x is

  pub in-second : (xs ys : List X) (i j : ℕ) (x : X) → i ≡ length xs + j → slice_get ys j ≡ Some x → slice_get (xs ++ ys) i ≡ Some x
  in-second [] ys i j x e is = subst (λ n. slice_get ys n ≡ Some x) (let f : i ≡ j = omega (arith, e) in sym f) is
  in-second (y ∷ xs) ys zero j x e is = absurd (omega (arith, e))
  in-second (y ∷ xs) ys (suc i) j x e is = in-second xs ys i j x (omega (arith, e)) is

module _ {X Y : Type 0} where
  -- an element of a list and what it became
  pub mapped : (f : X → Y) (xs : List X) (i : ℕ) (x : X) → slice_get xs i ≡ Some x → slice_get (map f xs) i ≡ Some (f x)
  mapped f xs i x is = slice_get-map f xs i ∙ ap (option_map f) is

  pub mapped-to : (f : X → Y) (xs : List X) (ys : List Y) (i : ℕ) (x : X) → map f xs ≡ ys → slice_get xs i ≡ Some x → slice_get ys i ≡ Some (f x)
  mapped-to f xs ys i x same is = ap (λ l. slice_get l i) (sym same) ∙ mapped f xs i x is

  pub from-mapped : (f : X → Y) (xs : List X) (i : ℕ) (y : Y) → slice_get (map f xs) i ≡ Some y → (x : X) × (slice_get xs i ≡ Some x) × (f x ≡ y)
  from-mapped f [] i y is = absurd (none-some y is)
  from-mapped f (x ∷ xs) zero y is = (x, refl, same_Some (f x) y is)
  from-mapped f (x ∷ xs) (suc i) y is = from-mapped f xs i y is

  pub length-mapped : (f : X → Y) (xs : List X) → length (map f xs) ≡ length xs
  length-mapped f [] = refl
  length-mapped f (x ∷ xs) = ap suc (length-mapped f xs)

  -- where there is one at each place, there is a list of them
  pub choose : (R : ℕ → X → Y → Type 0) (xs : List X) → ((i : ℕ) (x : X) → slice_get xs i ≡ Some x → (y : Y) × R i x y)
      → (ys : List Y) × (length ys ≡ length xs)
      × ((i : ℕ) (x : X) (y : Y) → slice_get xs i ≡ Some x → slice_get ys i ≡ Some y → R i x y)
  choose R [] each = ([], refl, λ i x y is there. absurd (none-some x is))
  choose R (x ∷ xs) each =
      let first = each zero x refl in
      let rest = choose (λ i. R (suc i)) xs (λ i y is. each (suc i) y is) in
      (first.0 ∷ rest.0, ap suc rest.1, at_each first.0 first.1 rest.0 rest.2)
    where
      at_each : (y : Y) → R zero x y → (ys : List Y)
          → ((i : ℕ) (x : X) (y : Y) → slice_get xs i ≡ Some x → slice_get ys i ≡ Some y → R (suc i) x y)
          → (i : ℕ) (z : X) (w : Y) → slice_get (x ∷ xs) i ≡ Some z → slice_get (y ∷ ys) i ≡ Some w → R i z w
      at_each y r ys all zero z w is found = subst (λ (p : X × Y). R zero p.0 p.1) (λ j. (same_Some x z is j, same_Some y w found j)) r
      at_each y r ys all (suc i) z w is found = all i z w is found

  -- a list became one that has what each element became
  pub became : (f : X → Y) (xs : List X) (ys : List Y) → length xs ≡ length ys
      → ((i : ℕ) (x : X) (y : Y) → slice_get xs i ≡ Some x → slice_get ys i ≡ Some y → f x ≡ y) → map f xs ≡ ys
  became f [] [] many each = refl
  became f [] (y ∷ ys) many each = absurd (omega (arith, many))
  became f (x ∷ xs) [] many each = absurd (omega (arith, many))
  became f (x ∷ xs) (y ∷ ys) many each =
      ap (λ z. z ∷ map f xs) (each zero x y refl refl)
      ∙ ap (λ l. y ∷ l) (became f xs ys (omega (arith, many)) (λ i z w is found. each (suc i) z w is found))

module _ {X Y Z : Type 0} where
  -- two lists that became the same have the same at each place
  pub alike : (f : X → Z) (g : Y → Z) (xs : List X) (ys : List Y) (i : ℕ) (x : X) (y : Y) → map f xs ≡ map g ys → slice_get xs i ≡ Some x
      → slice_get ys i ≡ Some y → f x ≡ g y
  alike f g xs ys i x y same is found =
      same_Some (f x) (g y) (sym (mapped f xs i x is) ∙ ap (λ l. slice_get l i) same ∙ mapped g ys i y found)

  -- lists of one length become the same where each element does
  pub same-maps : (f : X → Z) (g : Y → Z) (xs : List X) (ys : List Y) → length xs ≡ length ys
      → ((i : ℕ) (x : X) (y : Y) → slice_get xs i ≡ Some x → slice_get ys i ≡ Some y → f x ≡ g y) → map f xs ≡ map g ys
  same-maps f g [] [] many each = refl
  same-maps f g [] (y ∷ ys) many each = absurd (omega (arith, many))
  same-maps f g (x ∷ xs) [] many each = absurd (omega (arith, many))
  same-maps f g (x ∷ xs) (y ∷ ys) many each =
      ap (λ z. z ∷ map f xs) (each zero x y refl refl)
      ∙ ap (λ l. g y ∷ l) (same-maps f g xs ys (omega (arith, many)) (λ i z w is found. each (suc i) z w is found))
