-- Lists whose elements look the same in one way.
use Rattle.std.proofs.Common.{◌≡◌, List, [], ◌∷◌, length, map, refl, sym, ap, ◌∙◌, subst}
use Rattle.std.specs.Prelude.{All}
use Rattle.std.proofs.lemmas.List.{length-map}
use Rattle.std.proofs.lemmas.List.Elements.{All-cons, All-head, All-map, All-nil, All-tail}

module _ {X Y : Type 0} (f : X → Y) where
  -- what holds of how each looks holds of each
  pub from-looks : (P : Y → Type 0) (xs : List X) → All P (map f xs) → All (λ x. P (f x)) xs
  from-looks P [] all = All-nil (λ x. P (f x))
  from-looks P (x ∷ xs) all =
      All-cons (λ x. P (f x)) x xs (All-head P (f x) (map f xs) all) (from-looks P xs (All-tail P (f x) (map f xs) all))

  pub all-alike : (P : Y → Type 0) (xs ys : List X) → map f xs ≡ map f ys → All (λ y. P (f y)) ys → All (λ x. P (f x)) xs
  all-alike P xs ys same all = from-looks P xs (subst (All P) (sym same) (All-map P f ys all))

  -- two looks, one after the other
  pub twice : {Z : Type 0} (g : Y → Z) (xs : List X) → map g (map f xs) ≡ map (λ x. g (f x)) xs
  twice g [] = refl
  twice g (x ∷ xs) = ap (λ l. g (f x) ∷ l) (twice g xs)

  pub look-alike : {Z : Type 0} (g : Y → Z) (xs ys : List X) → map f xs ≡ map f ys → map (λ x. g (f x)) xs ≡ map (λ x. g (f x)) ys
  look-alike g xs ys same = sym (twice g xs) ∙ ap (map g) same ∙ twice g ys

  -- lists that look the same are as long
  pub as-long : (xs ys : List X) → map f xs ≡ map f ys → length xs ≡ length ys
  as-long xs ys same = sym (length-map xs f) ∙ ap length same ∙ length-map ys f
