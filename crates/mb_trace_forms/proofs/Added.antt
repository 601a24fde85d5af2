-- Lists to which the elements of another list, or what they give, are added one after another.
use Rattle.std.proofs.Common.{◌≡◌, ℕ, ◌+◌, ◌++◌, ◌<◌, Bool, true, false, cond, List, [], ◌∷◌, length, take, map, get_or, ap, append_assoc, sym, ◌∙◌}
use Rattle.std.specs.Prelude.{filter}
use Rattle.std.specs.List.{flat_map}
use Rattle.std.proofs.lemmas.Grind.{flat_map-append}
use Rattle.std.proofs.lemmas.List.{append-nil, map-append, take_more}
use Rattle.std.proofs.lemmas.List.Elements.{filter_more}

-- what one more element gives
pub given-more : {X A : Type 0} (f : X → List A) (xs : List X) (i : ℕ) (x : X) (old mid new : List A) → i < length xs → x ≡ get_or xs i x →
    mid ≡ old ++ flat_map f (take i xs) → new ≡ mid ++ f x → new ≡ old ++ flat_map f (take (i + 1) xs)
given-more f xs i x old mid new within is so_far more =
    let last : f x ≡ flat_map f (get_or xs i x ∷ []) = ap f is ∙ sym (append-nil (f (get_or xs i x))) in
    more
    ∙ ((λ j. so_far j ++ last j)
    ∙ (append_assoc old (flat_map f (take i xs)) (flat_map f (get_or xs i x ∷ []))
    ∙ (ap (λ l. old ++ l) (sym (flat_map-append f (take i xs) (get_or xs i x ∷ [])))
    ∙ ap (λ l. old ++ flat_map f l) (sym (take_more xs i x within)))))

module _ {X Y : Type 0} (g : X → Y) (p : X → Bool) (xs : List X) (i : ℕ) (d : X) (within : i < length xs) (old mid : List Y)
    (so_far : mid ≡ old ++ map g (filter p (take i xs))) where
  opened : (b : Bool) → p (get_or xs i d) ≡ b →
      old ++ map g (filter p (take i xs)) ++ map g (cond b (get_or xs i d ∷ []) []) ≡ old ++ map g (filter p (take (i + 1) xs))
  opened b is =
      append_assoc old (map g (filter p (take i xs))) (map g (cond b (get_or xs i d ∷ []) []))
      ∙ (ap (λ l. old ++ l) (sym (map-append g (filter p (take i xs)) (cond b (get_or xs i d ∷ []) [])))
      ∙ (ap (λ c. old ++ map g (filter p (take i xs) ++ cond c (get_or xs i d ∷ []) [])) (sym is)
      ∙ ap (λ l. old ++ map g l) (sym (filter_more p xs i d within))))

  -- one more that passes
  pub kept-more : (new : List Y) → p (get_or xs i d) ≡ true → new ≡ mid ++ g (get_or xs i d) ∷ [] →
      new ≡ old ++ map g (filter p (take (i + 1) xs))
  kept-more new passes more = more ∙ (ap (λ l. l ++ g (get_or xs i d) ∷ []) so_far ∙ opened true passes)

  -- one that does not
  pub kept-same : p (get_or xs i d) ≡ false → mid ≡ old ++ map g (filter p (take (i + 1) xs))
  kept-same out = so_far ∙ (sym (append-nil (old ++ map g (filter p (take i xs)))) ∙ opened false out)
