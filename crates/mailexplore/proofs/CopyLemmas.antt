-- Lists that are copied item by item.
use Rattle.std.proofs.Common.{◌≡◌, ℕ, ◌+◌, ◌<◌, ◌≤◌, List, [], ◌∷◌, ◌++◌, length, get_or, map, take, sym, ap, ◌∙◌, take_all}
use Rattle.std.proofs.lemmas.List.{map-append, take_more}

-- one item more, of which a part is the same
pub copied_more : {X Y : Type 0} (f : X → Y) (copies xs : List X) (place : ℕ) (copy d : X) → place < length xs → map f copies ≡ map f (take place xs) →
    f copy ≡ f (get_or xs place d) → map f (copies ++ copy ∷ []) ≡ map f (take (place + 1) xs)
copied_more f copies xs place copy d within same is =
    map-append f copies (copy ∷ [])
    ∙ ap (λ l. l ++ f copy ∷ []) same
    ∙ ap (λ y. map f (take place xs) ++ y ∷ []) is
    ∙ sym (map-append f (take place xs) (get_or xs place d ∷ []))
    ∙ sym (ap (map f) (take_more xs place d within))

-- the same, of whole items
pub whole_more : {X : Type 0} (copies xs : List X) (place : ℕ) (copy d : X) → place < length xs → copies ≡ take place xs → copy ≡ get_or xs place d →
    copies ++ copy ∷ [] ≡ take (place + 1) xs
whole_more copies xs place copy d within same is =
    ap (λ l. l ++ copy ∷ []) same ∙ ap (λ y. take place xs ++ y ∷ []) is ∙ sym (take_more xs place d within)

-- all items
pub copied_all : {X Y : Type 0} (f : X → Y) (copies xs : List X) (place : ℕ) → length xs ≤ place → map f copies ≡ map f (take place xs) →
    map f copies ≡ map f xs
copied_all f copies xs place all same = same ∙ ap (map f) (take_all place xs all)
