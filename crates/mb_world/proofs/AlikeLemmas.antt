-- Lists that are compared item by item.
use Rattle.std.proofs.Common.{◌≡◌, ℕ, ◌+◌, ◌<◌, ◌≤◌, List, [], ◌∷◌, ◌++◌, length, get_or, map, take, reverse, refl, sym, ap, subst, ◌∙◌, arith, take_all}
use Rattle.std.specs.Prelude.{Some, slice_get}
use Rattle.std.specs.List.{All, Contains}
use Rattle.std.proofs.lemmas.List.{length-reverse, reverse-reverse, take_more}
use Rattle.std.proofs.lemmas.List.Elements.{All-push}
use Rattle.std.proofs.lemmas.Option.{get_or_from_slice_get, slice_get_within}

-- one item more is the same
pub take-same : {X : Type 0} (xs ys : List X) (n : ℕ) (x y : X) → n < length xs → n < length ys → x ≡ get_or xs n x → y ≡ get_or ys n y →
    take n xs ≡ take n ys → x ≡ y → take (n + 1) xs ≡ take (n + 1) ys
take-same xs ys n x y low high is_x is_y same e =
    take_more xs n x low
    ∙ ap (λ z. take n xs ++ z ∷ []) (sym is_x ∙ e ∙ is_y)
    ∙ ap (λ l. l ++ get_or ys n y ∷ []) same
    ∙ sym (take_more ys n y high)

-- the same, of items that are there
pub some-same : {X : Type 0} (xs ys : List X) (n : ℕ) (x y : X) → slice_get xs n ≡ Some x → slice_get ys n ≡ Some y → take n xs ≡ take n ys → x ≡ y →
    take (n + 1) xs ≡ take (n + 1) ys
some-same xs ys n x y is_x is_y same e =
    take-same xs ys n x y (slice_get_within xs n x is_x) (slice_get_within ys n y is_y) (sym (get_or_from_slice_get xs n x x is_x))
    (sym (get_or_from_slice_get ys n y y is_y)) same e

-- all items are the same
pub all-same : {X : Type 0} (xs ys : List X) (n : ℕ) → length xs ≤ n → length ys ≤ n → take n xs ≡ take n ys → xs ≡ ys
all-same xs ys n low high same = sym (take_all n xs low) ∙ same ∙ take_all n ys high

-- the same items in the other order are the same
pub reversed-same : {X : Type 0} (xs ys : List X) (n : ℕ) → length xs ≤ n → length ys ≤ n → take n (reverse xs) ≡ take n (reverse ys) → xs ≡ ys
reversed-same xs ys n low high same =
    let long = length-reverse xs in let other = length-reverse ys in
    sym (reverse-reverse xs)
    ∙ ap reverse (all-same (reverse xs) (reverse ys) n (omega (arith, long, low)) (omega (arith, other, high)) same)
    ∙ reverse-reverse ys

-- one item more is among others
pub among-more : {X : Type 0} (xs ys : List X) (n : ℕ) (x : X) → n < length xs → x ≡ get_or xs n x → All (Contains ys) (take n xs) → Contains ys x →
    All (Contains ys) (take (n + 1) xs)
among-more xs ys n x within is all there =
    subst (All (Contains ys)) (ap (λ z. take n xs ++ z ∷ []) is ∙ sym (take_more xs n x within)) (All-push (Contains ys) (take n xs) x all there)

-- the whole of each item
pub map-whole : {X : Type 0} (xs : List X) → map (λ (x : X). x) xs ≡ xs
map-whole [] = refl
map-whole (x ∷ xs) = ap (λ l. x ∷ l) (map-whole xs)
