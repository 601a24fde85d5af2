-- Lists of which one item is set.
use Rattle.std.proofs.Common.{◌≡◌, ◌≢◌, ℕ, zero, suc, ◌+◌, List, [], ◌∷◌, ◌++◌, length, get_or, refl, sym, ap, subst, ◌∙◌, arith}
use Rattle.std.specs.Prelude.{Some, slice_get, slice_set}
use Rattle.std.specs.List.{All, AllPairs}
use Rattle.std.proofs.lemmas.List.{get_or_append_left, get_or-append-add, length-append, length-set, set-set}
use Rattle.std.proofs.lemmas.List.Elements.{All-get_or, All-head, All-set}
use Rattle.std.proofs.lemmas.Option.{get_or_from_slice_get, slice_get_within}

pub All-left : {X : Type 0} (P : X → Type 0) (xs ys : List X) → All P (xs ++ ys) → All P xs
All-left P xs ys all k d lt = let long = length-append xs ys in subst P (get_or_append_left xs ys d k lt) (all k d (omega (arith, long, lt)))

All-right : {X : Type 0} (P : X → Type 0) (xs ys : List X) → All P (xs ++ ys) → All P ys
All-right P xs ys all k d lt =
    let long = length-append xs ys in subst P (get_or-append-add xs ys k d) (all (length xs + k) d (omega (arith, long, lt)))

pub All-last : {X : Type 0} (P : X → Type 0) (xs : List X) (x : X) → All P (xs ++ x ∷ []) → P x
All-last P xs x all = All-head P x [] (All-right P xs (x ∷ []) all)

-- what is there is set to what it is
pub set-there : {X : Type 0} (l : List X) (i : ℕ) (x : X) → slice_get l i ≡ Some x → slice_set l i x ≡ l
set-there [] i x is = refl
set-there (y ∷ l) zero x is = let same : y ≡ x = cc in ap (λ z. z ∷ l) (sym same)
set-there (y ∷ l) (suc i) x is = ap (λ z. y ∷ z) (set-there l i x is)

pub there-set : {X : Type 0} (l : List X) (i : ℕ) (x y : X) → slice_get l i ≡ Some x → slice_get (slice_set l i y) i ≡ Some y
there-set [] i x y is = absurd (cc is)
there-set (z ∷ l) zero x y is = refl
there-set (z ∷ l) (suc i) x y is = there-set l i x y is

-- what holds of all holds of what is there
pub All-there : {X : Type 0} (P : X → Type 0) (xs : List X) (i : ℕ) (x : X) → slice_get xs i ≡ Some x → All P xs → P x
All-there P xs i x is all = subst P (get_or_from_slice_get xs i x x is) (All-get_or P xs i x (slice_get_within xs i x is) all)

-- before one was set
pub All-unset : {X : Type 0} (P : X → Type 0) (xs : List X) (i : ℕ) (x y : X) → slice_get xs i ≡ Some x → P x → All P (slice_set xs i y) → All P xs
All-unset P xs i x y is here all =
    subst (All P) (set-set xs i y x ∙ set-there xs i x is) (All-set P (slice_set xs i y) i x here all)

-- the firsts of pairs, where one is set to another with the same first
first-set : {X Y : Type 0} (l : List (X × Y)) (i : ℕ) (x y : X × Y) → slice_get l i ≡ Some x → y.0 ≡ x.0 → (k : ℕ) (d : X × Y) →
    (get_or (slice_set l i y) k d).0 ≡ (get_or l k d).0
first-set [] i x y is same k d = refl
first-set (z ∷ l) zero x y is same zero d = let e : z ≡ x = cc in same ∙ ap (λ w. w.0) (sym e)
first-set (z ∷ l) zero x y is same (suc k) d = refl
first-set (z ∷ l) (suc i) x y is same zero d = refl
first-set (z ∷ l) (suc i) x y is same (suc k) d = first-set l i x y is same k d

pub firsts-differ : {X Y : Type 0} (l : List (X × Y)) (i : ℕ) (x y : X × Y) → slice_get l i ≡ Some x → y.0 ≡ x.0 →
    AllPairs (λ (f g : X × Y). f.0 ≢ g.0) l → AllPairs (λ (f g : X × Y). f.0 ≢ g.0) (slice_set l i y)
firsts-differ l i x y is same once j k d lt within e =
    let long = length-set l i y in
    once j k d lt (omega (arith, long, within)) (sym (first-set l i x y is same j d) ∙ e ∙ first-set l i x y is same k d)
