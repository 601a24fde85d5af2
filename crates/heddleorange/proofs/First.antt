-- The first element that passes a test.
use Rattle.std.proofs.Common.{◌≡◌, ℕ, zero, suc, ◌+◌, ◌≤◌, Bool, true, false, cond, List, [], ◌∷◌, None, Some, map, refl, sym, ap, ◌∙◌, subst, arith}
use Rattle.std.proofs.lemmas.Option.{none-some, same_Some}
use Rattle.std.specs.Prelude.{◌||◌, slice_get}
use Rattle.std.specs.List.{list_any, position_from}

-- none passes where none is found
not-behind : {X : Type 0} (test : X → Bool) (i : ℕ) (xs : List X) → (position_from test (i + 1) xs ≡ None → list_any test xs ≡ false) → (b : Bool)
    → cond b (Some i) (position_from test (i + 1) xs) ≡ None → (b || list_any test xs) ≡ false
not-behind test i xs later true is = absurd (none-some i (sym is))
not-behind test i xs later false is = later is

pub none-found : {X : Type 0} (test : X → Bool) (i : ℕ) (xs : List X) → position_from test i xs ≡ None → list_any test xs ≡ false
none-found test i [] is = refl
none-found test i (x ∷ xs) is = not-behind test i xs (none-found test (i + 1) xs) (test x) is

-- one passes where one is found
any-behind : {X : Type 0} (test : X → Bool) (i k : ℕ) (xs : List X) → (position_from test (i + 1) xs ≡ Some k → list_any test xs ≡ true) → (b : Bool)
    → cond b (Some i) (position_from test (i + 1) xs) ≡ Some k → (b || list_any test xs) ≡ true
any-behind test i k xs later true is = refl
any-behind test i k xs later false is = later is

pub first-any : {X : Type 0} (test : X → Bool) (i : ℕ) (xs : List X) (k : ℕ) → position_from test i xs ≡ Some k → list_any test xs ≡ true
first-any test i [] k is = absurd (none-some k is)
first-any test i (x ∷ xs) k is = any-behind test i k xs (first-any test (i + 1) xs k) (test x) is

-- it is no earlier than where the search began
later-than : {X : Type 0} (test : X → Bool) (i k : ℕ) (xs : List X) → (position_from test (i + 1) xs ≡ Some k → i + 1 ≤ k) → (b : Bool)
    → cond b (Some i) (position_from test (i + 1) xs) ≡ Some k → i ≤ k
later-than test i k xs later true is = let same = same_Some i k is in omega (arith, same)
later-than test i k xs later false is = let le = later is in omega (arith, le)

from-there : {X : Type 0} (test : X → Bool) (i : ℕ) (xs : List X) (k : ℕ) → position_from test i xs ≡ Some k → i ≤ k
from-there test i [] k is = absurd (none-some k is)
from-there test i (x ∷ xs) k is = later-than test i k xs (from-there test (i + 1) xs k) (test x) is

-- what is found passes
first-one : {X : Type 0} (test : X → Bool) (i : ℕ) (y : X) (ys : List X) (b : Bool) → test y ≡ b
    → cond b (Some i) (position_from test (i + 1) ys) ≡ Some (i + 0) → test y ≡ true
first-one test i y ys true passes is = passes
first-one test i y ys false fails is = absurd (let later = from-there test (i + 1) ys (i + 0) is in omega (arith, later))

later-one : {X : Type 0} (test : X → Bool) (i n : ℕ) (ys : List X) (x : X) → (position_from test (i + 1) ys ≡ Some (i + 1 + n) → test x ≡ true)
    → (b : Bool) → cond b (Some i) (position_from test (i + 1) ys) ≡ Some (i + suc n) → test x ≡ true
later-one test i n ys x later true is = absurd (let same = same_Some i (i + suc n) is in omega (arith, same))
later-one test i n ys x later false is = let at : i + suc n ≡ i + 1 + n = omega arith in later (is ∙ ap Some at)

found-passes : {X : Type 0} (test : X → Bool) (i : ℕ) (xs : List X) (n : ℕ) (x : X) → position_from test i xs ≡ Some (i + n) → slice_get xs n ≡ Some x
    → test x ≡ true
found-passes test i [] n x is here = absurd (none-some x here)
found-passes test i (y ∷ ys) zero x is here = subst (λ z. test z ≡ true) (same_Some y x here) (first-one test i y ys (test y) refl is)
found-passes test i (y ∷ ys) (suc n) x is here =
    later-one test i n ys x (λ found. found-passes test (i + 1) ys n x found here) (test y) is

pub first-passes : {X : Type 0} (test : X → Bool) (xs : List X) (n : ℕ) (x : X) → position_from test 0 xs ≡ Some n → slice_get xs n ≡ Some x → test x ≡ true
first-passes test xs n x is here = let at : n ≡ 0 + n = omega arith in found-passes test 0 xs n x (is ∙ ap Some at) here

-- and so in a mapped list
pub first-mapped : {X Y : Type 0} (test : Y → Bool) (f : X → Y) (i : ℕ) (xs : List X)
    → position_from test i (map f xs) ≡ position_from (λ x. test (f x)) i xs
first-mapped test f i [] = refl
first-mapped test f i (x ∷ xs) = ap (λ r. cond (test (f x)) (Some i) r) (first-mapped test f (i + 1) xs)
