-- What a permutation keeps, and which lists of numbers in order are permutations of each other.
use Rattle.std.proofs.Common.{◌≡◌, ◌⊎◌, inl, inr, ℕ, zero, suc, ◌+◌, ◌<◌, ◌≤◌, ◌==◌, true, false, if◌then◌else◌, List, [], ◌∷◌, length, get_or, set, map}
use Rattle.std.proofs.Common.{sym, refl, ap, arith}
use Rattle.std.proofs.lemmas.Bool.Decides.{nat_tests}
use Rattle.std.specs.Prelude.{All, IsPermutation, flat_map, sum_by}
use Rattle.std.specs.List.{swap}
use Rattle.std.specs.List.Sorted.{IsNonDecreasingBy}
use Rattle.std.proofs.lemmas.List.Elements.{All-nil, All-cons, All-head, All-tail}
use Rattle.std.proofs.lemmas.List.Sorted.{IsPermutation-refl, IsPermutation-trans, IsPermutation-keeps, sum_by-IsPermutation}
use Rattle.std.proofs.lemmas.List.Sums.{sum_by-cons}
use Rattle.mb_pool.specs.Places.{numbers}
use Rattle.mb_pool.proofs.Lists.{behind, past}

-- lists in another order, joined element by element
module _ {X A : Type 0} (f : X → List A) where
  turn : (x y : X) (xs : List X) → IsPermutation (flat_map f (x ∷ y ∷ xs)) (flat_map f (y ∷ x ∷ xs))
  turn x y xs = past (f x) (f y) (flat_map f xs)

  skip : (x : X) (xs ys : List X) → IsPermutation (flat_map f xs) (flat_map f ys) → IsPermutation (flat_map f (x ∷ xs)) (flat_map f (x ∷ ys))
  skip x xs ys h = behind (f x) (flat_map f xs) (flat_map f ys) h

  to_head : (l : List X) (j : ℕ) (x d : X) → j < length l → IsPermutation (flat_map f (x ∷ l)) (flat_map f (get_or l j d ∷ set l j x))
  to_head [] j x d h = absurd (omega (arith, h))
  to_head (y ∷ l) zero x d h = turn x y l
  to_head (y ∷ l) (suc j) x d h =
      IsPermutation-trans _ _ _ (turn x y l) (IsPermutation-trans _ _ _
      (skip y (x ∷ l) (get_or l j d ∷ set l j x) (to_head l j x d (omega (arith, h)))) (turn y (get_or l j d) (set l j x)))

  exchanged : (l : List X) (i j : ℕ) (d : X) → i < length l → j < length l →
      IsPermutation (flat_map f l) (flat_map f (set (set l i (get_or l j d)) j (get_or l i d)))
  exchanged [] i j d p q = absurd (omega (arith, p))
  exchanged (x ∷ l) zero zero d p q = IsPermutation-refl (flat_map f (x ∷ l))
  exchanged (x ∷ l) zero (suc j) d p q = to_head l j x d (omega (arith, q))
  exchanged (x ∷ l) (suc i) zero d p q = to_head l i x d (omega (arith, p))
  exchanged (x ∷ l) (suc i) (suc j) d p q =
      skip x l (set (set l i (get_or l j d)) j (get_or l i d)) (exchanged l i j d (omega (arith, p)) (omega (arith, q)))

  swapped : (l : List X) (i j : ℕ) → i < length l → j < length l → IsPermutation (flat_map f l) (flat_map f (swap l i j))
  swapped [] i j p q = absurd (omega (arith, p))
  swapped (x ∷ l) i j p q = exchanged (x ∷ l) i j x p q

  pub joined_in_order : (xs ys : List X) → IsPermutation xs ys → IsPermutation (flat_map f xs) (flat_map f ys)
  joined_in_order xs = IsPermutation-keeps xs (λ l. IsPermutation (flat_map f xs) (flat_map f l)) (IsPermutation-refl (flat_map f xs))
      (λ l i j p q h. IsPermutation-trans (flat_map f xs) (flat_map f l) (flat_map f (swap l i j)) h (swapped l i j p q))

-- how often a number stands in a list
abbrev one_if : ℕ → ℕ → ℕ
one_if k x = if x == k then 1 else 0

abbrev often : ℕ → List ℕ → ℕ
often k xs = sum_by (one_if k) xs

counts_self : (k : ℕ) → one_if k k ≡ 1
counts_self k = let same : (k == k) ≡ true = grind (arith, nat_tests) in ap (λ b. if b then 1 else 0) same

counts_other : (k x : ℕ) → k < x → one_if k x ≡ 0
counts_other k x less = let apart : (x == k) ≡ false = grind (arith, nat_tests) in ap (λ b. if b then 1 else 0) apart

-- a number below all of a list is not in it
none_above : (k : ℕ) (xs : List ℕ) → All (λ x. k < x) xs → often k xs ≡ 0
none_above k [] all = refl
none_above k (x ∷ xs) all =
    let a = sum_by-cons (one_if k) x xs in let b = counts_other k x (All-head (λ y. k < y) x xs all) in
    let c = none_above k xs (All-tail (λ y. k < y) x xs all) in omega (arith, a, b, c)

numbers_from : (k first count : ℕ) → k < first → All (λ x. k < x) (numbers first count)
numbers_from k first zero less = All-nil (λ x. k < x)
numbers_from k first (suc count) less = All-cons (λ x. k < x) first (numbers (first + 1) count) less (numbers_from k (first + 1) count (omega (arith, less)))

-- the numbers of a list do not fall
abbrev IsRising : List ℕ → Type 0
IsRising [] = Unit {0}
IsRising (x ∷ xs) = All (λ y. x ≤ y) xs × IsRising xs

above : (k x : ℕ) (xs : List ℕ) → k < x → All (λ y. x ≤ y) xs → All (λ y. k < y) xs
above k x [] less all = All-nil (λ y. k < y)
above k x (y ∷ xs) less all =
    let here : x ≤ y = All-head (λ z. x ≤ z) y xs all in
    All-cons (λ z. k < z) y xs (omega (arith, here, less)) (above k x xs less (All-tail (λ z. x ≤ z) y xs all))

order : (m n : ℕ) → (m < n) ⊎ ((n < m) ⊎ (m ≡ n))
order zero zero = inr (inr refl)
order zero (suc n) = inl (omega arith)
order (suc m) zero = inr (inl (omega arith))
order (suc m) (suc n) = next (order m n)
  where
    next : (m < n) ⊎ ((n < m) ⊎ (m ≡ n)) → (suc m < suc n) ⊎ ((suc n < suc m) ⊎ (suc m ≡ suc n))
    next (inl less) = inl (omega (arith, less))
    next (inr (inl more)) = inr (inl (omega (arith, more)))
    next (inr (inr one)) = inr (inr (ap suc one))

-- a rising list with each number as often as these numbers in order is these numbers
in_order : (first count : ℕ) (ks : List ℕ) → ((k : ℕ) → often k ks ≡ often k (numbers first count)) → IsRising ks → ks ≡ numbers first count
in_order first zero [] same rising = refl
in_order first (suc count) [] same rising =
    let a = same first in let b = sum_by-cons (one_if first) first (numbers (first + 1) count) in let c = counts_self first in absurd (omega (arith, a, b, c))
in_order first zero (x ∷ ks) same rising =
    let a = same x in let b = sum_by-cons (one_if x) x ks in let c = counts_self x in absurd (omega (arith, a, b, c))
in_order first (suc count) (x ∷ ks) same rising =
    by_order (order x first) (λ h. in_order (first + 1) count ks h rising.1)
  where
    by_order : (x < first) ⊎ ((first < x) ⊎ (x ≡ first)) → (((k : ℕ) → often k ks ≡ often k (numbers (first + 1) count)) → ks ≡ numbers (first + 1) count) →
        x ∷ ks ≡ numbers first (suc count)
    by_order (inl less) next =
        let a = same x in let b = sum_by-cons (one_if x) x ks in let c = counts_self x in
        let d = none_above x (numbers first (suc count)) (numbers_from x first (suc count) less) in absurd (omega (arith, a, b, c, d))
    by_order (inr (inl more)) next =
        let a = same first in let b = sum_by-cons (one_if first) first (numbers (first + 1) count) in let c = counts_self first in
        let d = none_above first (x ∷ ks) (All-cons (λ y. first < y) x ks more (above first x ks more rising.0)) in absurd (omega (arith, a, b, c, d))
    by_order (inr (inr one)) next =
        let rest : (k : ℕ) → often k ks ≡ often k (numbers (first + 1) count) =
        λ k. (let a = same k in let b = sum_by-cons (one_if k) x ks in let c = sum_by-cons (one_if k) first (numbers (first + 1) count) in
        let d : one_if k x ≡ one_if k first = ap (one_if k) one in omega (arith, a, b, c, d)) in
        (λ i. one i ∷ next rest i)

rises : {X : Type 0} (key : X → ℕ) (xs : List X) → IsNonDecreasingBy key xs → IsRising (map key xs)
rises {X} key [] h = tt
rises {X} key (x ∷ xs) h = (least xs (λ j d less. h 0 (suc j) d (omega arith) (omega (arith, less))), rises key xs (λ i j d le less. h (suc i) (suc j) d (omega (arith, le)) (omega (arith, less))))
  where
    least : (ys : List X) → ((j : ℕ) (d : X) → j < length ys → key x ≤ key (get_or ys j d)) → All (λ y. key x ≤ y) (map key ys)
    least [] all = All-nil (λ y. key x ≤ y)
    least (y ∷ ys) all = All-cons (λ z. key x ≤ z) (key y) (map key ys) (all 0 y (omega arith)) (least ys (λ j d less. all (suc j) d (omega (arith, less))))

-- keys in order that are these numbers in any order are these numbers
pub keys_in_order : {X : Type 0} (key : X → ℕ) (xs : List X) (first count : ℕ) → IsPermutation (map key xs) (numbers first count) → IsNonDecreasingBy key xs →
    map key xs ≡ numbers first count
keys_in_order key xs first count same rising =
    in_order first count (map key xs) (λ k. sym (sum_by-IsPermutation (one_if k) (map key xs) (numbers first count) same)) (rises key xs rising)
