-- Sums over places, and sums of weights over lists.
use Rattle.std.proofs.Common.{◌≡◌, ◌==◌, ℕ, zero, suc, ◌+◌, ◌<◌, ◌≤◌, Bool, true, false, cond, List, [], ◌∷◌, length, filter, refl, sym, ap, ◌∙◌}
use Rattle.std.proofs.Common.{arith, Some, count_by}
use Rattle.std.specs.Prelude.{All, nat_lt, slice_get, sum_by}
use Rattle.std.specs.List.{flat_map}
use Rattle.std.proofs.lemmas.Bool.Decides.{nat_tests}
use Rattle.std.proofs.lemmas.List.Elements.{All-head, All-tail}
use Rattle.std.proofs.lemmas.List.Sums.{sum_by-append, sum_by-cons}

-- the sum of these numbers, from place 0 on
abbrev pub total : ℕ → (ℕ → ℕ) → ℕ
total zero at = 0
total (suc n) at = at 0 + total n (λ k. at (suc k))

pub total-same : (n : ℕ) (f g : ℕ → ℕ) → ((k : ℕ) → k < n → f k ≡ g k) → total n f ≡ total n g
total-same zero f g same = refl
total-same (suc n) f g same =
    let first = same 0 (omega arith) in
    let rest = total-same n (λ k. f (suc k)) (λ k. g (suc k)) (λ k lt. same (suc k) (omega (arith, lt))) in omega (arith, first, rest)

pub total-none : (n : ℕ) → total n (λ k. 0) ≡ 0
total-none zero = refl
total-none (suc n) = let rest = total-none n in omega (arith, rest)

pub total-plus : (n : ℕ) (f g : ℕ → ℕ) → total n (λ k. f k + g k) ≡ total n f + total n g
total-plus zero f g = refl
total-plus (suc n) f g = let rest = total-plus n (λ k. f (suc k)) (λ k. g (suc k)) in omega (arith, rest)

pub total-swap : (m n : ℕ) (f : ℕ → ℕ → ℕ) → total m (λ i. total n (f i)) ≡ total n (λ j. total m (λ i. f i j))
total-swap zero n f = sym (total-none n)
total-swap (suc m) n f =
    ap (λ t. total n (f 0) + t) (total-swap m n (λ i. f (suc i))) ∙ sym (total-plus n (f 0) (λ j. total m (λ i. f (suc i) j)))

pub total-split : (m n : ℕ) (f : ℕ → ℕ) → total (m + n) f ≡ total m f + total n (λ k. f (m + k))
total-split zero n f =
    let count : 0 + n ≡ n = omega arith in
    let places = total-same n f (λ k. f (0 + k)) (λ k lt. ap f (let e : k ≡ 0 + k = omega arith in e)) in
    ap (λ k. total k f) count ∙ (omega (arith, places))
total-split (suc m) n f =
    let split = total-split m n (λ k. f (suc k)) in
    let count : suc m + n ≡ suc (m + n) = omega arith in
    let places = total-same n (λ k. f (suc (m + k))) (λ k. f (suc m + k)) (λ k lt. ap f (let e : suc (m + k) ≡ suc m + k = omega arith in e)) in
    ap (λ k. total k f) count ∙ (omega (arith, split, places))

-- of all places one alone has this
pub total-one : (n place w : ℕ) (test : ℕ → Bool) → place < n → test place ≡ true → ((k : ℕ) → k < n → test k ≡ true → k ≡ place)
    → total n (λ k. cond (test k) w 0) ≡ w
total-one zero place w test lt is one = absurd (omega (arith, lt))
total-one (suc n) zero w test lt is one =
    ap (λ b. cond b w 0 + total n (λ k. cond (test (suc k)) w 0)) is
    ∙ (let none = total-same n (λ k. cond (test (suc k)) w 0) (λ k. 0) (λ k less. other k less (test (suc k)) refl) in
    let nothing = total-none n in omega (arith, none, nothing))
  where
    other : (k : ℕ) → k < n → (b : Bool) → test (suc k) ≡ b → cond b w 0 ≡ 0
    other k less true holds = absurd (let e = one (suc k) (omega (arith, less)) holds in omega (arith, e))
    other k less false holds = refl
total-one (suc n) (suc place) w test lt is one =
    let none = first (test 0) refl in
    let rest = total-one n place w (λ k. test (suc k)) (omega (arith, lt)) is
    (λ k less holds. (let e = one (suc k) (omega (arith, less)) holds in omega (arith, e))) in omega (arith, none, rest)
  where
    first : (b : Bool) → test 0 ≡ b → cond b w 0 ≡ 0
    first true holds = absurd (let e = one 0 (omega arith) holds in omega (arith, e))
    first false holds = refl

module _ {X : Type 0} where
  -- a list, place by place
  pub total-list : (f : X → ℕ) (xs : List X) (at : ℕ → ℕ) → ((k : ℕ) (x : X) → slice_get xs k ≡ Some x → at k ≡ f x)
      → total (length xs) at ≡ sum_by f xs
  total-list f [] at is = refl
  total-list f (x ∷ xs) at is =
      let first = is 0 x refl in let rest = total-list f xs (λ k. at (suc k)) (λ k y here. is (suc k) y here) in
      let all = sum_by-cons f x xs in omega (arith, first, rest, all)

  pub sum-same : (f g : X → ℕ) → ((x : X) → f x ≡ g x) → (xs : List X) → sum_by f xs ≡ sum_by g xs
  sum-same f g same xs = λ i. sum_by (λ x. same x i) xs

  pub sum-plus : (f g : X → ℕ) (xs : List X) → sum_by (λ x. f x + g x) xs ≡ sum_by f xs + sum_by g xs
  sum-plus f g [] = refl
  sum-plus f g (x ∷ xs) =
      let a = sum_by-cons (λ y. f y + g y) x xs in let b = sum_by-cons f x xs in let c = sum_by-cons g x xs in
      let rest = sum-plus f g xs in omega (arith, a, b, c, rest)

  pub sum-none : (xs : List X) → sum_by (λ (x : X). 0) xs ≡ 0
  sum-none [] = refl
  sum-none (x ∷ xs) = let all = sum_by-cons (λ (y : X). 0) x xs in let rest = sum-none xs in omega (arith, all, rest)

  pub sum-filter : (f : X → ℕ) (test : X → Bool) (x : X) (xs : List X)
      → sum_by f (filter test (x ∷ xs)) ≡ cond (test x) (f x) 0 + sum_by f (filter test xs)
  sum-filter f test x xs = by_test (test x)
    where
      by_test : (b : Bool) → sum_by f (cond b (x ∷ filter test xs) (filter test xs)) ≡ cond b (f x) 0 + sum_by f (filter test xs)
      by_test true = sum_by-cons f x (filter test xs)
      by_test false = omega arith

  pub sum-flat : {Y : Type 0} (f : X → ℕ) (of : Y → List X) (ys : List Y) → sum_by f (flat_map of ys) ≡ sum_by (λ y. sum_by f (of y)) ys
  sum-flat f of [] = refl
  sum-flat f of (y ∷ ys) =
      let a = sum_by-append f (of y) (flat_map of ys) in let rest = sum-flat f of ys in
      let b = sum_by-cons (λ z. sum_by f (of z)) y ys in omega (arith, a, b, rest)

  -- a list in parts: each element is in the part of the one number that is its own
  pub in-parts : (f key : X → ℕ) (m : ℕ) (number : ℕ → ℕ) → ((p q : ℕ) → p < m → q < m → number p ≡ number q → p ≡ q) → (xs : List X)
      → All (λ x. (p : ℕ) × (p < m) × (key x ≡ number p)) xs → sum_by f xs ≡ total m (λ p. sum_by f (filter (λ x. key x == number p) xs))
  in-parts f key m number apart [] each = sym (total-none m)
  in-parts f key m number apart (x ∷ xs) each =
      let here = All-head (λ x. (p : ℕ) × (p < m) × (key x ≡ number p)) x xs each in
      let rest = in-parts f key m number apart xs (All-tail (λ x. (p : ℕ) × (p < m) × (key x ≡ number p)) x xs each) in
      let one = total-one m here.0 (f x) (λ p. key x == number p) here.1 (same-number (key x) (number here.0) here.2)
      (λ k lt holds. apart k here.0 lt here.1 (sym (number-same (key x) (number k) holds) ∙ here.2)) in
      let both = total-plus m (λ p. cond (key x == number p) (f x) 0) (λ p. sum_by f (filter (λ y. key y == number p) xs)) in
      let split = total-same m (λ p. sum_by f (filter (λ y. key y == number p) (x ∷ xs)))
      (λ p. cond (key x == number p) (f x) 0 + sum_by f (filter (λ y. key y == number p) xs))
      (λ p lt. sum-filter f (λ y. key y == number p) x xs) in
      let all = sum_by-cons f x xs in omega (arith, rest, one, both, split, all)
    where
      same-number : (a b : ℕ) → a ≡ b → (a == b) ≡ true
      same-number a b same = grind (arith, nat_tests)

      number-same : (a b : ℕ) → (a == b) ≡ true → a ≡ b
      number-same a b is = grind (arith, nat_tests)

-- a weight, but no more than the most
abbrev capped : ℕ → ℕ → ℕ
capped zero w = 0
capped (suc most) w = capped most w + cond (nat_lt most w) 1 0

capped-below : (most w : ℕ) → most ≤ w → capped most w ≡ most
capped-below zero w le = refl
capped-below (suc most) w le =
    let rest = capped-below most w (omega (arith, le)) in
    let less : nat_lt most w ≡ true = grind (arith, nat_tests) in
    let more = ap (λ (b : Bool). cond {A = ℕ} b 1 0) less in omega (arith, rest, more)

capped-above : (most w : ℕ) → w ≤ most → capped most w ≡ w
capped-above zero w le = omega (arith, le)
capped-above (suc most) w le = by_test (nat_lt most w) refl (capped-above most w)
  where
    by_test : (b : Bool) → nat_lt most w ≡ b → (w ≤ most → capped most w ≡ w) → capped most w + cond b 1 0 ≡ w
    by_test true less before =
        let lt : most < w = grind (arith, nat_tests) in let rest = capped-below most w (omega (arith, lt)) in omega (arith, rest, le, lt)
    by_test false more before = let not_less : w ≤ most = grind (arith, nat_tests) in let rest = before not_less in omega (arith, rest)

module _ {X : Type 0} (f : X → ℕ) where
  uncapped : (most : ℕ) (xs : List X) → sum_by f xs ≤ most → sum_by (λ x. capped most (f x)) xs ≡ sum_by f xs
  uncapped most [] le = refl
  uncapped most (x ∷ xs) le =
      let all = sum_by-cons f x xs in let small = sum_by-cons (λ y. capped most (f y)) x xs in
      let first = capped-above most (f x) (omega (arith, all, le)) in let rest = uncapped most xs (omega (arith, all, le)) in
      omega (arith, all, small, first, rest)

  module _ (xs ys zs : List X) (as_often : (test : X → Bool) → count_by test xs ≡ count_by test ys + count_by test zs) where
    capped-sums : (most : ℕ) → sum_by (λ x. capped most (f x)) xs ≡ sum_by (λ x. capped most (f x)) ys + sum_by (λ x. capped most (f x)) zs
    capped-sums zero = let a = sum-none xs in let b = sum-none ys in let c = sum-none zs in omega (arith, a, b, c)
    capped-sums (suc most) =
        let above = λ (x : X). cond (nat_lt most (f x)) 1 0 in let below = λ (x : X). capped most (f x) in
        let a = sum-plus below above xs in let b = sum-plus below above ys in let c = sum-plus below above zs in
        let rest = capped-sums most in let more = as_often (λ x. nat_lt most (f x)) in omega (arith, a, b, c, rest, more)

    -- lists of which each test passes as many weigh as much
    pub weigh-the-same : sum_by f xs ≡ sum_by f ys + sum_by f zs
    weigh-the-same =
        let most = sum_by f xs + (sum_by f ys + sum_by f zs) in
        let a = uncapped most xs (omega arith) in let b = uncapped most ys (omega arith) in let c = uncapped most zs (omega arith) in
        let all = capped-sums most in omega (arith, a, b, c, all)
