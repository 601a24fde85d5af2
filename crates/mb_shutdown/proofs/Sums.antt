-- What a view that took over others has is what each of them has, added up.
use Rattle.std.proofs.Common.{◌≡◌, ℕ, ◌+◌, ◌-◌, ◌^◌, List, [], ◌∷◌, ◌++◌, map, refl, sym, ap, ◌∙◌, arith}
use Rattle.std.specs.Prelude.{IsPermutation, sum_by}
use Rattle.std.specs.List.{flat_map}
use Rattle.std.proofs.lemmas.List.Sorted.{sum_by-IsPermutation}
use Rattle.std.proofs.lemmas.List.Sums.{sum_by-cons}
use Rattle.mb_gate.specs.View.{Observation, Release, View, taking_over}
use Rattle.mb_ghost.specs.Shares.{FitsIn, IsWhole}
use Rattle.mb_ghost.specs.Summed.{total}
use Rattle.mb_ghost.proofs.SummedLemmas.{total_append}

module _ {X : Type 0} (f : X → ℕ) where
  as-sum : (xs : List X) → total f xs ≡ sum_by f xs
  as-sum [] = refl
  as-sum (x ∷ xs) = ap (λ n. f x + n) (as-sum xs) ∙ sym (sum_by-cons f x xs)

  -- a sum does not depend on the order
  pub total-permuted : (xs ys : List X) → IsPermutation xs ys → total f ys ≡ total f xs
  total-permuted xs ys same = as-sum ys ∙ sum_by-IsPermutation f xs ys same ∙ sym (as-sum xs)

-- the sum over lists in a row
pub total-flat : {X Y : Type 0} (part : ℕ → ℕ) (items : Y → List ℕ) (view : X → Y) (xs : List X)
    → total part (flat_map (λ (x : X). items (view x)) xs) ≡ total (λ (y : Y). total part (items y)) (map view xs)
total-flat part items view [] = refl
total-flat {X} part items view (x ∷ xs) =
    total_append part (items (view x)) (flat_map (λ (z : X). items (view z)) xs)
    ∙ ap (λ n. total part (items (view x)) + n) (total-flat part items view xs)

-- ---- shares

-- parts fit where none is too small
none-over : (e : ℕ) (share : List ℕ) → FitsIn e share → total (λ d. d - e) share ≡ 0
none-over e [] fits = refl
none-over e (d ∷ ds) fits = let one = fits.0 in let rest = none-over e ds fits.1 in omega (arith, one, rest)

all-fit : (e : ℕ) (share : List ℕ) → total (λ d. d - e) share ≡ 0 → FitsIn e share
all-fit e [] none = tt
all-fit e (d ∷ ds) none = ((omega (arith, none)), all-fit e ds (omega (arith, none)))

-- where all sums are the same, one share is the whole if the other is
pub whole-alike : (share other : List ℕ) → ((part : ℕ → ℕ) → total part share ≡ total part other) → IsWhole other → IsWhole share
whole-alike share other same whole e fits =
    same (λ d. 2 ^ (e - d)) ∙ whole e (all-fit e other (sym (same (λ d. d - e)) ∙ none-over e share fits))

-- ---- what is taken over

-- the view has what all of these have
pub record HasAll (views : List View) (v : View) : Type 0 where
  pub share : (part : ℕ → ℕ) → total part v.share ≡ total (λ (w : View). total part w.share) views
  pub log : (part : Observation → ℕ) → total part v.log ≡ total (λ (w : View). total part w.log) views
  pub releases : (part : Release → ℕ) → total part v.releases ≡ total (λ (w : View). total part w.releases) views

alone : (n : ℕ) → n ≡ n + 0
alone n = omega arith

pub all-of-one : (v : View) → HasAll (v ∷ []) v
all-of-one v = record {
  share = λ part. alone (total part v.share);
  log = λ part. alone (total part v.log);
  releases = λ part. alone (total part v.releases);
}

module _ {X : Type 0} (items : View → List X) where
  one-more : (views : List View) (v w : View) (new : List X) → new ≡ items w ++ items v
      → ((part : X → ℕ) → total part (items v) ≡ total (λ (u : View). total part (items u)) views)
      → (part : X → ℕ) → total part new ≡ total (λ (u : View). total part (items u)) (views ++ w ∷ [])
  one-more views v w new is all part =
      let both : total part new ≡ total part (items w) + total part (items v) = ap (total part) is ∙ total_append part (items w) (items v) in
      let before = all part in
      let after = total_append (λ (u : View). total part (items u)) views (w ∷ []) in
      omega (arith, both, before, after)

pub all-of-more : (views : List View) (v w new : View) → new ≡ taking_over v w → HasAll views v → HasAll (views ++ w ∷ []) new
all-of-more views v w new is all = record {
  share = one-more (λ (u : View). u.share) views v w new.share (ap (λ (u : View). u.share) is) all.share;
  log = one-more (λ (u : View). u.log) views v w new.log (ap (λ (u : View). u.log) is) all.log;
  releases = one-more (λ (u : View). u.releases) views v w new.releases (ap (λ (u : View). u.releases) is) all.releases;
}

pub all-of-permuted : (views others : List View) (v : View) → IsPermutation views others → HasAll views v → HasAll others v
all-of-permuted views others v same all = record {
  share = λ part. all.share part ∙ sym (total-permuted (λ (w : View). total part w.share) views others same);
  log = λ part. all.log part ∙ sym (total-permuted (λ (w : View). total part w.log) views others same);
  releases = λ part. all.releases part ∙ sym (total-permuted (λ (w : View). total part w.releases) views others same);
}
