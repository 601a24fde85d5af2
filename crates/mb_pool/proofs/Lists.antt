-- On the views of all ports: one of them beside the others.
use Rattle.std.proofs.Common.{◌≡◌, ◌≢◌, ℕ, zero, suc, ◌+◌, List, [], ◌∷◌, ◌++◌, set, sym, refl, ap, subst, append_assoc}
use Rattle.std.proofs.Common.{arith}
use Rattle.std.specs.Prelude.{IsPermutation, flat_map, sum_by, All}
use Rattle.std.proofs.lemmas.List.Sorted.{IsPermutation-refl, IsPermutation-trans, IsPermutation-append}
use Rattle.std.proofs.lemmas.List.Sorted.{IsPermutation-append_comm, All-permutation}
use Rattle.std.proofs.lemmas.List.Sums.{sum_by-cons}
use Rattle.std.proofs.lemmas.List.Elements.{All-nil, All-cons, All-head, All-tail}
use mathlib.Core.Option.{some, some-ne-none, some-injective}
use lib.ListN.{get_elem?}

module _ {X : Type 0} where
  pub same_elements : (xs ys : List X) → xs ≡ ys → IsPermutation xs ys
  same_elements xs ys e = subst (IsPermutation xs) e (IsPermutation-refl xs)

  pub from_left : (xs ys zs : List X) → xs ≡ ys → IsPermutation ys zs → IsPermutation xs zs
  from_left xs ys zs e h = subst (λ l. IsPermutation l zs) (sym e) h

  pub behind : (a b c : List X) → IsPermutation b c → IsPermutation (a ++ b) (a ++ c)
  behind a b c h = IsPermutation-append a a b c (IsPermutation-refl a) h

  pub before : (a b c : List X) → IsPermutation a b → IsPermutation (a ++ c) (b ++ c)
  before a b c h = IsPermutation-append a b c c h (IsPermutation-refl c)

  -- the first two may be exchanged
  pub past : (a b c : List X) → IsPermutation (a ++ (b ++ c)) (b ++ (a ++ c))
  past a b c = from_left (a ++ (b ++ c)) ((a ++ b) ++ c) (b ++ (a ++ c)) (sym (append_assoc a b c))
      (IsPermutation-trans ((a ++ b) ++ c) ((b ++ a) ++ c) (b ++ (a ++ c)) (before (a ++ b) (b ++ a) c (IsPermutation-append_comm a b))
      (same_elements ((b ++ a) ++ c) (b ++ (a ++ c)) (append_assoc b a c)))

  -- one in the middle may be put last
  pub to_end : (a b : List X) (x : X) → IsPermutation ((a ++ x ∷ []) ++ b) ((a ++ b) ++ x ∷ [])
  to_end a b x = from_left ((a ++ x ∷ []) ++ b) (a ++ (x ∷ [] ++ b)) ((a ++ b) ++ x ∷ []) (append_assoc a (x ∷ []) b)
      (IsPermutation-trans (a ++ (x ∷ [] ++ b)) (a ++ (b ++ x ∷ [])) ((a ++ b) ++ x ∷ [])
      (behind a (x ∷ [] ++ b) (b ++ x ∷ []) (IsPermutation-append_comm (x ∷ []) b))
      (same_elements (a ++ (b ++ x ∷ [])) ((a ++ b) ++ x ∷ []) (sym (append_assoc a b (x ∷ [])))))

  pub nothing_more : (ys : List X) → IsPermutation [] ys → ys ≡ []
  nothing_more [] h = refl
  nothing_more (y ∷ ys) h = absurd (All-permutation (λ _. ⊥) [] (y ∷ ys) h (All-nil (λ _. ⊥)) 0 y (omega arith))

module _ {V : Type 0} where
  -- all but one
  abbrev pub others : ℕ → List V → List V
  others p [] = []
  others zero (x ∷ l) = l
  others (suc p) (x ∷ l) = x ∷ others p l

  pub set_same : (l : List V) (p : ℕ) (v : V) → get_elem? l p ≡ some v → set l p v ≡ l
  set_same [] p v at = absurd (some-ne-none v (sym at))
  set_same (x ∷ l) zero v at = ap (λ y. y ∷ l) (sym (some-injective x v at))
  set_same (x ∷ l) (suc p) v at = ap (λ r. x ∷ r) (set_same l p v at)

  pub set_swap : (l : List V) (p q : ℕ) (v w : V) → p ≢ q → set (set l p v) q w ≡ set (set l q w) p v
  set_swap [] p q v w ne = refl
  set_swap (x ∷ l) zero zero v w ne = absurd (ne refl)
  set_swap (x ∷ l) zero (suc q) v w ne = refl
  set_swap (x ∷ l) (suc p) zero v w ne = refl
  set_swap (x ∷ l) (suc p) (suc q) v w ne = ap (λ r. x ∷ r) (set_swap l p q v w (λ e. ne (ap suc e)))

  pub get_other : (l : List V) (p q : ℕ) (w : V) → p ≢ q → get_elem? (set l q w) p ≡ get_elem? l p
  get_other [] p q w ne = refl
  get_other (x ∷ l) zero zero w ne = absurd (ne refl)
  get_other (x ∷ l) zero (suc q) w ne = refl
  get_other (x ∷ l) (suc p) zero w ne = refl
  get_other (x ∷ l) (suc p) (suc q) w ne = get_other l p q w (λ e. ne (ap suc e))

  module _ {A : Type 0} (f : V → List A) where
    pub pulls : (l : List V) (p : ℕ) (v w : V) → get_elem? l p ≡ some v → IsPermutation (flat_map f (set l p w)) (f w ++ flat_map f (others p l))
    pulls [] p v w at = absurd (some-ne-none v (sym at))
    pulls (x ∷ l) zero v w at = IsPermutation-refl (f w ++ flat_map f l)
    pulls (x ∷ l) (suc p) v w at = IsPermutation-trans (f x ++ flat_map f (set l p w)) (f x ++ (f w ++ flat_map f (others p l)))
        (f w ++ (f x ++ flat_map f (others p l)))
        (behind (f x) (flat_map f (set l p w)) (f w ++ flat_map f (others p l)) (pulls l p v w at)) (past (f x) (f w) (flat_map f (others p l)))

    pub pulls_own : (l : List V) (p : ℕ) (v : V) → get_elem? l p ≡ some v → IsPermutation (flat_map f l) (f v ++ flat_map f (others p l))
    pulls_own l p v at = subst (λ y. IsPermutation (flat_map f y) (f v ++ flat_map f (others p l))) (set_same l p v at) (pulls l p v v at)

  module _ (g : V → ℕ) where
    pub weighs : (l : List V) (p : ℕ) (v w : V) → get_elem? l p ≡ some v → sum_by g (set l p w) ≡ g w + sum_by g (others p l)
    weighs [] p v w at = absurd (some-ne-none v (sym at))
    weighs (x ∷ l) zero v w at = sum_by-cons g w l
    weighs (x ∷ l) (suc p) v w at = let a = sum_by-cons g x (set l p w) in let b = sum_by-cons g x (others p l) in let c = weighs l p v w at in
        omega (arith, a, b, c)

    pub weighs_own : (l : List V) (p : ℕ) (v : V) → get_elem? l p ≡ some v → sum_by g l ≡ g v + sum_by g (others p l)
    weighs_own l p v at = subst (λ y. sum_by g y ≡ g v + sum_by g (others p l)) (set_same l p v at) (weighs l p v v at)

  module _ (P : V → Type 0) where
    pub holds_at : (l : List V) (p : ℕ) (v : V) → get_elem? l p ≡ some v → All P l → P v
    holds_at [] p v at h = absurd (some-ne-none v (sym at))
    holds_at (x ∷ l) zero v at h = subst P (some-injective x v at) (All-head P x l h)
    holds_at (x ∷ l) (suc p) v at h = holds_at l p v at (All-tail P x l h)

    pub holds_others : (l : List V) (p : ℕ) → All P l → All P (others p l)
    holds_others [] p h = h
    holds_others (x ∷ l) zero h = All-tail P x l h
    holds_others (x ∷ l) (suc p) h = All-cons P x (others p l) (All-head P x l h) (holds_others l p (All-tail P x l h))

    pub holds_set : (l : List V) (p : ℕ) (w : V) → P w → All P (others p l) → All P (set l p w)
    holds_set [] p w mine h = All-nil P
    holds_set (x ∷ l) zero w mine h = All-cons P w l mine h
    holds_set (x ∷ l) (suc p) w mine h = All-cons P x (set l p w) (All-head P x (others p l) h) (holds_set l p w mine (All-tail P x (others p l) h))
