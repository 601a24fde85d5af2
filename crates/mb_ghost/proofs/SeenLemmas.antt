-- What keeps each seat's view true.
use Rattle.std.proofs.Common.{◌≡◌, ◌≢◌, ℕ, List, [], ◌∷◌, ◌++◌, set, subst, ⊎_elim}
use mathlib.Core.Option.{some}
use lib.ListN.{get_elem?}
use Rattle.atomic_table.proofs.Lists.{at_set, at_snoc}
use Rattle.mb_ghost.specs.Seen.{EachView, Each}

module _ {V : Type 0} (Knew Knows : V → Type 0) where
  -- what was known stays true, and what one seat learns is true
  pub learns : (vs : List V) (id : ℕ) (w : V) → ((v : V) → Knew v → Knows v) → Knows w → EachView Knew vs → EachView Knows (set vs id w)
  learns vs id w stays so each q u at = ⊎_elim (λ (t : (q ≡ id) × (w ≡ u)). subst Knows t.1 so) (λ (t : (q ≢ id) × (get_elem? vs q ≡ some u)).
      stays u (each q u t.1)) (at_set vs id q w u at)

module _ {V : Type 0} (Knows : V → Type 0) where
  -- a view is cut in two
  pub splits_seen : (vs : List V) (id : ℕ) (left right : V) → Knows left → Knows right → EachView Knows vs → EachView Knows (set vs id left ++
      right ∷ [])
  splits_seen vs id left right l r each q u at =
      ⊎_elim (λ (t : get_elem? (set vs id left) q ≡ some u). learns Knows Knows vs id left (λ v k. k) l each q u t) (λ (t : right ≡ u). subst
      Knows t r) (at_snoc (set vs id left) right u q at)

  -- a seat takes over what another knows
  pub joins_seen : (vs : List V) (id other : ℕ) (both spent : V) → Knows both → Knows spent → EachView Knows vs → EachView Knows (set (set vs id
      both) other spent)
  joins_seen vs id other both spent b s each = learns Knows Knows (set vs id both) other spent (λ v k. k) s (learns Knows Knows vs id both (λ v
      k. k) b each)

module _ {A : Type 0} where
  pub each_weaker : (P Q : A → Type 0) (xs : List A) → ((x : A) → P x → Q x) → Each P xs → Each Q xs
  each_weaker P Q [] f h = tt
  each_weaker P Q (x ∷ xs) f h = (f x h.0, each_weaker P Q xs f h.1)

  pub each_append : (P : A → Type 0) (xs ys : List A) → Each P xs → Each P ys → Each P (xs ++ ys)
  each_append P [] ys h k = k
  each_append P (x ∷ xs) ys h k = (h.0, each_append P xs ys h.1 k)
