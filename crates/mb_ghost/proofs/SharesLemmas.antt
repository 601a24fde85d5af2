-- What keeps the shares a whole, and what a seat with the whole knows.
use Rattle.std.proofs.Common.{◌≡◌, ◌≢◌, ℕ, zero, suc, ◌+◌, ◌-◌, ◌*◌, ◌^◌, ◌<◌, ◌≤◌, List, [], ◌∷◌, ◌++◌, set, sym, refl, ap, ◌∙◌, subst, arith}
use Rattle.std.proofs.Math.Nat.{pow-suc}
use Rattle.std.proofs.lemmas.Nat.{pow_pos}
use mathlib.Core.Logic.{dite}
use mathlib.Core.Option.{some, some-ne-none, some-injective}
use native.Mathlib.Decide.{ℕ_discrete}
use lib.ListN.{get_elem?}
use Rattle.atomic_table.proofs.Lists.{set_else, at_longer}
use Rattle.mb_ghost.specs.Seen.{EachView, Each}
use Rattle.mb_ghost.specs.Summed.{total}
use Rattle.mb_ghost.specs.Shares.{FitsIn, amount, IsWhole, halved, half_of, AreShares}
use Rattle.mb_ghost.proofs.OwedLemmas.{set_at, new_last}
use Rattle.mb_ghost.proofs.SeenLemmas.{each_weaker, each_append}
use Rattle.mb_ghost.proofs.SummedLemmas.{total_append, total_set, total_stays, total_splits, total_joins}

-- two halves are one
two_halves : (e d : ℕ) → suc d ≤ e → 2 ^ (e - suc d) + 2 ^ (e - suc d) ≡ 2 ^ (e - d)
two_halves e d fits = twice (2 ^ (e - suc d)) ∙ (sym (pow-suc 2 (e - suc d)) ∙ ap (λ k. 2 ^ k) (next e d fits))
  where
    twice : (n : ℕ) → n + n ≡ n * 2
    twice n = omega arith

    next : (e d : ℕ) → suc d ≤ e → suc (e - suc d) ≡ e - d
    next e d fits = omega arith

pub halves_amount : (e : ℕ) (share : List ℕ) → FitsIn e (halved share) → amount e (halved share) + amount e (half_of share) ≡ amount e share
halves_amount e [] fits = refl
halves_amount e (d ∷ ds) fits = let two = two_halves e d fits.0 in omega arith

pub halves_fit : (e : ℕ) (share : List ℕ) → FitsIn e (halved share) → FitsIn e share
halves_fit e [] fits = tt
halves_fit e (d ∷ ds) fits = ((let more = fits.0 in omega arith), fits.1)

pub whole_one : IsWhole (0 ∷ [])
whole_one e fits = sums (2 ^ (e - 0)) ∙ ap (λ k. 2 ^ k) (less e)
  where
    sums : (n : ℕ) → n + 0 ≡ n
    sums n = omega arith

    less : (e : ℕ) → e - 0 ≡ e
    less e = omega arith

-- what was halved is the whole again, once it is put together
pub whole_again : (share : List ℕ) → IsWhole share → IsWhole (half_of share ++ halved share)
whole_again [] whole e fits = whole e fits
whole_again (d ∷ ds) whole e fits =
    let two = two_halves e d fits.0 in
    let one = whole e ((let more = fits.0 in omega arith), fits.1.1) in omega arith

-- a larger whole has room for what a smaller one has
fits_more : (e f : ℕ) (share : List ℕ) → e ≤ f → FitsIn e share → FitsIn f share
fits_more e f share more fits = each_weaker (λ d. d ≤ e) (λ d. d ≤ f) share (λ d fit. omega arith) fits

fits_some : (share : List ℕ) → (e : ℕ) × FitsIn e share
fits_some [] = (0, tt)
fits_some (d ∷ ds) = let rest = fits_some ds in (d + rest.0, ((omega arith), fits_more rest.0 (d + rest.0) ds (omega arith) rest.1))

none_amount : (e : ℕ) (share : List ℕ) → amount e share ≡ 0 → share ≡ []
none_amount e [] none = refl
none_amount e (d ∷ ds) none = absurd (let some = pow_pos (e - d) in omega arith)

one_of : {A : Type 0} (f : A → ℕ) (vs : List A) (q : ℕ) (w : A) → get_elem? vs q ≡ some w → f w ≤ total f vs
one_of f [] q w there = absurd (some-ne-none w (sym there))
one_of f (x ∷ xs) zero w there = let here = ap f (some-injective x w there) in omega arith
one_of f (x ∷ xs) (suc q) w there = let one = one_of f xs q w there in omega arith

-- two seats have no more than all
two_of : {A : Type 0} (f : A → ℕ) (vs : List A) (p q : ℕ) (v w : A) → p ≢ q → get_elem? vs p ≡ some v → get_elem? vs q ≡ some w → f v + f w ≤
    total f vs
two_of f [] p q v w other at there = absurd (some-ne-none v (sym at))
two_of f (x ∷ xs) zero zero v w other at there = absurd (other refl)
two_of f (x ∷ xs) zero (suc q) v w other at there = let here = ap f (some-injective x v at) in let one = one_of f xs q w there in omega arith
two_of f (x ∷ xs) (suc p) zero v w other at there = let here = ap f (some-injective x w there) in let one = one_of f xs p v at in omega arith
two_of f (x ∷ xs) (suc p) (suc q) v w other at there = let two = two_of f xs p q v w (λ e. other (ap suc e)) at there in omega arith

total_none : {A : Type 0} (f : A → ℕ) (vs : List A) → ((q : ℕ) (w : A) → get_elem? vs q ≡ some w → f w ≡ 0) → total f vs ≡ 0
total_none f [] none = refl
total_none f (x ∷ xs) none = let here = none zero x refl in let rest = total_none f xs (λ q w there. none (suc q) w there) in omega arith

-- no other seat has any, and so one has all of it
pub total_alone : {A : Type 0} (f : A → ℕ) (vs : List A) (p : ℕ) (v : A) → get_elem? vs p ≡ some v → ((q : ℕ) (w : A) → q ≢ p → get_elem? vs q ≡
    some w → f w ≡ 0) → total f vs ≡ f v
total_alone f [] p v at none = absurd (some-ne-none v (sym at))
total_alone f (x ∷ xs) zero v at none = let here = ap f (some-injective x v at) in let rest = total_none f xs (λ q w there. none (suc q) w (λ e.
    absurd (no_zero q e)) there) in omega arith
  where
    no_zero : (q : ℕ) → suc q ≡ zero → ⊥
    no_zero q e = omega arith
total_alone f (x ∷ xs) (suc p) v at none = let here = none zero x (λ e. absurd (no_zero p (sym e))) refl in let rest = total_alone f xs p v at (λ
    q w other there. none (suc q) w (λ e. other (less q p e)) there) in omega arith
  where
    no_zero : (q : ℕ) → suc q ≡ zero → ⊥
    no_zero q e = omega arith

    less : (q p : ℕ) → suc q ≡ suc p → q ≡ p
    less q p e = omega arith

module _ {V : Type 0} (share : V → List ℕ) where
  -- views that fit are those that fitted, and one that fits
  before_set : (e : ℕ) (vs : List V) (id : ℕ) (v w : V) → get_elem? vs id ≡ some v → (FitsIn e (share w) → FitsIn e (share v)) → EachView (λ u.
      FitsIn e (share u)) (set vs id w) → EachView (λ u. FitsIn e (share u)) vs
  before_set e vs id v w at fits all q u there = dite (ℕ_discrete q id)
      (λ same. subst (λ z. FitsIn e (share z)) (some-injective v u (sym at ∙ (ap (get_elem? vs) (sym same) ∙ there))) (fits (all id w (set_at vs id
      v w at))))
      (λ other. all q u (set_else vs id q w other ∙ there))

  before_more : (e : ℕ) (vs : List V) (w : V) → EachView (λ u. FitsIn e (share u)) (vs ++ w ∷ []) → EachView (λ u. FitsIn e (share u)) vs
  before_more e vs w all q u there = all q u (at_longer vs (w ∷ []) q u there)

  -- one view changes, and not its share
  pub shares_stay : (vs : List V) (id : ℕ) (v w : V) → get_elem? vs id ≡ some v → share w ≡ share v → AreShares share vs → AreShares share (set vs
      id w)
  shares_stay vs id v w at same shares e all = total_stays (λ u. amount e (share u)) vs id v w at (ap (amount e) same)
      ∙ shares e (before_set e vs id v w at (subst (FitsIn e) same) all)

  -- a view is cut in two, and each has a part of its share
  pub splits_shares : (vs : List V) (id : ℕ) (v left right : V) → get_elem? vs id ≡ some v
      → ((e : ℕ) → FitsIn e (share left) → FitsIn e (share right)
      → FitsIn e (share v) × (amount e (share left) + amount e (share right) ≡ amount e (share v)))
      → AreShares share vs → AreShares share (set vs id left ++ right ∷ [])
  splits_shares vs id v left right at parts shares e all =
      let first = before_more e (set vs id left) right all in
      let here = parts e (first id left (set_at vs id v left at)) (all _ right (new_last (set vs id left) right)) in
      total_splits (λ u. amount e (share u)) vs id v left right at here.1 ∙ shares e (before_set e vs id v left at (λ _. here.0) first)

  -- a seat takes over the share of another
  pub joins_shares : (vs : List V) (id other : ℕ) (v w both spent : V) → get_elem? vs id ≡ some v → ¬ (other ≡ id) → get_elem? (set vs id both)
      other ≡ some w
      → share both ≡ share w ++ share v → share spent ≡ [] → AreShares share vs → AreShares share (set (set vs id both) other spent)
  joins_shares vs id other v w both spent at apart there has bare shares e all =
      let mine : get_elem? (set (set vs id both) other spent) id ≡ some both = set_else (set vs id both) other id spent (λ z. apart (sym z)) ∙ set_at
      vs id v both at in
      let fits = subst (FitsIn e) has (all id both mine) in
      let both_fit = each_parts (λ d. d ≤ e) (share w) (share v) fits in
      total_joins (λ u. amount e (share u)) vs id other v w both spent at there (sums e (share both) (share spent) (share v) (share w) has bare)
      ∙ shares e (before_set e vs id v both at (λ _. both_fit.1) (before_set e (set vs id both) other w spent there (λ _. both_fit.0) all))
    where
      each_parts : (P : ℕ → Type 0) (a b : List ℕ) → Each P (a ++ b) → Each P a × Each P b
      each_parts P [] b all = (tt, all)
      each_parts P (x ∷ xs) b all = let rest = each_parts P xs b all.1 in ((all.0, rest.0), rest.1)

      sums : (e : ℕ) (both spent v w : List ℕ) → both ≡ w ++ v → spent ≡ [] → amount e both + amount e spent ≡ amount e v + amount e w
      sums e both spent v w has bare =
          let first = ap (amount e) has ∙ total_append (λ d. 2 ^ (e - d)) w v in let second = ap (amount e) bare in omega arith

  -- one has all of it
  pub first_shares : (v : V) → share v ≡ 0 ∷ [] → AreShares share (v ∷ [])
  first_shares v whole e all = ap (λ s. amount e s + 0) whole ∙ one e
    where
      one : (e : ℕ) → (2 ^ (e - 0) + 0) + 0 ≡ 2 ^ e
      one e = sums (2 ^ (e - 0)) ∙ ap (λ k. 2 ^ k) (less e)
        where
          sums : (n : ℕ) → (n + 0) + 0 ≡ n
          sums n = omega arith

          less : (e : ℕ) → e - 0 ≡ e
          less e = omega arith

  fits_all : (vs : List V) → (e : ℕ) × EachView (λ u. FitsIn e (share u)) vs
  fits_all [] = (0, (λ q u there. absurd (some-ne-none u (sym there))))
  fits_all (x ∷ xs) = let here = fits_some (share x) in let rest = fits_all xs in (here.0 + rest.0, each here rest)
    where
      each : (here : (e : ℕ) × FitsIn e (share x)) (rest : (e : ℕ) × EachView (λ u. FitsIn e (share u)) xs) → EachView (λ u. FitsIn (here.0 + rest.0)
          (share u)) (x ∷ xs)
      each here rest zero u there = subst (λ z. FitsIn (here.0 + rest.0) (share z)) (some-injective x u there) (fits_more here.0 (here.0 + rest.0)
          (share x) (omega arith) here.1)
      each here rest (suc q) u there = fits_more rest.0 (here.0 + rest.0) (share u) (omega arith) (rest.1 q u there)

  -- who has the whole knows that nobody else has any
  pub alone : (vs : List V) (id : ℕ) (v : V) → get_elem? vs id ≡ some v → IsWhole (share v) → AreShares share vs → (q : ℕ) (u : V) → q ≢ id →
      get_elem? vs q ≡ some u → share u ≡ []
  alone vs id v at whole shares q u other there =
      let fits = fits_all vs in
      let all = shares fits.0 fits.1 in
      let mine = whole fits.0 (fits.1 id v at) in
      let two = two_of (λ z. amount fits.0 (share z)) vs id q v u (λ e. other (sym e)) at there in
      none_amount fits.0 (share u) (omega arith)
