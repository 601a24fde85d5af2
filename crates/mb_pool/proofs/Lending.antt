-- How the handles of a new pool get their ports of the next ones' deques, step by step.
use Rattle.std.proofs.Common.{◌≡◌, ℕ, suc, ◌+◌, ◌-◌, ◌<◌, ◌≤◌, List, [], ◌∷◌, ◌++◌, length, get_or, set, take, drop, sym, ap, ◌∙◌, subst}
use Rattle.std.proofs.Common.{map, arith}
use Rattle.std.specs.Prelude.{All}
use Rattle.std.proofs.lemmas.List.{length-append, take_all}
use Rattle.std.proofs.lemmas.List.Elements.{All-get_or}
use Rattle.mb_pool.specs.Begins.{borrowed, borrowed_next, lent, with_shares}
use Rattle.mb_pool.specs.Places.{PoolPort}
use Rattle.mb_pool.proofs.Begins.{after, borrowed_so, may_lend, rotated, rotated_first, rotated_next, upto, upto_all, upto_at}
use Rattle.mb_pool.proofs.Loops.{borrow_one, lend_one}

module _ {H : Type 0} (owns now : List (PoolPort H)) (k : ℕ) (d : PoolPort H) where
  module _ (so : now ≡ upto (lent {H = H}) k owns) (lt : k < length owns) where
    same : get_or now k d ≡ get_or owns k d
    same = ap (λ (l : List (PoolPort H)). get_or l k d) so ∙ upto_at (lent {H = H}) owns k d

    -- the next one has a share to lend
    pub may_lend_at : All (λ (l : PoolPort H). 1 < l.ledger.shares) owns → 1 < (get_or now k d).ledger.shares
    may_lend_at h = subst (λ (l : PoolPort H). 1 < l.ledger.shares) (sym same) (All-get_or (λ (l : PoolPort H). 1 < l.ledger.shares) owns k d lt h)

    -- and lends it
    pub lends_one : (own_deque thief : PoolPort H) (thieves new : List (PoolPort H)) → thieves ≡ map (borrowed {H = H}) (take k owns) → own_deque ≡ lent (get_or now k d)
        → thief ≡ borrowed (get_or now k d) → new ≡ thieves ++ thief ∷ []
        → (set now k own_deque ≡ upto (lent {H = H}) (k + 1) owns) × (new ≡ map (borrowed {H = H}) (take (k + 1) owns))
    lends_one own_deque thief thieves new h o t n =
        let one : suc k ≡ k + 1 = omega arith in
        let o' : own_deque ≡ lent (get_or owns k d) = o ∙ ap (lent {H = H}) same in
        let t' : thief ≡ borrowed (get_or owns k d) = t ∙ ap (borrowed {H = H}) same in (
          (λ i. set (so i) k (o' i)) ∙ lend_one owns k d lt ∙ ap (λ (m : ℕ). upto (lent {H = H}) m owns) one,
          n ∙ (λ i. h i ++ t' i ∷ []) ∙ borrow_one owns k d lt ∙ ap (λ (m : ℕ). map (borrowed {H = H}) (take m owns)) one,
        )

-- after all of them did
module _ {H : Type 0} (owns now : List (PoolPort H)) (k : ℕ) where
  pub all_lent : now ≡ upto (lent {H = H}) k owns → length owns ≤ k → now ≡ map (lent {H = H}) owns
  all_lent so le = so ∙ upto_all (lent {H = H}) owns k le

  pub all_borrowed : (thieves : List (PoolPort H)) → thieves ≡ map (borrowed {H = H}) (take k owns) → length owns ≤ k
      → thieves ≡ map (borrowed {H = H}) owns
  all_borrowed thieves h le = h ∙ ap (map (borrowed {H = H})) (take_all k owns le)

one_of : {X : Type 0} (xs : List X) (k : ℕ) → k < length xs → X
one_of [] k lt = absurd (omega (arith, lt))
one_of (x ∷ xs) k lt = x

pub one_there : {X : Type 0} (front back : List X) → length front ≡ 1 → 1 ≤ length (front ++ back)
one_there front back e = let l = length-append front back in omega (arith, l, e)

-- the next handle in order: its own deque comes first, and the others have a share to lend
module _ {H : Type 0} (owns now : List (PoolPort H)) (k : ℕ) (so : now ≡ rotated owns k) (lt : k < length owns) where
  d : PoolPort H
  d = one_of owns k lt

  first_is : now ≡ with_shares (length owns - k) (get_or owns k d) ∷ after owns k d lt
  first_is = so ∙ rotated_first owns k d lt

  pub some_there : 1 ≤ length now
  some_there = subst (λ (l : List (PoolPort H)). 1 ≤ length l) (sym first_is) (let s : 1 ≤ suc (length (after owns k d lt)) = omega arith in s)

  pub next_may_lend : All (λ (l : PoolPort H). 1 < l.ledger.shares) (drop 1 now)
  next_may_lend = subst (λ (l : List (PoolPort H)). All (λ (x : PoolPort H). 1 < x.ledger.shares) (drop 1 l)) (sym first_is) (may_lend owns k d lt)

  pub borrowed_of_next : map (borrowed {H = H}) (drop 1 now) ≡ borrowed_next owns k
  borrowed_of_next = ap (λ (l : List (PoolPort H)). map (borrowed {H = H}) (drop 1 l)) first_is ∙ borrowed_so owns k d lt

  -- then the next one follows
  pub turned : (front back handle : List (PoolPort H)) → front ≡ take 1 now → back ≡ map (lent {H = H}) (drop 1 now)
      → handle ≡ drop 1 (front ++ back) ++ take 1 (front ++ back) → handle ≡ rotated owns (k + 1)
  turned front back handle f b e =
      let x : PoolPort H = with_shares (length owns - k) (get_or owns k d) in
      let front' : front ≡ x ∷ [] = f ∙ ap (take 1) first_is in
      let back' : back ≡ map (lent {H = H}) (after owns k d lt) = b ∙ ap (λ (l : List (PoolPort H)). map (lent {H = H}) (drop 1 l)) first_is in
      e ∙ (λ i. drop 1 (front' i ++ back' i) ++ take 1 (front' i ++ back' i)) ∙ rotated_next owns k d lt
