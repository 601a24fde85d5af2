-- The steps of the loops that make the ports of a new pool.
use Rattle.std.proofs.Common.{◌≡◌, ℕ, suc, ◌+◌, ◌-◌, ◌<◌, ◌≤◌, List, [], ◌∷◌, ◌++◌, length, get_or, set, take, replicate, sym, refl, ap}
use Rattle.std.proofs.Common.{◌∙◌, map, arith, append_assoc}
use Rattle.std.proofs.lemmas.List.{map_push, length-map, length-replicate, replicate_more}
use Rattle.mb_pool.specs.Begins.{borrowed, borrowed_next, lent, with_shares}
use Rattle.mb_pool.specs.Ledger.{opened}
use Rattle.mb_pool.specs.Account.{ClaimAccount}
use Rattle.mb_pool.specs.Places.{PoolPort, numbers}
use Rattle.mb_pool.proofs.Begins.{cons_head, cons_tail, numbers_push, take_suc}
use Rattle.mb_pool.proofs.Begins.{upto, upto_set}

module _ {A B : Type 0} (f : A → B) where
  -- one more is done, one less is to come
  pub step_over : (done : List B) (x : A) (old new : List A) (all : List B) → old ≡ x ∷ new → done ++ map f old ≡ all
      → (done ++ f x ∷ []) ++ map f new ≡ all
  step_over done x old new all e h = append_assoc done (f x ∷ []) (map f new) ∙ ap (λ l. done ++ map f l) (sym e) ∙ h

module _ {X : Type 0} where
  snoc_some : (xs : List X) (x : X) → xs ++ x ∷ [] ≡ [] → ⊥
  snoc_some [] x e = let z : 1 ≡ 0 = ap (length {A = X}) e in omega (arith, z)
  snoc_some (y ∷ xs) x e = let z : suc (length (xs ++ x ∷ [])) ≡ 0 = ap (length {A = X}) e in omega (arith, z)

  pub snoc_same : (xs ys : List X) (x y : X) → xs ++ x ∷ [] ≡ ys ++ y ∷ [] → (xs ≡ ys) × (x ≡ y)
  snoc_same [] [] x y e = (refl, cons_head x y [] [] e)
  snoc_same [] (b ∷ ys) x y e = absurd (snoc_some ys y (sym (cons_tail x b [] (ys ++ y ∷ []) e)))
  snoc_same (a ∷ xs) [] x y e = absurd (snoc_some xs x (cons_tail a y (xs ++ x ∷ []) [] e))
  snoc_same (a ∷ xs) (b ∷ ys) x y e =
      let head = cons_head a b (xs ++ x ∷ []) (ys ++ y ∷ []) e in
      let rest = snoc_same xs ys x y (cons_tail a b (xs ++ x ∷ []) (ys ++ y ∷ []) e) in
      ((λ i. head i ∷ rest.0 i), rest.1)

module _ {A B : Type 0} (f : A → B) (d : B) where
  -- the last of some that look alike
  pub popped : (old new : List A) (x : A) (n m : ℕ) → old ≡ new ++ x ∷ [] → n ≡ m + 1 → map f old ≡ replicate n d → (map f new ≡ replicate m d)
      × (f x ≡ d)
  popped old new x n m e is h =
      snoc_same (map f new) (replicate m d) (f x) d (sym (map_push f new x) ∙ ap (map f) (sym e) ∙ h ∙ ap (λ k. replicate k d) is
      ∙ sym (replicate_more m d))

  pub not_none : (old : List A) (n : ℕ) → length old ≡ 0 → 0 < n → map f old ≡ replicate n d → ⊥
  not_none old n none some h = let a = length-map old f in let b = length-replicate n d in
      let c : length (map f old) ≡ length (replicate n d) = ap length h in omega (arith, none, some, a, b, c)

module _ {H : Type 0} where
  pub with_all : (l : PoolPort H) (n : ℕ) → l.ledger.shares ≡ n → with_shares n l ≡ l
  with_all l n e = λ i. record { queue = l.queue; ledger = record l.ledger { shares = sym e i } }

  -- the first port of a queue after it lent another share
  pub lent_one : (l first : PoolPort H) (shares : ℕ) → l ≡ with_shares shares first → (lent l ≡ with_shares (shares - 1) first)
      × (borrowed l ≡ borrowed first)
  lent_one l first shares e = (ap (lent {H = H}) e, ap (borrowed {H = H}) e)

  -- and once it has one share itself
  pub last_one : (first : PoolPort H) (count : ℕ) → first.ledger ≡ opened first.ledger.gates first.ledger.members count
      → with_shares 1 first ≡ borrowed first
  last_one first count e = ap (λ (a : ClaimAccount H). let l : PoolPort H = record { queue = first.queue; ledger = record a { shares = 1 } } in l) e

  module _ {V : Type 0} (f : V → PoolPort H) (shared_ports new : List V) (last : V) (first : PoolPort H) (k count : ℕ)
      (before : map f shared_ports ≡ replicate (k - 1) (borrowed first)) (more : new ≡ shared_ports ++ last ∷ []) where
    -- one port more of the queue
    pub shared_port_more : (l l' : PoolPort H) → 1 ≤ k → l ≡ with_shares (count - (k - 1)) first → l' ≡ lent l → f last ≡ borrowed l
        → (map f new ≡ replicate (k + 1 - 1) (borrowed first)) × (l' ≡ with_shares (count - (k + 1 - 1)) first)
    shared_port_more l l' low here left got =
        let one = lent_one l first (count - (k - 1)) here in
        let shared_port : f last ≡ borrowed first = got ∙ one.1 in
        let next : k - 1 + 1 ≡ k + 1 - 1 = omega (arith, low) in
        let fewer : count - (k - 1) - 1 ≡ count - (k + 1 - 1) = omega (arith, low) in (
          ap (map f) more ∙ map_push f shared_ports last ∙ (λ i. before i ++ shared_port i ∷ []) ∙ replicate_more (k - 1) (borrowed first)
              ∙ ap (λ n. replicate n (borrowed first)) next,
          left ∙ one.0 ∙ ap (λ n. with_shares n first) fewer,
        )

    -- and the first one is the last
    pub shared_port_last : k ≡ count → 0 < count → f last ≡ with_shares (count - (k - 1)) first
        → first.ledger ≡ opened first.ledger.gates first.ledger.members count → map f new ≡ replicate count (borrowed first)
    shared_port_last handle low here whole =
        let one : count - (k - 1) ≡ 1 = omega (arith, handle, low) in
        let next : k - 1 + 1 ≡ count = omega (arith, handle, low) in
        let shared_port : f last ≡ borrowed first = here ∙ ap (λ n. with_shares n first) one ∙ last_one first count whole in
        ap (map f) more ∙ map_push f shared_ports last ∙ (λ i. before i ++ shared_port i ∷ []) ∙ replicate_more (k - 1) (borrowed first)
        ∙ ap (λ n. replicate n (borrowed first)) next

  -- each of the next handles' deques lends a share
  pub lend_one : (owns : List (PoolPort H)) (k : ℕ) (d : PoolPort H) → k < length owns
      → set (upto (lent {H = H}) k owns) k (lent (get_or owns k d)) ≡ upto (lent {H = H}) (suc k) owns
  lend_one owns k d lt = upto_set (lent {H = H}) owns k d lt

  pub borrow_one : (owns : List (PoolPort H)) (k : ℕ) (d : PoolPort H) → k < length owns
      → map (borrowed {H = H}) (take k owns) ++ borrowed (get_or owns k d) ∷ [] ≡ map (borrowed {H = H}) (take (suc k) owns)
  borrow_one owns k d lt = sym (map_push (borrowed {H = H}) (take k owns) (get_or owns k d))
      ∙ ap (map (borrowed {H = H})) (sym (take_suc owns k d lt))

  -- one more handle has its ports of the next ones' deques
  pub lists_more : {V : Type 0} (items : V → List (PoolPort H)) (owns : List (PoolPort H)) (lists new : List V) (v : V) (k : ℕ)
      → map items lists ≡ map (borrowed_next owns) (numbers 0 k) → items v ≡ borrowed_next owns k
      → new ≡ lists ++ v ∷ [] → map items new ≡ map (borrowed_next owns) (numbers 0 (k + 1))
  lists_more items owns lists new v k h e n =
      ap (map items) n ∙ map_push items lists v ∙ (λ i. h i ++ e i ∷ []) ∙ sym (map_push (borrowed_next owns) (numbers 0 k) k)
      ∙ ap (map (borrowed_next owns)) (sym (numbers_push 0 k ∙ ap (λ n'. numbers 0 k ++ n' ∷ []) (let z : 0 + k ≡ k = omega arith in z)))
      ∙ ap (λ n'. map (borrowed_next owns) (numbers 0 n')) (let z : suc k ≡ k + 1 = omega arith in z)
