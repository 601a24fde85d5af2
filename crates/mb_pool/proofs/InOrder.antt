-- The handles of a pool, put in the order of their numbers.
use Rattle.std.proofs.Common.{◌≡◌, ◌⊎◌, inl, inr, ℕ, zero, suc, ◌+◌, ◌<◌, ◌≤◌, List, [], ◌∷◌, ◌++◌, length, map, take, drop}
use Rattle.std.proofs.Common.{sym, refl, ap, ◌∙◌, subst, arith}
use Rattle.std.specs.Prelude.{All, IsPermutation, replicate}
use Rattle.std.specs.List.Sorted.{IsNonDecreasingBy}
use Rattle.std.proofs.lemmas.List.{take_all, drop_all, length-map}
use Rattle.std.proofs.lemmas.List.Elements.{All-nil, All-cons, All-head, All-tail}
use Rattle.std.proofs.lemmas.List.Sorted.{IsPermutation-sym, IsPermutation-trans, IsPermutation-map, All-permutation, length_permutation}
use Rattle.mb_gate.specs.declared.claim.Claim.{Claim}
use Rattle.mb_pool.specs.Made.{AreDeques, IsLeft, IsWhole}
use Rattle.mb_pool.specs.Places.{AreAllHandles, AreHandles, Parts, QueueInfo, PoolEndpoint, PoolView, deque_parts, handle_parts, feed_parts, number_in, number_of, numbers, owner_of, parts_of, pushed_by, taken_by, ports_of, pushed_at, taken_at}
use Rattle.mb_pool.proofs.Begins.{const_numbers}
use Rattle.mb_pool.proofs.Lists.{before, same_elements}
use Rattle.mb_pool.proofs.Permuted.{joined_in_order, keys_in_order}

-- what holds of these numbers in order
all_numbers : (P : ℕ → Type 0) (first count : ℕ) → ((k : ℕ) → first ≤ k → k < first + count → P k) → All P (numbers first count)
all_numbers P first zero h = All-nil P
all_numbers P first (suc count) h =
    All-cons P first (numbers (first + 1) count) (h first (omega arith) (omega arith))
    (all_numbers P (first + 1) count (λ k from to. h k (omega (arith, from)) (omega (arith, to))))

map_of : {A B : Type 0} (P : B → Type 0) (f : A → B) (xs : List A) → All (λ x. P (f x)) xs → All P (map f xs)
map_of P f [] h = All-nil P
map_of P f (x ∷ xs) h = All-cons P (f x) (map f xs) (All-head (λ y. P (f y)) x xs h) (map_of P f xs (All-tail (λ y. P (f y)) x xs h))

-- numbers that a function leaves as they are
same_numbers : (f : ℕ → ℕ) (first count : ℕ) → ((k : ℕ) → first ≤ k → k < first + count → f k ≡ k) → map f (numbers first count) ≡ numbers first count
same_numbers f first zero h = refl
same_numbers f first (suc count) h =
    (λ i. h first (omega arith) (omega arith) i ∷ same_numbers f (first + 1) count (λ k from to. h k (omega (arith, from)) (omega (arith, to))) i)

twice : {A B C : Type 0} (g : B → C) (f : A → B) (xs : List A) → map g (map f xs) ≡ map (λ x. g (f x)) xs
twice g f [] = refl
twice g f (x ∷ xs) = ap (λ l. g (f x) ∷ l) (twice g f xs)

all_one : {A : Type 0} (a : A) (xs : List A) → All (λ x. x ≡ a) xs → xs ≡ replicate (length xs) a
all_one a [] h = refl
all_one a (x ∷ xs) h = (λ i. All-head (λ y. y ≡ a) x xs h i ∷ all_one a xs (All-tail (λ y. y ≡ a) x xs h) i)

module _ {H : Type 0} (pool : PoolView H) where
  -- the number of the handle that has the deque at this place
  numbered : (first : ℕ) (ds : List QueueInfo) → AreDeques first ds → (k : ℕ) → k < length ds → number_in (deque_parts pool (take 1 (drop k ds))) ≡ first + k
  numbered first [] h k less = absurd (omega (arith, less))
  numbered first (d ∷ ds) h zero less = let is : owner_of d ≡ first = ap owner_of h.0.1 in omega (arith, is)
  numbered first (d ∷ ds) h (suc k) less = let rest = numbered (first + 1) ds h.1 k (omega (arith, less)) in omega (arith, rest)

  -- each list of the parts of handles is found by their numbers
  by_number : (ps : List (Parts H)) → All (λ (p : Parts H). p ≡ handle_parts pool (number_in p.own_deque)) ps
      → ps ≡ map (handle_parts pool) (map (λ (p : Parts H). number_in p.own_deque) ps)
  by_number [] h = refl
  by_number (p ∷ ps) h =
      let P : Parts H → Type 0 = λ (q : Parts H). q ≡ handle_parts pool (number_in q.own_deque) in
      (λ i. All-head P p ps h i ∷ by_number ps (All-tail P p ps h) i)

  -- where there are no deques, each handle has what a feed has
  without_deques : pool.deques ≡ [] → (k : ℕ) → handle_parts pool k ≡ feed_parts pool
  without_deques none k =
      let own : deque_parts pool (take 1 (drop k pool.deques)) ≡ [] = ap (λ l. deque_parts pool (take 1 l)) (ap (drop k) none ∙ drop_all k [] (omega arith)) in
      let next : deque_parts pool (drop (k + 1) pool.deques ++ take k pool.deques) ≡ [] = ap (λ l. deque_parts pool (drop (k + 1) l ++ take k l)) none
      ∙ ap (λ l. deque_parts pool (l ++ take k [])) (drop_all (k + 1) [] (omega arith)) ∙ ap (deque_parts pool) (take_all k [] (omega arith)) in
      (λ i. record (feed_parts pool) { own_deque = own i; next = next i })

  module _ (whole : IsWhole pool) (handles : List (PoolEndpoint H)) (all : AreAllHandles pool handles) where
    counted : length handles ≡ pool.handles
    counted = sym (length-map handles (parts_of {H = H})) ∙ sym (length_permutation (map (parts_of {H = H}) handles) (map (handle_parts pool) (numbers 0 pool.handles)) all)
        ∙ length-map (numbers 0 pool.handles) (handle_parts pool) ∙ count_numbers 0 pool.handles
      where
        count_numbers : (first count : ℕ) → length (numbers first count) ≡ count
        count_numbers first zero = refl
        count_numbers first (suc count) = ap suc (count_numbers (first + 1) count)

    by_kind : IsNonDecreasingBy (λ (w : PoolEndpoint H). number_of w) handles → (pool.deques ≡ []) ⊎ (length pool.deques ≡ pool.handles) → AreHandles pool handles
    by_kind rising (inl none) =
        let Q : Parts H → Type 0 = λ (p : Parts H). p ≡ feed_parts pool in
        let each : All Q (map (handle_parts pool) (numbers 0 pool.handles)) =
        map_of Q (handle_parts pool) (numbers 0 pool.handles) (all_numbers (λ k. Q (handle_parts pool k)) 0 pool.handles (λ k from to. without_deques none k)) in
        let here : All Q (map (parts_of {H = H}) handles) = All-permutation Q _ _ (IsPermutation-sym (map (parts_of {H = H}) handles) (map (handle_parts pool) (numbers 0 pool.handles))
        all) each in
        all_one (feed_parts pool) (map (parts_of {H = H}) handles) here ∙ ap (λ n. replicate n (feed_parts pool)) (length-map handles (parts_of {H = H}) ∙ counted)
        ∙ sym (const_numbers (handle_parts pool) (feed_parts pool) (without_deques none) 0 pool.handles)
    by_kind rising (inr same) =
        let P : Parts H → Type 0 = λ (p : Parts H). p ≡ handle_parts pool (number_in p.own_deque) in
        let own : (k : ℕ) → k < pool.handles → number_in (handle_parts pool k).own_deque ≡ k
        = λ k less. (let n = numbered 0 pool.deques whole.deques k (omega (arith, same, less)) in n ∙ (let z : 0 + k ≡ k = omega arith in z)) in
        let each : All P (map (handle_parts pool) (numbers 0 pool.handles)) =
        map_of P (handle_parts pool) (numbers 0 pool.handles) (all_numbers (λ k. P (handle_parts pool k)) 0 pool.handles
        (λ k from to. ap (handle_parts pool) (sym (own k (omega (arith, to)))))) in
        let here : All P (map (parts_of {H = H}) handles) = All-permutation P _ _ (IsPermutation-sym (map (parts_of {H = H}) handles) (map (handle_parts pool) (numbers 0 pool.handles))
        all) each in
        let keys : map (λ (p : Parts H). number_in p.own_deque) (map (handle_parts pool) (numbers 0 pool.handles)) ≡ numbers 0 pool.handles =
        twice (λ (p : Parts H). number_in p.own_deque) (handle_parts pool) (numbers 0 pool.handles)
        ∙ same_numbers (λ k. number_in (handle_parts pool k).own_deque) 0 pool.handles (λ k from to. own k (omega (arith, to))) in
        let flat : map (λ (p : Parts H). number_in p.own_deque) (map (parts_of {H = H}) handles) ≡ map (λ (w : PoolEndpoint H). number_of w) handles =
        twice (λ (p : Parts H). number_in p.own_deque) (parts_of {H = H}) handles in
        let moved : IsPermutation (map (λ (w : PoolEndpoint H). number_of w) handles) (numbers 0 pool.handles) =
        subst (λ (y : List ℕ × List ℕ). IsPermutation y.0 y.1) (λ i. (flat i, keys i))
        (IsPermutation-map (λ (p : Parts H). number_in p.own_deque) (map (parts_of {H = H}) handles) (map (handle_parts pool) (numbers 0 pool.handles)) all) in
        by_number (map (parts_of {H = H}) handles) here
        ∙ ap (map (handle_parts pool)) (flat ∙ keys_in_order (λ (w : PoolEndpoint H). number_of w) handles 0 pool.handles moved rising)

    -- handles that rise by their numbers are in order
    pub are_handles : IsNonDecreasingBy (λ (w : PoolEndpoint H). number_of w) handles → AreHandles pool handles
    are_handles rising = by_kind rising whole.same_count

  -- handles in another order are all handles still
  pub all_handles_moved : (old new : List (PoolEndpoint H)) → IsPermutation old new → AreAllHandles pool old → AreAllHandles pool new
  all_handles_moved old new moved all =
      IsPermutation-trans (map (parts_of {H = H}) new) (map (parts_of {H = H}) old) (map (handle_parts pool) (numbers 0 pool.handles))
      (IsPermutation-sym (map (parts_of {H = H}) old) (map (parts_of {H = H}) new) (IsPermutation-map (parts_of {H = H}) old new moved)) all

module _ {H : Type 0} where
  -- handles in order are all handles
  pub in_any_order : (pool : PoolView H) (handles : List (PoolEndpoint H)) → AreHandles pool handles → AreAllHandles pool handles
  in_any_order pool handles e = same_elements (map (parts_of {H = H}) handles) (map (handle_parts pool) (numbers 0 pool.handles)) e

  -- what is left does not depend on the order of the handles
  pub left_in_any_order : (old new feeds : List (PoolEndpoint H)) (left : List (Claim H)) → IsPermutation old new → IsLeft (new ++ feeds) left → IsLeft (old ++ feeds) left
  left_in_any_order old new feeds left moved is =
      let handles : IsPermutation (old ++ feeds) (new ++ feeds) = before old new feeds moved in
      let took : IsPermutation (taken_by (old ++ feeds)) (taken_by (new ++ feeds)) =
      joined_in_order (λ (w : PoolEndpoint H). taken_at (ports_of w)) (old ++ feeds) (new ++ feeds) handles in
      let put : IsPermutation (pushed_by (old ++ feeds)) (pushed_by (new ++ feeds)) =
      joined_in_order (λ (w : PoolEndpoint H). pushed_at (ports_of w)) (old ++ feeds) (new ++ feeds) handles in
      IsPermutation-trans (taken_by (old ++ feeds) ++ left) (taken_by (new ++ feeds) ++ left) (pushed_by (old ++ feeds))
      (before (taken_by (old ++ feeds)) (taken_by (new ++ feeds)) left took)
      (IsPermutation-trans (taken_by (new ++ feeds) ++ left) (pushed_by (new ++ feeds)) (pushed_by (old ++ feeds)) is
      (IsPermutation-sym (pushed_by (old ++ feeds)) (pushed_by (new ++ feeds)) put))
