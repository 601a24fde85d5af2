-- All handles and feeds of a pool are given: then all shares of its queues are, and what is left is what was pushed and not
-- taken.
use Rattle.std.proofs.Common.{◌≡◌, ◌⊎◌, inl, inr, ℕ, zero, suc, ◌+◌, ◌*◌, ◌<◌, ◌≤◌, List, [], ◌∷◌, ◌++◌, length, get_or, take, drop, replicate}
use Rattle.std.proofs.Common.{sym, refl, ap, ◌∙◌, subst, map, arith, append_assoc, append-nil}
use Rattle.std.specs.Prelude.{All, IsPermutation, Option, Some, flat_map, sum_by}
use Rattle.std.proofs.lemmas.List.{map-append, map_push, get_or-map, length-append, length-map, length-take, length-drop, drop_all}
use Rattle.std.proofs.Math.Nat.{mul_comm, suc-mul}
use Rattle.std.proofs.lemmas.List.Concat.{flat_map-append}
use Rattle.std.proofs.lemmas.List.Elements.{All-nil, All-cons, All-head, All-tail, All-append, All-weaker, All-drop, All-take, All-map}
use Rattle.std.proofs.lemmas.List.Elements.{All-replicate}
use Rattle.std.proofs.lemmas.List.Sorted.{IsPermutation-refl, IsPermutation-sym, IsPermutation-trans}
use Rattle.std.proofs.lemmas.List.Sums.{sum_by-cons, sum_by-append}
use Rattle.mb_gate.specs.declared.claim.Claim.{Claim}
use Rattle.mb_pool.specs.Handles.{AreAlike, AreGathered, AreMatched, Empties, Frame, IsAllOf, IsAmong, MayJoin, TakesIn, Where, shared_ports_of, frame_of}
use Rattle.mb_pool.specs.Handles.{joined, nexts_of, owns_of, shares_in, where_is}
use Rattle.mb_pool.specs.Ledger.{claims_in}
use Rattle.mb_pool.specs.Made.{AreDeques, IsLeft, IsWhole}
use Rattle.mb_gate.specs.Untouched.{Origin}
use Rattle.mb_pool.specs.Places.{AreHandles, AreFeeds, PoolPort, Part, Parts, QueueInfo, PoolEndpoint, PoolView, deque_parts, shared_port_part, handle_parts, feed_parts, ports_of}
use Rattle.mb_pool.specs.Places.{numbers, owner_of, part_of, parts_of, pushed_at, pushed_by, taken_at, taken_by}
use Rattle.mb_pool.proofs.Begins.{cons_head, cons_tail, cons_nil, const_numbers, drop_length, length_numbers, map_map, map_replicate, singles}
use Rattle.mb_pool.proofs.Lists.{same_elements, from_left, behind, before}
use Rattle.mb_pool.proofs.Emptying.{HasAll, HasFew, empties_append, exchange, takes_in_more}
use Rattle.mb_pool.proofs.Ports.{all_unmap}

numbers_at : (first count k e : ℕ) → k < count → get_or (numbers first count) k e ≡ first + k
numbers_at first zero k e lt = absurd (omega (arith, lt))
numbers_at first (suc count) zero e lt = omega arith
numbers_at first (suc count) (suc k) e lt = let r = numbers_at (first + 1) count k e (omega (arith, lt)) in omega (arith, r)

-- numbers that are at most m each and m on the average are m each
all_most : {X : Type 0} (f : X → ℕ) (m : ℕ) (xs : List X) → All (λ x. f x ≤ m) xs → length xs * m ≤ sum_by f xs → All (λ x. f x ≡ m) xs
all_most f m [] few sum = All-nil (λ x. f x ≡ m)
all_most f m (x ∷ xs) few sum =
    let mine : f x ≤ m = All-head (λ y. f y ≤ m) x xs few in
    let rest = All-tail (λ y. f y ≤ m) x xs few in
    let s = sum_by-cons f x xs in
    let most = at_most f m xs rest in
    let one : suc (length xs) * m ≡ length xs * m + m = suc-mul (length xs) m in
    All-cons (λ y. f y ≡ m) x xs (omega (arith, mine, s, most, one, sum)) (all_most f m xs rest (omega (arith, mine, s, one, sum)))
  where
    at_most : {X : Type 0} (f : X → ℕ) (m : ℕ) (xs : List X) → All (λ x. f x ≤ m) xs → sum_by f xs ≤ length xs * m
    at_most f m [] h = omega arith
    at_most f m (x ∷ xs) h =
        let mine : f x ≤ m = All-head (λ y. f y ≤ m) x xs h in let r = at_most f m xs (All-tail (λ y. f y ≤ m) x xs h) in
        let s = sum_by-cons f x xs in let one : suc (length xs) * m ≡ length xs * m + m = suc-mul (length xs) m in omega (arith, mine, r, s, one)

cut : (ss : List QueueInfo) (k : ℕ) → length (take 1 (drop k ss)) + length (drop (k + 1) ss ++ take k ss) ≡ length ss
cut ss k = let a = length-take 1 (drop k ss) in let b = length-drop k ss in let c = length-append (drop (k + 1) ss) (take k ss) in
    let d = length-drop (k + 1) ss in let e = length-take k ss in omega (arith, a, b, c, d, e)

flat_of : {A B : Type 0} (f : A → List B) (xs : List A) → flat_map f xs ≡ flat_map (λ (l : List B). l) (map f xs)
flat_of f [] = refl
flat_of f (x ∷ xs) = ap (λ l. f x ++ l) (flat_of f xs)

flat_singles : {A B : Type 0} (f : A → B) (xs : List A) → flat_map (λ (l : List B). l) (map (λ x. f x ∷ []) xs) ≡ map f xs
flat_singles f [] = refl
flat_singles f (x ∷ xs) = ap (λ l. f x ∷ l) (flat_singles f xs)

flat_nils : {B : Type 0} (n : ℕ) → flat_map (λ (l : List B). l) (replicate n []) ≡ []
flat_nils zero = refl
flat_nils (suc n) = flat_nils n

module _ {H : Type 0} where
  -- each of the handles, by what is said of the handles of the pool in order
  pub each_handle : (pool : PoolView H) (handles : List (PoolEndpoint H)) → AreHandles pool handles → (Q : Parts H → Type 0) → ((k : ℕ) → Q (handle_parts pool k))
      → All (λ (w : PoolEndpoint H). Q (parts_of w)) handles
  each_handle pool handles e Q h = all_unmap Q (parts_of {H = H}) handles (subst (All Q) (sym e)
      (All-map Q (handle_parts pool) (numbers 0 pool.handles) (all_of (λ k. Q (handle_parts pool k)) h (numbers 0 pool.handles))))
    where
      all_of : (P : ℕ → Type 0) → ((k : ℕ) → P k) → (ks : List ℕ) → All P ks
      all_of P h [] = All-nil P
      all_of P h (k ∷ ks) = All-cons P k ks (h k) (all_of P h ks)

  pub count_of : (pool : PoolView H) (handles : List (PoolEndpoint H)) → AreHandles pool handles → length handles ≡ pool.handles
  count_of pool handles e = sym (length-map handles (parts_of {H = H})) ∙ ap length e ∙ length-map (numbers 0 pool.handles) (handle_parts pool)
      ∙ length_numbers 0 pool.handles

  handle_at : (pool : PoolView H) (handles : List (PoolEndpoint H)) → AreHandles pool handles → (k : ℕ) (d : PoolEndpoint H) → k < length handles
      → parts_of (get_or handles k d) ≡ handle_parts pool k
  handle_at pool handles e k d lt =
      let count = count_of pool handles e in let n = length_numbers 0 pool.handles in
      let there : k < length (numbers 0 pool.handles) = omega (arith, count, n, lt) in
      let small : k < pool.handles = omega (arith, count, lt) in
      sym (get_or-map (parts_of {H = H}) handles k d (parts_of d) lt) ∙ ap (λ l. get_or l k (parts_of d)) e
      ∙ get_or-map (handle_parts pool) (numbers 0 pool.handles) k 0 (parts_of d) there
      ∙ ap (handle_parts pool) (numbers_at 0 pool.handles k 0 small ∙ (let z : 0 + k ≡ k = omega arith in z))

  abbrev pub deque_part : PoolView H → QueueInfo → Part H
  deque_part pool s = record { queue = s; gates = Some pool.gates; members = pool.handles; shares = 1 }

  may_join_one : (xs : List (PoolPort H)) (p : Part H) → map (part_of {H = H}) xs ≡ p ∷ [] → 0 < p.shares → MayJoin xs p
  may_join_one [] p e some = absurd (cons_nil p [] (sym e))
  may_join_one (x ∷ xs) p e some = (sym (ap (λ (q : Part H). q.queue) (cons_head (part_of x) p (map (part_of {H = H}) xs) [] e)), some)

  -- the deque at each index is that of the handle with this number
  own_deques : (pool : PoolView H) (handles : List (PoolEndpoint H)) → AreHandles pool handles → (pre post : List QueueInfo) → pool.deques ≡ pre ++ post
      → length pool.deques ≤ length handles → AreDeques (length pre) post
      → All (λ s. IsAmong handles (deque_part pool s)) post
  own_deques pool handles e pre [] is few h = All-nil (λ s. IsAmong handles (deque_part pool s))
  own_deques pool handles e pre (s ∷ post) is few h =
      let n : ℕ = length pre in
      let number : owner_of s ≡ n = ap owner_of h.0.1 in
      let whole : length pool.deques ≡ length pre + suc (length post) = ap length is ∙ length_append pre (s ∷ post) in
      let lt : n < length handles = omega (arith, whole, few) in
      let own_deque : (d : PoolEndpoint H) → map (part_of {H = H}) (get_or handles n d).own_deque ≡ deque_part pool s ∷ []
      = λ d. ap (λ (p : Parts H). p.own_deque) (handle_at pool handles e n d lt) ∙ ap (λ l. deque_parts pool (take 1 (drop n l))) is
      ∙ ap (λ l. deque_parts pool (take 1 l)) (drop_length pre (s ∷ post)) in
      let here : IsAmong handles (deque_part pool s) = subst (λ k. (k < length handles)
      × ((d : PoolEndpoint H) → MayJoin (get_or handles k d).own_deque (deque_part pool s))) (sym number)
      (lt, λ d. may_join_one (get_or handles n d).own_deque (deque_part pool s) (own_deque d) (omega arith)) in
      let more : length (pre ++ s ∷ []) ≡ n + 1 = length_append pre (s ∷ []) in
      All-cons (λ t. IsAmong handles (deque_part pool t)) s post here
      (own_deques pool handles e (pre ++ s ∷ []) post (is ∙ sym (append_assoc pre (s ∷ []) post)) few (subst (λ k. AreDeques k post) (sym more) h.1))
    where
      length_append : (xs ys : List QueueInfo) → length (xs ++ ys) ≡ length xs + length ys
      length_append [] ys = omega arith
      length_append (x ∷ xs) ys = let r = length_append xs ys in omega (arith, r)

  pub matched : (pool : PoolView H) (handles : List (PoolEndpoint H)) → IsWhole pool → AreHandles pool handles → AreMatched handles
  matched pool handles w e =
      let ds : List QueueInfo = pool.deques in
      let Fits : QueueInfo → Type 0 = λ s. IsAmong handles (deque_part pool s) in
      let count = count_of pool handles e in
      let all : All Fits ds = own_deques pool handles e [] ds refl (few w.same_count count) w.deques in
      flat handles (each_handle pool handles e (λ (p : Parts H). All (IsAmong handles) p.next)
      (λ k. All-map (IsAmong handles) (deque_part pool) (drop (k + 1) ds ++ take k ds)
      (All-append Fits (drop (k + 1) ds) (take k ds) (All-drop Fits (k + 1) ds all) (All-take Fits k ds all))))
    where
      few : (pool.deques ≡ []) ⊎ (length pool.deques ≡ pool.handles) → length handles ≡ pool.handles → length pool.deques ≤ length handles
      few (inl none) count = let z : length pool.deques ≡ 0 = ap length none in omega (arith, z)
      few (inr all) count = omega (arith, all, count)

      flat : (ws : List (PoolEndpoint H)) → All (λ (v : PoolEndpoint H). All (IsAmong handles) (parts_of v).next) ws
          → All (λ (l : PoolPort H). IsAmong handles (part_of l)) (nexts_of ws)
      flat [] h = All-nil (λ (l : PoolPort H). IsAmong handles (part_of l))
      flat (v ∷ ws) h = All-append (λ (l : PoolPort H). IsAmong handles (part_of l)) v.next (nexts_of ws)
          (all_unmap (IsAmong handles) (part_of {H = H}) v.next (All-head (λ (u : PoolEndpoint H). All (IsAmong handles) (parts_of u).next) v ws h))
          (flat ws (All-tail (λ (u : PoolEndpoint H). All (IsAmong handles) (parts_of u).next) v ws h))

  -- how many shares these ports have, when each has one
  pub sum_parts : (ls : List (PoolPort H)) → shares_in ls ≡ sum_by (λ (p : Part H). p.shares) (map (part_of {H = H}) ls)
  sum_parts [] = refl
  sum_parts (l ∷ ls) =
      let a = sum_by-cons (λ (x : PoolPort H). x.ledger.shares) l ls in let b =
      sum_by-cons (λ (p : Part H). p.shares) (part_of l) (map (part_of {H = H}) ls) in let r = sum_parts ls in omega (arith, a, b, r)

  sum_deques : (pool : PoolView H) (ss : List QueueInfo) → sum_by (λ (p : Part H). p.shares) (deque_parts pool ss) ≡ length ss
  sum_deques pool [] = refl
  sum_deques pool (s ∷ ss) = let a = sum_by-cons (λ (p : Part H). p.shares) (deque_part pool s) (deque_parts pool ss) in
      let r = sum_deques pool ss in omega (arith, a, r)

  pub sum_ones : (n : ℕ) (p : Part H) → p.shares ≡ 1 → sum_by (λ (q : Part H). q.shares) (replicate n p) ≡ n
  sum_ones zero p e = refl
  sum_ones (suc n) p e = let a = sum_by-cons (λ (q : Part H). q.shares) p (replicate n p) in let r = sum_ones n p e in omega (arith, a, r, e)

  totals : (ws : List (PoolEndpoint H)) (m : ℕ) → All (λ (w : PoolEndpoint H). shares_in w.own_deque + shares_in w.next ≡ m) ws
      → shares_in (owns_of ws) + shares_in (nexts_of ws) ≡ length ws * m
  totals [] m h = omega arith
  totals (w ∷ ws) m h =
      let P : PoolEndpoint H → Type 0 = λ v. shares_in v.own_deque + shares_in v.next ≡ m in
      let f : PoolPort H → ℕ = λ l. l.ledger.shares in
      let mine = All-head P w ws h in let r = totals ws m (All-tail P w ws h) in
      let a = sum_by-append f w.own_deque (owns_of ws) in let b = sum_by-append f w.next (nexts_of ws) in
      let one : suc (length ws) * m ≡ length ws * m + m = suc-mul (length ws) m in omega (arith, mine, r, a, b, one)

  all_shares : (pool : PoolView H) (handles : List (PoolEndpoint H)) → AreHandles pool handles
      → shares_in (owns_of handles) + shares_in (nexts_of handles) ≡ pool.handles * length pool.deques
  all_shares pool handles e =
      let ds : List QueueInfo = pool.deques in
      let sum : List (Part H) → ℕ = sum_by (λ (p : Part H). p.shares) in
      let Q : Parts H → Type 0 = λ p. sum p.own_deque + sum p.next ≡ length ds in
      let each = each_handle pool handles e Q (λ k. (λ i. sum_deques pool (take 1 (drop k ds)) i + sum_deques pool (drop (k + 1) ds ++ take k ds) i)
      ∙ cut ds k) in
      let all = All-weaker (λ (w : PoolEndpoint H). Q (parts_of w)) (λ (w : PoolEndpoint H). shares_in w.own_deque + shares_in w.next ≡ length ds)
      (λ w h. (λ i. sum_parts w.own_deque i + sum_parts w.next i) ∙ h) handles each in
      totals handles (length ds) all ∙ ap (λ n. n * length ds) (count_of pool handles e)

  owns_flat : (ws : List (PoolEndpoint H)) → map (part_of {H = H}) (owns_of ws) ≡ flat_map (λ (p : Parts H). p.own_deque) (map (parts_of {H = H}) ws)
  owns_flat [] = refl
  owns_flat (w ∷ ws) = map-append (part_of {H = H}) w.own_deque (owns_of ws) ∙ ap (λ l. map (part_of {H = H}) w.own_deque ++ l) (owns_flat ws)

  -- the handles' own deques are the deques of the pool
  own_parts : (pool : PoolView H) (handles : List (PoolEndpoint H)) → IsWhole pool → AreHandles pool handles
      → map (part_of {H = H}) (owns_of handles) ≡ deque_parts pool pool.deques
  own_parts pool handles w e =
      let ds : List QueueInfo = pool.deques in
      let at : ℕ → List (Part H) = λ k. deque_parts pool (take 1 (drop k ds)) in
      owns_flat handles ∙ ap (flat_map (λ (p : Parts H). p.own_deque)) e ∙ flat_of (λ (p : Parts H). p.own_deque) (map (handle_parts pool) (numbers 0 pool.handles))
      ∙ ap (flat_map (λ (l : List (Part H)). l)) (map_map (λ (p : Parts H). p.own_deque) (handle_parts pool) (numbers 0 pool.handles)) ∙ by_kind w.same_count
    where
      by_kind : (pool.deques ≡ []) ⊎ (length pool.deques ≡ pool.handles)
          → flat_map (λ (l : List (Part H)). l) (map (λ (k : ℕ). deque_parts pool (take 1 (drop k pool.deques)))
          (numbers 0 pool.handles)) ≡ deque_parts pool pool.deques
      by_kind (inl none) =
          ap (flat_map (λ (l : List (Part H)). l)) (const_numbers (λ (k : ℕ). deque_parts pool (take 1 (drop k pool.deques))) []
          (λ k. ap (λ l. deque_parts pool (take 1 l)) (ap (drop k) none ∙ drop_all k [] (omega arith))) 0 pool.handles)
          ∙ flat_nils pool.handles ∙ sym (ap (deque_parts pool) none)
      by_kind (inr all) =
          ap (λ n. flat_map (λ (l : List (Part H)). l) (map (λ (k : ℕ). deque_parts pool (take 1 (drop k pool.deques))) (numbers 0 n))) (sym all)
          ∙ ap (flat_map (λ (l : List (Part H)). l)) (sym (singles (deque_part pool) [] pool.deques)) ∙ flat_singles (deque_part pool) pool.deques

  owns_where : (old new : List (PoolEndpoint H)) → map (frame_of {H = H}) new ≡ map (frame_of {H = H}) old
      → map (where_is {H = H}) (owns_of new) ≡ map (where_is {H = H}) (owns_of old)
  owns_where old new e = flat new ∙ ap (flat_map (λ (f : Frame H). f.own_deque)) e ∙ sym (flat old)
    where
      flat : (ws : List (PoolEndpoint H)) → map (where_is {H = H}) (owns_of ws) ≡ flat_map (λ (f : Frame H). f.own_deque) (map (frame_of {H = H}) ws)
      flat [] = refl
      flat (w ∷ ws) = map-append (where_is {H = H}) w.own_deque (owns_of ws) ∙ ap (λ l. map (where_is {H = H}) w.own_deque ++ l) (flat ws)

  pub shared_ports_same : (old new : List (PoolEndpoint H)) → map (frame_of {H = H}) new ≡ map (frame_of {H = H}) old → shared_ports_of new ≡ shared_ports_of old
  shared_ports_same old new e = sym (map_map (λ (f : Frame H). f.shared_port) (frame_of {H = H}) new) ∙ ap (map (λ (f : Frame H). f.shared_port)) e
      ∙ map_map (λ (f : Frame H). f.shared_port) (frame_of {H = H}) old

  -- the queue that all share, as each port of it has it
  abbrev pub shared_port_where : PoolView H → Where H
  shared_port_where pool = record { queue = pool.shared_port; gates = Some pool.gates; members = pool.handles + pool.feeds }

  abbrev where_of : Part H → Where H
  where_of p = record { queue = p.queue; gates = p.gates; members = p.members }

  pub handle_shared_ports : (pool : PoolView H) (handles : List (PoolEndpoint H)) → AreHandles pool handles
      → map (part_of {H = H}) (shared_ports_of handles) ≡ replicate pool.handles (shared_port_part pool)
  handle_shared_ports pool handles e = map_map (part_of {H = H}) (λ (w : PoolEndpoint H). w.shared_port) handles ∙ sym (map_map (λ (p : Parts H). p.shared_port) (parts_of {H = H}) handles)
      ∙ ap (map (λ (p : Parts H). p.shared_port)) e
      ∙ map_map (λ (p : Parts H). p.shared_port) (handle_parts pool) (numbers 0 pool.handles)
      ∙ const_numbers (λ (k : ℕ). shared_port_part pool) (shared_port_part pool) (λ k. refl) 0 pool.handles

  pub feed_shared_ports : (pool : PoolView H) (feeds : List (PoolEndpoint H)) → AreFeeds pool feeds
      → map (part_of {H = H}) (shared_ports_of feeds) ≡ replicate pool.feeds (shared_port_part pool)
  feed_shared_ports pool feeds e = map_map (part_of {H = H}) (λ (w : PoolEndpoint H). w.shared_port) feeds
      ∙ sym (map_map (λ (p : Parts H). p.shared_port) (parts_of {H = H}) feeds) ∙ ap (map (λ (p : Parts H). p.shared_port)) e
      ∙ map_replicate (λ (p : Parts H). p.shared_port) pool.feeds (feed_parts pool)

  pub all_here : (pool : PoolView H) (ls : List (PoolPort H)) (n : ℕ) → map (part_of {H = H}) ls ≡ replicate n (shared_port_part pool)
      → All (λ (l : PoolPort H). where_is l ≡ shared_port_where pool) ls
  all_here pool ls n e = all_unmap (λ (p : Part H). where_of p ≡ shared_port_where pool) (part_of {H = H}) ls
      (subst (All (λ (p : Part H). where_of p ≡ shared_port_where pool)) (sym e)
      (All-replicate (λ (p : Part H). where_of p ≡ shared_port_where pool) n (shared_port_part pool) refl))

  pub alike : (pool : PoolView H) (ls : List (PoolPort H)) → All (λ (l : PoolPort H). where_is l ≡ shared_port_where pool) ls → AreAlike ls
  alike pool [] h = tt
  alike pool (l ∷ ls) h =
      let P : PoolPort H → Type 0 = λ x. where_is x ≡ shared_port_where pool in let mine : where_is l ≡ shared_port_where pool = All-head P l ls h in
      All-weaker P (λ (x : PoolPort H). where_is x ≡ where_is l) (λ x e. e ∙ sym mine) ls (All-tail P l ls h)

  pub handles_alike : (pool : PoolView H) (handles now : List (PoolEndpoint H)) → AreHandles pool handles → AreGathered handles now → AreAlike (shared_ports_of now)
  handles_alike pool handles now e g = alike pool (shared_ports_of now) (subst (All (λ (l : PoolPort H). where_is l ≡ shared_port_where pool))
      (sym (shared_ports_same handles now g.frames)) (all_here pool (shared_ports_of handles) pool.handles (handle_shared_ports pool handles e)))

  pub all_of_where : (pool : PoolView H) (ls : List (PoolPort H)) (shared_port : PoolPort H) → All (λ (l : PoolPort H). where_is l ≡ shared_port_where pool) ls → IsAllOf ls shared_port
      → where_is shared_port ≡ shared_port_where pool
  all_of_where pool [] shared_port h is = absurd is
  all_of_where pool (l ∷ ls) shared_port h is = is.same ∙ All-head (λ (x : PoolPort H). where_is x ≡ shared_port_where pool) l ls h

  pub all_of_shares : (ls : List (PoolPort H)) (shared_port : PoolPort H) → IsAllOf ls shared_port → shared_port.ledger.shares ≡ shares_in ls
  all_of_shares [] shared_port is = absurd is
  all_of_shares (l ∷ ls) shared_port is = let a = is.shares in let b = sum_by-cons (λ (x : PoolPort H). x.ledger.shares) l ls in omega (arith, a, b)

  all_of_pushed : (ls : List (PoolPort H)) (shared_port : PoolPort H) → IsAllOf ls shared_port → claims_in shared_port.ledger.pushed ≡ pushed_at ls
  all_of_pushed [] shared_port is = absurd is
  all_of_pushed (l ∷ ls) shared_port is = is.pushed

  all_of_taken : (ls : List (PoolPort H)) (shared_port : PoolPort H) → IsAllOf ls shared_port → claims_in shared_port.ledger.taken ≡ taken_at ls
  all_of_taken [] shared_port is = absurd is
  all_of_taken (l ∷ ls) shared_port is = is.taken

  -- all that is known of handles without ports of the other deques
  spread : (f : PoolPort H → List (Claim H)) (ws : List (PoolEndpoint H)) → nexts_of ws ≡ []
      → IsPermutation (flat_map (λ (v : PoolEndpoint H). flat_map f (ports_of v)) ws) (flat_map f (owns_of ws) ++ flat_map f (shared_ports_of ws))
  spread f [] none = IsPermutation-refl []
  spread f (w ∷ ws) none =
      let mine : w.next ≡ [] = first_nil w.next (nexts_of ws) none in let rest : nexts_of ws ≡ [] = second_nil w.next (nexts_of ws) none in
      let o : List (Claim H) = flat_map f w.own_deque in let d : List (Claim H) = f w.shared_port in
      let os : List (Claim H) = flat_map f (owns_of ws) in let ds : List (Claim H) = flat_map f (shared_ports_of ws) in
      let all : List (Claim H) = flat_map (λ (v : PoolEndpoint H). flat_map f (ports_of v)) ws in
      let here : flat_map f (ports_of w) ≡ o ++ d = ap (λ n. flat_map f (w.own_deque ++ w.shared_port ∷ n)) mine ∙ flat_map-append f w.own_deque (w.shared_port ∷ [])
      ∙ ap (λ l. o ++ l) (append-nil d) in
      let to : (o ++ os) ++ (d ++ ds) ≡ flat_map f (w.own_deque ++ owns_of ws) ++ (d ++ ds) =
      ap (λ l. l ++ (d ++ ds)) (sym (flat_map-append f w.own_deque (owns_of ws))) in
      from_left (flat_map f (ports_of w) ++ all) ((o ++ d) ++ all) (flat_map f (w.own_deque ++ owns_of ws) ++ (d ++ ds)) (ap (λ l. l ++ all) here)
      (IsPermutation-trans ((o ++ d) ++ all) ((o ++ d) ++ (os ++ ds)) (flat_map f (w.own_deque ++ owns_of ws) ++ (d ++ ds))
      (behind (o ++ d) all (os ++ ds) (spread f ws rest))
      (IsPermutation-trans ((o ++ d) ++ (os ++ ds)) ((o ++ os) ++ (d ++ ds)) (flat_map f (w.own_deque ++ owns_of ws) ++ (d ++ ds)) (exchange o d os ds)
      (same_elements ((o ++ os) ++ (d ++ ds)) (flat_map f (w.own_deque ++ owns_of ws) ++ (d ++ ds)) to)))
    where
      first_nil : (xs ys : List (PoolPort H)) → xs ++ ys ≡ [] → xs ≡ []
      first_nil [] ys e = refl
      first_nil (x ∷ xs) ys e = absurd (cons_nil x (xs ++ ys) e)

      second_nil : (xs ys : List (PoolPort H)) → xs ++ ys ≡ [] → ys ≡ []
      second_nil [] ys e = e
      second_nil (x ∷ xs) ys e = absurd (cons_nil x (xs ++ ys) e)

  -- feeds have ports of the queue that all share alone
  feeds_flat : (f : PoolPort H → List (Claim H)) (pool : PoolView H) (n : ℕ) (feeds : List (PoolEndpoint H))
      → map (parts_of {H = H}) feeds ≡ replicate n (feed_parts pool)
      → flat_map (λ (v : PoolEndpoint H). flat_map f (ports_of v)) feeds ≡ flat_map f (shared_ports_of feeds)
  feeds_flat f pool n [] e = refl
  feeds_flat f pool zero (w ∷ feeds) e = absurd (cons_nil (parts_of w) (map (parts_of {H = H}) feeds) e)
  feeds_flat f pool (suc n) (w ∷ feeds) e =
      let mine : parts_of w ≡ feed_parts pool = cons_head (parts_of w) (feed_parts pool) (map (parts_of {H = H}) feeds)
      (replicate n (feed_parts pool)) e in
      let rest = feeds_flat f pool n feeds (cons_tail (parts_of w) (feed_parts pool) (map (parts_of {H = H}) feeds)
      (replicate n (feed_parts pool)) e) in
      let own_deque : w.own_deque ≡ [] = no_parts w.own_deque (ap (λ (p : Parts H). p.own_deque) mine) in
      let next : w.next ≡ [] = no_parts w.next (ap (λ (p : Parts H). p.next) mine) in
      (λ i. flat_map f (own_deque i ++ w.shared_port ∷ next i) ++ rest i) ∙ ap (λ l. l ++ flat_map f (shared_ports_of feeds)) (append-nil (f w.shared_port))
    where
      no_parts : (xs : List (PoolPort H)) → map (part_of {H = H}) xs ≡ [] → xs ≡ []
      no_parts [] e = refl
      no_parts (x ∷ xs) e = absurd (cons_nil (part_of x) (map (part_of {H = H}) xs) e)

module _ {H : Type 0} (IsFit : Option (Origin H) → Claim H → Type 0) (pool : PoolView H) (handles feeds now : List (PoolEndpoint H)) (first last : PoolPort H)
    (whole : IsWhole pool) (are_handles : AreHandles pool handles) (are_feeds : AreFeeds pool feeds)
    (gathered : AreGathered handles now) (is_first : IsAllOf (shared_ports_of now) first) (is_last : TakesIn first (shared_ports_of feeds) last) where
  abbrev pub ports : List (PoolPort H)
  ports = owns_of now ++ last ∷ []

  here : All (λ (l : PoolPort H). where_is l ≡ shared_port_where pool) (shared_ports_of now)
  here = subst (All (λ (l : PoolPort H). where_is l ≡ shared_port_where pool)) (sym (shared_ports_same handles now gathered.frames))
      (all_here pool (shared_ports_of handles) pool.handles (handle_shared_ports pool handles are_handles))

  pub first_where : where_is first ≡ shared_port_where pool
  first_where = all_of_where pool (shared_ports_of now) first here is_first

  pub last_where : where_is last ≡ shared_port_where pool
  last_where = is_last.same ∙ first_where

  -- the last port of the queue that all share has all its shares
  last_whole : HasAll last
  last_whole =
      let a = is_last.shares in let b = all_of_shares (shared_ports_of now) first is_first in
      let c : shares_in (shared_ports_of now) ≡ pool.handles = ap shares_in (shared_ports_same handles now gathered.frames) ∙ sum_parts (shared_ports_of handles)
      ∙ ap (sum_by (λ (p : Part H). p.shares)) (handle_shared_ports pool handles are_handles) ∙ sum_ones pool.handles (shared_port_part pool) refl in
      let d : shares_in (shared_ports_of feeds) ≡ pool.feeds = sum_parts (shared_ports_of feeds)
      ∙ ap (sum_by (λ (p : Part H). p.shares)) (feed_shared_ports pool feeds are_feeds) ∙ sum_ones pool.feeds (shared_port_part pool) refl in
      let e : last.ledger.members ≡ pool.handles + pool.feeds = ap (λ (w : Where H). w.members) last_where in
      omega (arith, a, b, c, d, e)

  owns_at : map (where_is {H = H}) (owns_of now) ≡ map (λ (s : QueueInfo). where_of (deque_part pool s)) pool.deques
  owns_at = owns_where handles now gathered.frames ∙ sym (map_map (where_of {H = H}) (part_of {H = H}) (owns_of handles))
      ∙ ap (map (where_of {H = H})) (own_parts pool handles whole are_handles)
      ∙ map_map (where_of {H = H}) (deque_part pool) pool.deques

  all_members : All (λ (l : PoolPort H). l.ledger.members ≡ pool.handles) (owns_of now)
  all_members = all_unmap (λ (w : Where H). w.members ≡ pool.handles) (where_is {H = H}) (owns_of now)
      (subst (All (λ (w : Where H). w.members ≡ pool.handles)) (sym owns_at) (each pool.deques))
    where
      each : (ss : List QueueInfo) → All (λ (w : Where H). w.members ≡ pool.handles) (map (λ (s : QueueInfo). where_of (deque_part pool s)) ss)
      each [] = All-nil (λ (w : Where H). w.members ≡ pool.handles)
      each (s ∷ ss) = All-cons (λ (w : Where H). w.members ≡ pool.handles) (where_of (deque_part pool s))
          (map (λ (t : QueueInfo). where_of (deque_part pool t)) ss) refl (each ss)

  -- and so has that of each deque, since no port has more than all shares of its queue
  owns_whole : All (HasFew {H = H}) (owns_of now) → All (HasAll {H = H}) (owns_of now)
  owns_whole few =
      let Is : PoolPort H → Type 0 = λ l. l.ledger.members ≡ pool.handles in
      let Most : PoolPort H → Type 0 = λ l. l.ledger.shares ≤ pool.handles in
      let Each : PoolPort H → Type 0 = λ l. l.ledger.shares ≡ pool.handles in
      let most : All Most (owns_of now) = both (HasFew {H = H}) Is Most (λ l f m. omega (arith, f, m)) (owns_of now) few all_members in
      let count : length (owns_of now) ≡ length pool.deques = sym (length-map (owns_of now) (where_is {H = H})) ∙ ap length owns_at
      ∙ length-map pool.deques (λ (s : QueueInfo). where_of (deque_part pool s)) in
      let sum : shares_in (owns_of now) ≡ pool.handles * length pool.deques = gathered.shares ∙ all_shares pool handles are_handles in
      let same : length (owns_of now) * pool.handles ≡ pool.handles * length pool.deques = ap (λ n. n * pool.handles) count
      ∙ mul_comm (length pool.deques) pool.handles in
      both Each Is (HasAll {H = H}) (λ l s m. s ∙ sym m) (owns_of now)
      (all_most (λ (l : PoolPort H). l.ledger.shares) pool.handles (owns_of now) most (omega (arith, same, sum))) all_members
    where
      both : (P Q R : PoolPort H → Type 0) → ((l : PoolPort H) → P l → Q l → R l) → (ls : List (PoolPort H)) → All P ls → All Q ls → All R ls
      both P Q R f [] p q = All-nil R
      both P Q R f (l ∷ ls) p q = All-cons R l ls (f l (All-head P l ls p) (All-head Q l ls q))
          (both P Q R f ls (All-tail P l ls p) (All-tail Q l ls q))

  ports_know : (f : PoolPort H → List (Claim H)) → IsPermutation (flat_map (λ (v : PoolEndpoint H). flat_map f (ports_of v)) now)
      (flat_map (λ (v : PoolEndpoint H). flat_map f (ports_of v)) handles) → f first ≡ flat_map f (shared_ports_of now)
      → f last ≡ flat_map f (first ∷ shared_ports_of feeds) → IsPermutation (flat_map f ports)
      (flat_map (λ (v : PoolEndpoint H). flat_map f (ports_of v)) (handles ++ feeds))
  ports_know f same is_f is_l =
      let F : List (PoolEndpoint H) → List (Claim H) = flat_map (λ (v : PoolEndpoint H). flat_map f (ports_of v)) in
      let o : List (Claim H) = flat_map f (owns_of now) in let d : List (Claim H) = flat_map f (shared_ports_of now) in
      let e : List (Claim H) = flat_map f (shared_ports_of feeds) in
      let from : flat_map f ports ≡ (o ++ d) ++ e = flat_map-append f (owns_of now) (last ∷ [])
      ∙ ap (λ l. o ++ l) (append-nil (f last) ∙ is_l ∙ ap (λ l. l ++ e) is_f) ∙ sym (append_assoc o d e) in
      let to : F (handles ++ feeds) ≡ F handles ++ e = flat_map-append (λ (v : PoolEndpoint H). flat_map f (ports_of v)) handles feeds
      ∙ ap (λ l. F handles ++ l) (feeds_flat f pool pool.feeds feeds are_feeds) in
      from_left (flat_map f ports) ((o ++ d) ++ e) (F (handles ++ feeds)) from
      (IsPermutation-trans ((o ++ d) ++ e) (F now ++ e) (F (handles ++ feeds))
      (before (o ++ d) (F now) e (IsPermutation-sym (F now) (o ++ d) (spread f now gathered.next_workers)))
      (IsPermutation-trans (F now ++ e) (F handles ++ e) (F (handles ++ feeds)) (before (F now) (F handles) e same)
      (same_elements (F handles ++ e) (F (handles ++ feeds)) (sym to))))

  -- what is left
  pub left_is : (mid left : List (Claim H)) → Empties IsFit first.ledger.gates (owns_of now) [] mid
      → Empties IsFit last.ledger.gates (last ∷ []) mid left → IsLeft (handles ++ feeds) left × All (IsFit (Some pool.gates)) left
  left_is mid left p q =
      let gates : last.ledger.gates ≡ Some pool.gates = ap (λ (w : Where H). w.gates) last_where in
      let gates' : first.ledger.gates ≡ Some pool.gates = ap (λ (w : Where H). w.gates) first_where in
      let all = empties_append IsFit (Some pool.gates) (owns_of now) (last ∷ []) [] mid left
      (subst (λ g. Empties IsFit g (owns_of now) [] mid) gates' p) (subst (λ g. Empties IsFit g (last ∷ []) mid left) gates q) in
      let is : all.more ≡ left = sym all.added in
      let shares : All (HasAll {H = H}) ports = All-append (HasAll {H = H}) (owns_of now) (last ∷ []) (owns_whole p.within_limit)
      (All-cons (HasAll {H = H}) last [] last_whole (All-nil (HasAll {H = H}))) in
      let taken : IsPermutation (taken_at ports) (taken_by (handles ++ feeds)) =
      ports_know (λ (l : PoolPort H). claims_in l.ledger.taken) gathered.taken (all_of_taken (shared_ports_of now) first is_first) is_last.taken in
      let pushed : IsPermutation (pushed_at ports) (pushed_by (handles ++ feeds)) =
      ports_know (λ (l : PoolPort H). claims_in l.ledger.pushed) gathered.pushed (all_of_pushed (shared_ports_of now) first is_first) is_last.pushed in (
        IsPermutation-trans (taken_by (handles ++ feeds) ++ left) (taken_at ports ++ left) (pushed_by (handles ++ feeds))
            (before (taken_by (handles ++ feeds)) (taken_at ports) left (IsPermutation-sym (taken_at ports) (taken_by (handles ++ feeds)) taken))
            (IsPermutation-trans (taken_at ports ++ left) (pushed_at ports) (pushed_by (handles ++ feeds))
            (subst (λ l. IsPermutation (taken_at ports ++ l) (pushed_at ports)) is (all.whole shares)) pushed),
        subst (All (IsFit (Some pool.gates))) is all.fit,
      )

-- One handle more was taken apart: its own deque was emptied, and its port of the queue that all share was joined.
module _ {H : Type 0} (IsFit : Option (Origin H) → Claim H → Type 0) where
  pub one_more_shared_port : (base shared_port other : PoolPort H) (done : List (PoolEndpoint H)) (handle : PoolEndpoint H) → TakesIn base (shared_ports_of done) shared_port → other ≡ handle.shared_port
      → TakesIn base (shared_ports_of (done ++ handle ∷ [])) (joined shared_port other)
  one_more_shared_port base shared_port other done handle t e =
      subst (λ (y : List (PoolPort H) × PoolPort H). TakesIn base y.0 (joined shared_port y.1)) (λ i. (sym (map_push (λ (w : PoolEndpoint H). w.shared_port) done handle) i, sym e i))
      (takes_in_more base (shared_ports_of done) shared_port handle.shared_port t)

  pub one_more_own : (base : PoolPort H) (done : List (PoolEndpoint H)) (handle : PoolEndpoint H) (a b c : List (Claim H))
      → Empties IsFit base.ledger.gates (owns_of done) a b → where_is handle.shared_port ≡ where_is base
      → Empties IsFit handle.shared_port.ledger.gates handle.own_deque b c → Empties IsFit base.ledger.gates (owns_of (done ++ handle ∷ [])) a c
  one_more_own base done handle a b c p alike' q =
      let owns : owns_of (done ++ handle ∷ []) ≡ owns_of done ++ handle.own_deque = flat_map-append (λ (w : PoolEndpoint H). w.own_deque) done (handle ∷ [])
      ∙ ap (λ l. owns_of done ++ l) (append-nil handle.own_deque) in
      subst (λ l. Empties IsFit base.ledger.gates l a c) (sym owns)
      (empties_append IsFit base.ledger.gates (owns_of done) handle.own_deque a b c p
      (subst (λ g. Empties IsFit g handle.own_deque b c) (ap (λ (w : Where H). w.gates) alike') q))
