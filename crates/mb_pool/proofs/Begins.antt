-- How the ports of a new pool are made, step by step.
use Rattle.std.proofs.Common.{◌≡◌, ℕ, zero, suc, ◌+◌, ◌-◌, ◌<◌, ◌≤◌, List, [], ◌∷◌, ◌++◌, length, get_or, set, take, drop, sym, refl, ap, ◌∙◌}
use Rattle.std.proofs.Common.{subst, map, arith, append_assoc, append-nil, replicate, inl, inr}
use Rattle.std.specs.Prelude.{All, Option, Some, None}
use Rattle.std.proofs.lemmas.List.{map-append, map_push, take-map, drop-map, length-drop, length-map, length_push, drop_all, take_all}
use Rattle.std.proofs.lemmas.List.Elements.{All-nil, All-cons, All-head, All-tail, All-map, All-append, All-replicate, All-weaker}
use Rattle.mb_msg.specs.declared.pool_kind.PoolKind.{PoolKind}
use Rattle.mb_msg.specs.declared.pool_kind.PoolKind.TheVariants.{Shared, Stealing}
use Rattle.mb_pool.specs.declared.worker_deques.WorkerDeques.{WorkerDeques}
use Rattle.mb_pool.specs.Begins.{AreWorkerDeques, AreNew, AreNewOf, borrowed, borrowed_next, bound_of, fresh, lent, new_shared_port, with_shares}
use Rattle.mb_pool.specs.Made.{AreDeques, AreUnused, IsNewPool, IsDeque, IsOfKind, IsWhole, queues_of}
use Rattle.mb_gate.specs.Untouched.{Origin}
use Rattle.mb_pool.specs.Places.{AreHandles, AreFeeds, PoolPort, Parts, QueueInfo, PoolEndpoint, PoolView, shared_port_part, ports_of}
use Rattle.mb_pool.specs.Places.{numbers, part_of, parts_of, pushed_at, taken_at}
use Rattle.mb_pool.specs.Ledger.{claims_in, opened}
use Rattle.mb_pool.specs.Endpoints.{AreOpen, IsOpenPort, next_of, of_feed, own_of, endpoint_of}

module _ {A : Type 0} where
  -- the first ones mapped, the rest as they are
  abbrev pub upto : (A → A) → ℕ → List A → List A
  upto f i xs = map f (take i xs) ++ drop i xs

  pub upto_none : (f : A → A) (xs : List A) → upto f 0 xs ≡ xs
  upto_none f xs = refl

  pub upto_all : (f : A → A) (xs : List A) (i : ℕ) → length xs ≤ i → upto f i xs ≡ map f xs
  upto_all f xs i le = (λ k. map f (take_all i xs le k) ++ drop_all i xs le k) ∙ append-nil (map f xs)

  pub upto_at : (f : A → A) (xs : List A) (i : ℕ) (d : A) → get_or (upto f i xs) i d ≡ get_or xs i d
  upto_at f [] zero d = refl
  upto_at f [] (suc i) d = refl
  upto_at f (x ∷ xs) zero d = refl
  upto_at f (x ∷ xs) (suc i) d = upto_at f xs i d

  pub upto_set : (f : A → A) (xs : List A) (i : ℕ) (d : A) → i < length xs → set (upto f i xs) i (f (get_or xs i d)) ≡ upto f (suc i) xs
  upto_set f [] i d lt = absurd (omega (arith, lt))
  upto_set f (x ∷ xs) zero d lt = refl
  upto_set f (x ∷ xs) (suc i) d lt = ap (λ l. f x ∷ l) (upto_set f xs i d (omega (arith, lt)))

  pub take_suc : (xs : List A) (i : ℕ) (d : A) → i < length xs → take (suc i) xs ≡ take i xs ++ get_or xs i d ∷ []
  take_suc [] i d lt = absurd (omega (arith, lt))
  take_suc (x ∷ xs) zero d lt = refl
  take_suc (x ∷ xs) (suc i) d lt = ap (λ l. x ∷ l) (take_suc xs i d (omega (arith, lt)))

  pub drop_suc : (xs : List A) (i : ℕ) (d : A) → i < length xs → drop i xs ≡ get_or xs i d ∷ drop (suc i) xs
  drop_suc [] i d lt = absurd (omega (arith, lt))
  drop_suc (x ∷ xs) zero d lt = refl
  drop_suc (x ∷ xs) (suc i) d lt = drop_suc xs i d (omega (arith, lt))

  pub all_const : (P : Type 0) (xs : List A) → (0 < length xs → P) → All (λ _. P) xs
  all_const P [] h = All-nil (λ _. P)
  all_const P (x ∷ xs) h = let p : P = h (omega arith) in All-cons (λ _. P) x xs p (all_const P xs (λ _. p))

pub map_map : {A B C : Type 0} (f : B → C) (g : A → B) (xs : List A) → map f (map g xs) ≡ map (λ x. f (g x)) xs
map_map f g [] = refl
map_map f g (x ∷ xs) = ap (λ l. f (g x) ∷ l) (map_map f g xs)

pub map_replicate : {A B : Type 0} (f : A → B) (n : ℕ) (x : A) → map f (replicate n x) ≡ replicate n (f x)
map_replicate f zero x = refl
map_replicate f (suc n) x = ap (λ l. f x ∷ l) (map_replicate f n x)

pub length_numbers : (first count : ℕ) → length (numbers first count) ≡ count
length_numbers first zero = refl
length_numbers first (suc count) = ap suc (length_numbers (first + 1) count)

pub numbers_push : (first count : ℕ) → numbers first (suc count) ≡ numbers first count ++ (first + count) ∷ []
numbers_push first zero = ap (λ n. n ∷ []) (omega arith)
numbers_push first (suc count) = ap (λ l. first ∷ l) (numbers_push (first + 1) count ∙ ap (λ n. numbers (first + 1) count ++ n ∷ []) (omega arith))

pub deques_push : (first : ℕ) (queues : List QueueInfo) (queue : QueueInfo) → AreDeques first queues → IsDeque (first + length queues) queue
    → AreDeques first (queues ++ queue ∷ [])
deques_push first [] queue h is = let e : first + 0 ≡ first = omega arith in (subst (λ n. IsDeque n queue) e is, tt)
deques_push first (s ∷ queues) queue h is = let e : first + suc (length queues) ≡ first + 1 + length queues = omega arith in
    (h.0, deques_push (first + 1) queues queue h.1 (subst (λ n. IsDeque n queue) e is))

module _ {H : Type 0} where
  pub new_none : (o : Origin H) (shares : ℕ) → AreNew o shares 0 []
  new_none o shares = record { same_count = refl; unused = refl; deques = tt }

  pub new_more : (o : Origin H) (shares count : ℕ) (owns : List (PoolPort H)) (own_deque : PoolPort H) → AreNew o shares count owns → IsDeque count own_deque.queue
      → own_deque ≡ fresh o shares shares own_deque.queue
      → AreNew o shares (count + 1) (owns ++ own_deque ∷ [])
  new_more o shares count owns own_deque new is e =
      let queues : queues_of (owns ++ own_deque ∷ []) ≡ queues_of owns ++ own_deque.queue ∷ [] = map_push (λ (l : PoolPort H). l.queue) owns own_deque in
      let there : count ≡ 0 + length (queues_of owns) = let l = length-map owns (λ (l : PoolPort H). l.queue) in let m = new.same_count in omega (arith, l, m) in
      record {
        same_count = length_push owns own_deque ∙ ap (λ n. n + 1) new.same_count;
        unused = (λ k. new.unused k ++ e k ∷ []) ∙ sym (map_push (fresh o shares shares) (queues_of owns) own_deque.queue)
            ∙ ap (map (fresh o shares shares)) (sym queues);
        deques = subst (AreDeques 0) (sym queues) (deques_push 0 (queues_of owns) own_deque.queue new.deques (subst (λ n. IsDeque n own_deque.queue) there is));
      }

  pub new_opened : (o : Origin H) (shares count : ℕ) (owns : List (PoolPort H)) (own_deque own_deque' : PoolPort H) → AreNew o shares count owns → IsDeque count own_deque.queue
      → own_deque' ≡ record own_deque { ledger = opened (Some o) shares shares }
      → AreNew o shares (count + 1) (owns ++ own_deque' ∷ [])
  new_opened o shares count owns own_deque own_deque' new is e =
      let queue : own_deque'.queue ≡ own_deque.queue = ap (λ (l : PoolPort H). l.queue) e in
      new_more o shares count owns own_deque' new (subst (IsDeque count) (sym queue) is) (e ∙ ap (fresh o shares shares) (sym queue))

  -- the ports after some handles borrowed of the next ones: rotated once for each handle, with the shares that they have then
  abbrev pub rotated : List (PoolPort H) → ℕ → List (PoolPort H)
  rotated owns k = map (with_shares (length owns - k)) (drop k owns) ++ map (with_shares (length owns - k + 1)) (take k owns)

  same_shares : (n : ℕ) (owns : List (PoolPort H)) → All (λ (l : PoolPort H). l.ledger.shares ≡ n) owns → map (with_shares n) owns ≡ owns
  same_shares n [] h = refl
  same_shares n (o ∷ owns) h =
      let P : PoolPort H → Type 0 = λ l. l.ledger.shares ≡ n in
      let one : with_shares n o ≡ o = λ i. record { queue = o.queue; ledger = record o.ledger { shares = sym (All-head P o owns h) i } } in
      (λ i. one i ∷ same_shares n owns (All-tail P o owns h) i)

  pub rotated_none : (owns : List (PoolPort H)) → All (λ (l : PoolPort H). l.ledger.shares ≡ length owns) owns → rotated owns 0 ≡ owns
  rotated_none owns h = append-nil (map (with_shares (length owns - 0)) owns)
      ∙ ap (λ n. map (with_shares n) owns) (let e : length owns - 0 ≡ length owns = omega arith in e) ∙ same_shares (length owns) owns h

  pub rotated_all : (owns : List (PoolPort H)) → rotated owns (length owns) ≡ map (with_shares 1) owns
  rotated_all owns = let n : ℕ = length owns in
      (λ i. map (with_shares (n - n)) (drop_all n owns (omega arith) i) ++ map (with_shares (n - n + 1)) (take_all n owns (omega arith) i))
      ∙ ap (λ k. map (with_shares k) owns) (let e : n - n + 1 ≡ 1 = omega arith in e)

  module _ (owns : List (PoolPort H)) (k : ℕ) (d : PoolPort H) (lt : k < length owns) where
    abbrev pub left : ℕ
    left = length owns - k

    abbrev pub after : List (PoolPort H)
    after = map (with_shares left) (drop (suc k) owns) ++ map (with_shares (left + 1)) (take k owns)

    -- the handle's own deque comes first, the next ones in order after it
    pub rotated_first : rotated owns k ≡ with_shares left (get_or owns k d) ∷ after
    rotated_first = ap (λ l. map (with_shares left) l ++ map (with_shares (left + 1)) (take k owns)) (drop_suc owns k d lt)

    -- each of the next ones has a share to lend
    pub may_lend : All (λ (l : PoolPort H). 1 < l.ledger.shares) after
    may_lend = All-append (λ (l : PoolPort H). 1 < l.ledger.shares) (map (with_shares left) (drop (suc k) owns))
        (map (with_shares (left + 1)) (take k owns))
        (All-map (λ (l : PoolPort H). 1 < l.ledger.shares) (with_shares left) (drop (suc k) owns)
        (all_const (1 < left) (drop (suc k) owns) (λ some. let e = length-drop (suc k) owns in omega (arith, e, some, lt))))
        (All-map (λ (l : PoolPort H). 1 < l.ledger.shares) (with_shares (left + 1)) (take k owns)
        (all_const (1 < left + 1) (take k owns) (λ some. omega (arith, lt))))

    -- what was borrowed of them
    pub borrowed_so : map (borrowed {H = H}) after ≡ borrowed_next owns k
    borrowed_so = map-append (borrowed {H = H}) (map (with_shares left) (drop (suc k) owns)) (map (with_shares (left + 1)) (take k owns))
        ∙ (λ i. map_map (borrowed {H = H}) (with_shares left) (drop (suc k) owns) i ++ map_map (borrowed {H = H}) (with_shares (left + 1))
        (take k owns) i)
        ∙ sym (map-append (borrowed {H = H}) (drop (suc k) owns) (take k owns))
        ∙ ap (λ n. map (borrowed {H = H}) (drop n owns ++ take k owns)) (let e : suc k ≡ k + 1 = omega arith in e)

    -- and how they are when the next handle borrows
    pub rotated_next : map (lent {H = H}) after ++ with_shares left (get_or owns k d) ∷ [] ≡ rotated owns (k + 1)
    rotated_next =
        let x : PoolPort H = get_or owns k d in let a : List (PoolPort H) = drop (suc k) owns in let b : List (PoolPort H) = take k owns in
        let fewer : left - 1 ≡ length owns - (k + 1) = omega arith in
        let same : left ≡ length owns - (k + 1) + 1 = omega (arith, lt) in
        let one : left + 1 - 1 ≡ left = omega arith in
        let more : take (suc k) owns ≡ b ++ x ∷ [] = take_suc owns k d lt in
        ap (λ l. l ++ with_shares left x ∷ []) (map-append (lent {H = H}) (map (with_shares left) a) (map (with_shares (left + 1)) b)
        ∙ (λ i. map_map (lent {H = H}) (with_shares left) a i ++ map_map (lent {H = H}) (with_shares (left + 1)) b i))
        ∙ append_assoc (map (with_shares (left - 1)) a) (map (with_shares (left + 1 - 1)) b) (with_shares left x ∷ [])
        ∙ ap (λ n. map (with_shares (left - 1)) a ++ (map (with_shares n) b ++ with_shares left x ∷ [])) one
        ∙ ap (λ l. map (with_shares (left - 1)) a ++ l) (sym (map_push (with_shares left) b x) ∙ ap (map (with_shares left)) (sym more))
        ∙ (λ i. map (with_shares (fewer i)) a ++ map (with_shares (same i)) (take (suc k) owns))
        ∙ ap (λ n. map (with_shares (length owns - (k + 1))) (drop n owns) ++ map (with_shares (length owns - (k + 1) + 1)) (take n owns))
        (let e : suc k ≡ k + 1 = omega arith in e)

module _ {X : Type 0} where
  abbrev head_or : X → List X → X
  head_or d [] = d
  head_or d (x ∷ xs) = x

  abbrev tail_of : List X → List X
  tail_of [] = []
  tail_of (x ∷ xs) = xs

  abbrev IsNonempty : List X → Type 0
  IsNonempty [] = ⊥
  IsNonempty (x ∷ xs) = Unit {0}

  pub cons_head : (x y : X) (xs ys : List X) → x ∷ xs ≡ y ∷ ys → x ≡ y
  cons_head x y xs ys e = ap (head_or x) e

  pub cons_tail : (x y : X) (xs ys : List X) → x ∷ xs ≡ y ∷ ys → xs ≡ ys
  cons_tail x y xs ys e = ap tail_of e

  pub cons_nil : (x : X) (xs : List X) → x ∷ xs ≡ [] → ⊥
  cons_nil x xs e = subst IsNonempty e tt

  pub const_numbers : (f : ℕ → X) (x : X) → ((k : ℕ) → f k ≡ x) → (first count : ℕ) → map f (numbers first count) ≡ replicate count x
  const_numbers f x h first zero = refl
  const_numbers f x h first (suc count) = (λ i. h first i ∷ const_numbers f x h (first + 1) count i)

  pub drop_length : (pre xs : List X) → drop (length pre) (pre ++ xs) ≡ xs
  drop_length [] xs = refl
  drop_length (p ∷ pre) xs = drop_length pre xs

pub singles : {A B : Type 0} (f : A → B) (pre xs : List A) → map (λ x. f x ∷ []) xs ≡ map (λ (k : ℕ). map f (take 1 (drop k (pre ++ xs))))
    (numbers (length pre) (length xs))
singles f pre [] = refl
singles {A} {B} f pre (x ∷ xs) =
    let head : f x ∷ [] ≡ map f (take 1 (drop (length pre) (pre ++ x ∷ xs))) = ap (λ l. map f (take 1 l)) (sym (drop_length pre (x ∷ xs))) in
    let tail : map (λ y. f y ∷ []) xs ≡ map (λ (k : ℕ). map f (take 1 (drop k (pre ++ x ∷ xs)))) (numbers (length pre + 1) (length xs)) =
    singles f (pre ++ x ∷ []) xs
    ∙ (λ i. map (λ (k : ℕ). map f (take 1 (drop k (append_assoc pre (x ∷ []) xs i)))) (numbers (length_push pre x i) (length xs))) in
    (λ i. head i ∷ tail i)

module _ {H : Type 0} where
  module _ (fo fn : ℕ → List (PoolPort H)) where
    pub zip_all : (P : List (PoolPort H) → List (PoolPort H) → Type 0) → ((k : ℕ) → P (fo k) (fn k)) → (ms : List (Option (WorkerDeques H))) (ks : List ℕ)
        → map (own_of {H = H}) ms ≡ map fo ks → map (next_of {H = H}) ms ≡ map fn ks
        → All (λ m. P (own_of m) (next_of m)) ms
    zip_all P h [] ks eo en = All-nil (λ m. P (own_of m) (next_of m))
    zip_all P h (m ∷ ms) [] eo en = absurd (cons_nil (own_of m) (map (own_of {H = H}) ms) eo)
    zip_all P h (m ∷ ms) (k ∷ ks) eo en =
        let o : own_of m ≡ fo k = cons_head (own_of m) (fo k) (map (own_of {H = H}) ms) (map fo ks) eo in
        let n : next_of m ≡ fn k = cons_head (next_of m) (fn k) (map (next_of {H = H}) ms) (map fn ks) en in
        All-cons (λ m'. P (own_of m') (next_of m')) m ms (subst (λ (y : List (PoolPort H) × List (PoolPort H)). P y.0 y.1) (λ i. (sym o i, sym n i)) (h k))
        (zip_all P h ms ks (cons_tail (own_of m) (fo k) (map (own_of {H = H}) ms) (map fo ks) eo)
        (cons_tail (next_of m) (fn k) (map (next_of {H = H}) ms) (map fn ks) en))

    pub zip_parts : (shared_port : PoolPort H) (ms : List (Option (WorkerDeques H))) (ks : List ℕ) → map (own_of {H = H}) ms ≡ map fo ks
        → map (next_of {H = H}) ms ≡ map fn ks
        → map (λ m. parts_of (endpoint_of shared_port m)) ms ≡ map (λ (k : ℕ). let p : Parts H = record
        { own_deque = map (part_of {H = H}) (fo k); shared_port = part_of shared_port; next = map (part_of {H = H}) (fn k) } in p) ks
    zip_parts shared_port [] [] eo en = refl
    zip_parts shared_port [] (k ∷ ks) eo en = absurd (cons_nil (fo k) (map fo ks) (sym eo))
    zip_parts shared_port (m ∷ ms) [] eo en = absurd (cons_nil (own_of m) (map (own_of {H = H}) ms) eo)
    zip_parts shared_port (m ∷ ms) (k ∷ ks) eo en =
        let o : own_of m ≡ fo k = cons_head (own_of m) (fo k) (map (own_of {H = H}) ms) (map fo ks) eo in
        let n : next_of m ≡ fn k = cons_head (next_of m) (fn k) (map (next_of {H = H}) ms) (map fn ks) en in
        let rest = zip_parts shared_port ms ks (cons_tail (own_of m) (fo k) (map (own_of {H = H}) ms) (map fo ks) eo)
        (cons_tail (next_of m) (fn k) (map (next_of {H = H}) ms) (map fn ks) en) in
        (λ i. record { own_deque = map (part_of {H = H}) (o i); shared_port = part_of shared_port; next = map (part_of {H = H}) (n i) } ∷ rest i)

  -- nothing was pushed or taken through the port yet
  abbrev pub IsUnused : PoolPort H → Type 0
  IsUnused l = (l.ledger.pushed ≡ []) × (l.ledger.taken ≡ [])

  none_at : (ls : List (PoolPort H)) → All IsUnused ls → (pushed_at ls ≡ []) × (taken_at ls ≡ [])
  none_at [] h = (refl, refl)
  none_at (l ∷ ls) h = let one = All-head IsUnused l ls h in let rest = none_at ls (All-tail IsUnused l ls h) in
      (λ i. claims_in (one.0 i) ++ rest.0 i, λ i. claims_in (one.1 i) ++ rest.1 i)

  pub none_by : (ws : List (PoolEndpoint H)) → All (λ (w : PoolEndpoint H). All IsUnused (ports_of w)) ws → AreUnused ws
  none_by [] h = (refl, refl)
  none_by (w ∷ ws) h =
      let P : PoolEndpoint H → Type 0 = λ v. All IsUnused (ports_of v) in
      let one = none_at (ports_of w) (All-head P w ws h) in let rest = none_by ws (All-tail P w ws h) in
      (λ i. one.0 i ++ rest.0 i, λ i. one.1 i ++ rest.1 i)

  module _ (pool : PoolView H) (ms : List (Option (WorkerDeques H))) (members : AreWorkerDeques pool ms) where
    abbrev pub one : QueueInfo → PoolPort H
    one = fresh pool.gates pool.handles 1

    abbrev pub own_at : ℕ → List (PoolPort H)
    own_at k = map one (take 1 (drop k pool.deques))

    abbrev pub next_at : ℕ → List (PoolPort H)
    next_at k = map one (drop (k + 1) pool.deques ++ take k pool.deques)

    -- an open port that is not used yet
    abbrev pub IsReady : PoolPort H → Type 0
    IsReady l = IsOpenPort (Some pool.gates) (part_of l) × IsUnused l

    all_ready : (queues : List QueueInfo) → All IsReady (map one queues)
    all_ready queues = All-map IsReady one queues (each queues)
      where
        each : (ss : List QueueInfo) → All (λ s. IsReady (one s)) ss
        each [] = All-nil (λ s. IsReady (one s))
        each (s ∷ ss) = All-cons (λ s'. IsReady (one s')) s ss (record { share = omega arith; same = refl }, (refl, refl)) (each ss)

    pub members_ready : All (λ m. All IsReady (ports_of (endpoint_of (new_shared_port pool) m))) ms
    members_ready = zip_all own_at next_at (λ own_deque next. All IsReady (own_deque ++ new_shared_port pool ∷ next))
        (λ k. All-append IsReady (own_at k) (new_shared_port pool ∷ next_at k) (all_ready (take 1 (drop k pool.deques)))
        (All-cons IsReady (new_shared_port pool) (next_at k) (record { share = omega arith; same = refl }, (refl, refl))
        (all_ready (drop (k + 1) pool.deques ++ take k pool.deques))))
        ms (numbers 0 pool.handles) members.own_deque members.next

    pub members_open : All (λ m. AreOpen (endpoint_of (new_shared_port pool) m)) ms
    members_open = All-weaker (λ m. All IsReady (ports_of (endpoint_of (new_shared_port pool) m))) (λ m. AreOpen (endpoint_of (new_shared_port pool) m))
        (λ m h. All-weaker IsReady (λ (l : PoolPort H). IsOpenPort (Some pool.gates) (part_of l)) (λ l x. x.0)
        (ports_of (endpoint_of (new_shared_port pool) m)) h) ms members_ready

    pub are_handles : (handles : List (PoolEndpoint H)) → handles ≡ map (endpoint_of (new_shared_port pool)) ms → AreHandles pool handles
    are_handles handles e = ap (map (parts_of {H = H})) e ∙ map_map (parts_of {H = H}) (endpoint_of (new_shared_port pool)) ms
        ∙ zip_parts own_at next_at (new_shared_port pool) ms (numbers 0 pool.handles) members.own_deque members.next
        ∙ (λ i. map (λ (k : ℕ). let p : Parts H = record {
          own_deque = map_map (part_of {H = H}) one (take 1 (drop k pool.deques)) i;
          shared_port = shared_port_part pool;
          next = map_map (part_of {H = H}) one (drop (k + 1) pool.deques ++ take k pool.deques) i;
        } in p) (numbers 0 pool.handles))

    pub are_feeds : (feeds : List (PoolEndpoint H)) → feeds ≡ replicate pool.feeds (of_feed (new_shared_port pool)) → AreFeeds pool feeds
    are_feeds feeds e = ap (map (parts_of {H = H})) e ∙ map_replicate (parts_of {H = H}) pool.feeds (of_feed (new_shared_port pool))

    pub all_unused : (handles feeds : List (PoolEndpoint H)) → handles ≡ map (endpoint_of (new_shared_port pool)) ms → feeds ≡ replicate pool.feeds (of_feed (new_shared_port pool))
        → AreUnused (handles ++ feeds)
    all_unused handles feeds ee ef =
        let P : PoolEndpoint H → Type 0 = λ w. All IsUnused (ports_of w) in
        none_by (handles ++ feeds) (All-append P handles feeds
        (subst (All P) (sym ee) (All-map P (endpoint_of (new_shared_port pool)) ms
        (All-weaker (λ m. All IsReady (ports_of (endpoint_of (new_shared_port pool) m))) (λ m. P (endpoint_of (new_shared_port pool) m))
        (λ m h. All-weaker IsReady IsUnused (λ l x. x.1) (ports_of (endpoint_of (new_shared_port pool) m)) h) ms members_ready)))
        (subst (All P) (sym ef) (All-replicate P pool.feeds (of_feed (new_shared_port pool))
        (All-cons IsUnused (new_shared_port pool) [] (refl, refl) (All-nil IsUnused)))))

  module _ (pool : PoolView H) (ms : List (Option (WorkerDeques H))) where
    nothing_taken : (k : ℕ) (queues : List QueueInfo) → queues ≡ [] → map (fresh pool.gates pool.handles 1) (take 1 (drop k queues)) ≡ []
    nothing_taken k queues e = ap (λ l. map (fresh pool.gates pool.handles 1) (take 1 l)) (ap (drop k) e ∙ drop_all k [] (omega arith))

    nothing_next : (k : ℕ) (queues : List QueueInfo) → queues ≡ [] → map (fresh pool.gates pool.handles 1) (drop (k + 1) queues ++ take k queues) ≡ []
    nothing_next k queues e = ap (λ l. map (fresh pool.gates pool.handles 1) (drop (k + 1) l ++ take k l)) e
        ∙ (λ i. map (fresh pool.gates pool.handles 1) (drop_all (k + 1) [] (omega arith) i ++ take_all k [] (omega arith) i))

    -- of a shared pool
    pub members_none : pool.deques ≡ [] → ms ≡ replicate pool.handles None → AreWorkerDeques pool ms
    members_none e is = record {
      own_deque = ap (map (own_of {H = H})) is ∙ map_replicate (own_of {H = H}) pool.handles None
          ∙ sym (const_numbers (λ (k : ℕ). map (fresh pool.gates pool.handles 1) (take 1 (drop k pool.deques))) []
          (λ k. nothing_taken k pool.deques e) 0 pool.handles);
      next = ap (map (next_of {H = H})) is ∙ map_replicate (next_of {H = H}) pool.handles None
          ∙ sym (const_numbers (λ (k : ℕ). map (fresh pool.gates pool.handles 1) (drop (k + 1) pool.deques ++ take k pool.deques)) []
          (λ k. nothing_next k pool.deques e) 0 pool.handles);
    }

    -- of a stealing one
    pub members_some : (owns : List (PoolPort H)) → owns ≡ map (fresh pool.gates pool.handles pool.handles) pool.deques → length owns ≡ pool.handles
        → map (own_of {H = H}) ms ≡ map (λ (o : PoolPort H). with_shares 1 o ∷ []) owns
        → map (next_of {H = H}) ms ≡ map (borrowed_next owns) (numbers 0 (length owns)) → AreWorkerDeques pool ms
    members_some owns e many own_deque next =
        let whole : QueueInfo → PoolPort H = fresh pool.gates pool.handles pool.handles in
        let one' : QueueInfo → PoolPort H = fresh pool.gates pool.handles 1 in
        let ds : List QueueInfo = pool.deques in
        let count : length ds ≡ pool.handles = sym (length-map ds whole) ∙ ap length (sym e) ∙ many in
        record {
          own_deque = own_deque ∙ ap (map (λ (o : PoolPort H). with_shares 1 o ∷ [])) e ∙ map_map (λ (o : PoolPort H). with_shares 1 o ∷ []) whole ds
              ∙ singles one' [] ds ∙ ap (λ n. map (λ (k : ℕ). map one' (take 1 (drop k ds))) (numbers 0 n)) count;
          next = next ∙ (λ i. map (borrowed_next (e i)) (numbers 0 (many i)))
              ∙ (λ i. map (λ (k : ℕ). (ap (map (borrowed {H = H})) ((λ j. drop-map whole (k + 1) ds j ++ take-map whole k ds j)
              ∙ sym (map-append whole (drop (k + 1) ds) (take k ds)))
              ∙ map_map (borrowed {H = H}) whole (drop (k + 1) ds ++ take k ds)) i) (numbers 0 pool.handles));
        }

module _ {H : Type 0} where
  pub new_shares : (kind : PoolKind) (o : Origin H) (count : ℕ) (owns : List (PoolPort H)) → AreNewOf kind o count owns
      → All (λ (l : PoolPort H). l.ledger.shares ≡ length owns) owns
  new_shares Shared o count owns e = subst (λ os. All (λ (l : PoolPort H). l.ledger.shares ≡ length owns) os) (sym e)
      (All-nil (λ (l : PoolPort H). l.ledger.shares ≡ length owns))
  new_shares Stealing o count owns new =
      let P : PoolPort H → Type 0 = λ l. l.ledger.shares ≡ length owns in
      subst (All P) (sym new.unused) (All-map P (fresh o count count) (queues_of owns)
      (all_const (count ≡ length owns) (queues_of owns) (λ _. sym new.same_count)))

  -- the pool that is made of the port of the queue that all share and of deques
  module _ (o : Origin H) (kind : PoolKind) (workers feeds : ℕ) (owns : List (PoolPort H)) (shared_port : QueueInfo) (new : AreNewOf kind o workers owns)
      (some : 0 < workers) where
    abbrev pub made : PoolView H
    made = record { gates = o; shared_port = shared_port; deques = queues_of owns; handles = workers; feeds = feeds }

    pub made_whole : IsWhole made
    made_whole = by_kind kind new
      where
        by_kind : (k : PoolKind) → AreNewOf k o workers owns → IsWhole made
        by_kind Shared e = let none : queues_of owns ≡ [] = ap queues_of e in
            record { not_empty = some; deques = subst (AreDeques 0) (sym none) tt; same_count = inl none }
        by_kind Stealing n = record { not_empty = some; deques = n.deques; same_count = inr (length-map owns (λ (l : PoolPort H). l.queue) ∙ n.same_count) }

    pub made_kind : shared_port.capacity ≡ bound_of kind → IsOfKind kind made
    made_kind bound = by_kind kind new bound
      where
        by_kind : (k : PoolKind) → AreNewOf k o workers owns → shared_port.capacity ≡ bound_of k → IsOfKind k made
        by_kind Shared e b = (b, ap queues_of e)
        by_kind Stealing n b = (b, length-map owns (λ (l : PoolPort H). l.queue) ∙ n.same_count, n.deques)

    pub made_members : (ms : List (Option (WorkerDeques H))) → (owns ≡ [] → ms ≡ replicate workers None)
        → (0 < length owns → map (own_of {H = H}) ms ≡ map (λ (l : PoolPort H). with_shares 1 l ∷ []) owns)
        → (0 < length owns → map (next_of {H = H}) ms ≡ map (borrowed_next owns) (numbers 0 (length owns))) → AreWorkerDeques made ms
    made_members ms none own_deque next = by_kind kind new
      where
        by_kind : (k : PoolKind) → AreNewOf k o workers owns → AreWorkerDeques made ms
        by_kind Shared e = members_none made ms (ap queues_of e) (none e)
        by_kind Stealing n = let many = n.same_count in let there : 0 < length owns = omega (arith, many, some) in
            members_some made ms owns n.unused n.same_count (own_deque there) (next there)

    pub count_members : (ms : List (Option (WorkerDeques H))) → AreWorkerDeques made ms → length ms ≡ workers
    count_members ms m = sym (length-map ms (own_of {H = H})) ∙ ap length m.own_deque ∙ length-map (numbers 0 workers) (own_at made ms m)
        ∙ length_numbers 0 workers

    pub begun : (ms : List (Option (WorkerDeques H))) (of_workers of_feeds : List (PoolEndpoint H)) → shared_port.capacity ≡ bound_of kind → AreWorkerDeques made ms
        → of_workers ≡ map (endpoint_of (new_shared_port made)) ms
        → of_feeds ≡ replicate feeds (of_feed (new_shared_port made)) → IsNewPool o kind workers feeds made of_workers of_feeds
    begun ms of_workers of_feeds bound m ew ef = record {
      gates = refl;
      handles_are = refl;
      feeds_are = refl;
      kind_is = made_kind bound;
      are_handles = are_handles made ms m of_workers ew;
      are_feeds = are_feeds made ms m of_feeds ef;
      unused = all_unused made ms m of_workers of_feeds ew ef;
    }
