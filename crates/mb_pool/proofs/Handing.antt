-- Ports are handed to the handles and feeds of a new pool, one after the other.
use Rattle.std.proofs.Common.{◌≡◌, ℕ, ◌+◌, ◌-◌, ◌<◌, List, [], ◌∷◌, ◌++◌, length, replicate, sym, ap, ◌∙◌, subst, map, arith}
use Rattle.std.specs.Prelude.{All, IfOk, Option, Result, Some, Ok, Err}
use Rattle.std.proofs.lemmas.List.{map_push, replicate_more}
use Rattle.std.proofs.lemmas.List.Elements.{All-head, All-tail}
use Rattle.mb_pool.specs.declared.worker_deques.WorkerDeques.{WorkerDeques}
use Rattle.mb_pool.specs.Begins.{borrowed, fresh, with_shares}
use Rattle.mb_pool.specs.Ledger.{opened}
use Rattle.mb_gate.specs.Untouched.{Origin}
use Rattle.mb_pool.specs.Places.{PoolPort}
use Rattle.mb_pool.specs.Endpoints.{AreOpen, HasShare, endpoint_of}
use Rattle.mb_pool.proofs.Begins.{map_map}
use Rattle.mb_pool.proofs.Loops.{not_none, popped, step_over}

-- those that are made, and those that are to be made
module _ {A B : Type 0} (f : A → B) where
  pub made_one : (done new : List B) (w : B) (x : A) (old rest : List A) (all : List B) → new ≡ done ++ w ∷ [] → w ≡ f x → old ≡ x ∷ rest
      → done ++ map f old ≡ all → new ++ map f rest ≡ all
  made_one done new w x old rest all n e o h = ap (λ (l : List B). l ++ map f rest) (n ∙ ap (λ (b : B). done ++ b ∷ []) e)
      ∙ step_over f done x old rest all o h

  pub paired_one : {M : Type 0} (g : M → B) (done new : List M) (m : M) (x : A) (old rest : List A) (all : List B) → new ≡ done ++ m ∷ [] → g m ≡ f x
      → old ≡ x ∷ rest → map g done ++ map f old ≡ all
      → map g new ++ map f rest ≡ all
  paired_one g done new m x old rest all n e o h = made_one (map g done) (map g new) (g m) x old rest all (ap (map g) n ∙ map_push g done m) e o h

  -- there is one more of these ports
  module _ {X : Type 0} (d : B) (shared_ports : List A) (xs rest : List X) (x : X) (more : ℕ) (ports : map f shared_ports ≡ replicate (length xs + more) d)
      (next : xs ≡ x ∷ rest) where
    pub port_there : length shared_ports ≡ 0 → ⊥
    port_there none = let l = ap (length {A = X}) next in let some : 0 < length xs + more = omega (arith, l) in
        not_none f d shared_ports (length xs + more) none some ports

    pub port_one : (left : List A) (shared_port : A) → shared_ports ≡ left ++ shared_port ∷ [] → (map f left ≡ replicate (length rest + more) d) × (f shared_port ≡ d)
    port_one left shared_port e =
        let l = ap (length {A = X}) next in let fewer : length xs + more ≡ length rest + more + 1 = omega (arith, l) in
        popped f d shared_ports left shared_port (length xs + more) (length rest + more) e fewer ports

  -- this many of these ports
  module _ (d : B) (shared_ports : List A) (k count : ℕ) (ports : map f shared_ports ≡ replicate (count - k) d) (lt : k < count) where
    pub port_left : length shared_ports ≡ 0 → ⊥
    port_left none = let some : 0 < count - k = omega (arith, lt) in not_none f d shared_ports (count - k) none some ports

    pub port_next : (left : List A) (shared_port : A) → shared_ports ≡ left ++ shared_port ∷ [] → (map f left ≡ replicate (count - (k + 1)) d) × (f shared_port ≡ d)
    port_next left shared_port e =
        let fewer : count - k ≡ count - (k + 1) + 1 = omega (arith, lt) in
        popped f d shared_ports left shared_port (count - k) (count - (k + 1)) e fewer ports

    pub fed_one : {W : Type 0} (done new : List W) (w feed : W) → done ≡ replicate k w → feed ≡ w → new ≡ done ++ feed ∷ []
        → new ≡ replicate (k + 1) w
    fed_one done new w feed h e n = n ∙ (λ i. h i ++ e i ∷ []) ∙ replicate_more k w

module _ {H : Type 0} (shared_port port : PoolPort H) (same : port ≡ shared_port) where
  -- the next handle is open with this port
  pub open_with : (ms rest : List (Option (WorkerDeques H))) (m : Option (WorkerDeques H)) → ms ≡ m ∷ rest → All (λ x. AreOpen (endpoint_of shared_port x)) ms
      → AreOpen (endpoint_of port m) × All (λ x. AreOpen (endpoint_of shared_port x)) rest
  open_with ms rest m e h =
      let P : Option (WorkerDeques H) → Type 0 = λ x. AreOpen (endpoint_of shared_port x) in
      let both : All P (m ∷ rest) = subst (All P) e h in
      (subst (λ (l : PoolPort H). AreOpen (endpoint_of l m)) (sym same) (All-head P m rest both), All-tail P m rest both)

  pub share_with : HasShare shared_port → HasShare port
  share_with h = subst (λ (l : PoolPort H). HasShare l) (sym same) h

-- what an answer says, of something equal
pub ok_so : {A E : Type 0} (P Q : A → Type 0) (r : Result A E) → ((a : A) → P a → Q a) → IfOk r P → IfOk r Q
ok_so P Q (Ok a) f h = f a h
ok_so P Q (Err e) f h = h

-- a handle of a new stealing pool has its own deque with one share
pub own_one : {H : Type 0} (owns now : List (PoolPort H)) → now ≡ map (with_shares 1) owns
    → map (λ (o : PoolPort H). o ∷ []) now ≡ map (λ (o : PoolPort H). with_shares 1 o ∷ []) owns
own_one {H} owns now e = ap (map (λ (o : PoolPort H). o ∷ [])) e ∙ map_map (λ (o : PoolPort H). o ∷ []) (with_shares {H = H} 1) owns

-- the port of the queue that all share, of a new pool
pub shared_port_is : {H : Type 0} (origin : Origin H) (ports count : ℕ) (old new : PoolPort H) → new ≡ record old { ledger = opened (Some origin) ports ports }
    → ports ≡ count → borrowed new ≡ fresh origin count 1 new.queue
shared_port_is {H} origin ports count old new e p =
    subst (λ (l : PoolPort H). borrowed l ≡ fresh origin count 1 l.queue) (sym e) (ap (λ (n : ℕ). fresh origin n 1 old.queue) p)
