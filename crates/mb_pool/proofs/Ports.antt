-- From what a port's call says to what a handle's or a feed's call says.
use Rattle.std.proofs.Common.{◌≡◌, ◌<◌, ℕ, zero, suc, arith, length, take, drop, get_or, set, List, [], ◌∷◌, ◌++◌, sym, refl, ap, ◌∙◌, subst, map}
use Rattle.std.proofs.Common.{MatchOption, MatchResult}
use Rattle.std.specs.Prelude.{All, IfSome, Option, Some, None, Result, Ok, Err}
use Rattle.std.proofs.lemmas.List.Elements.{All-nil, All-cons, All-head, All-tail, All-map, All-weaker}
use Rattle.mb_gate.specs.declared.claim.Claim.{Claim}
use Rattle.mb_pool.specs.declared.claim_refused.ClaimRefused.{ClaimRefused}
use Rattle.mb_pool.specs.declared.claim_refused.ClaimRefused.TheVariants.{NoMemory}
use Rattle.mb_pool.specs.Moves.{given_back, FindsOwnEmpty, IsRefusal, IsRefusedBy, Pushes, PutsFirst, Takes, TakesOne, TakesOwn, WasEmpty}
use Rattle.mb_gate.specs.Untouched.{Origin}
use Rattle.mb_pool.specs.Account.{ClaimAccount}
use Rattle.mb_pool.specs.Places.{PoolPort, Part, Parts, PoolEndpoint, gates_of, ports_of, part_of, parts_of}
use Rattle.mb_pool.specs.Rule.{QueueMoment, PutsLast, TakesFirst}
use Rattle.mb_pool.specs.Endpoints.{AreOpen, HasShare, IsOpenPort, of_feed}

pub all_right : {X : Type 0} (P : X → Type 0) (xs ys : List X) → All P (xs ++ ys) → All P ys
all_right P [] ys h = h
all_right P (x ∷ xs) ys h = all_right P xs ys (All-tail P x (xs ++ ys) h)

pub all_unmap : {X Y : Type 0} (P : X → Type 0) (f : Y → X) (ys : List Y) → All P (map f ys) → All (λ y. P (f y)) ys
all_unmap P f [] h = All-nil (λ y. P (f y))
all_unmap P f (y ∷ ys) h = All-cons (λ y. P (f y)) y ys (All-head P (f y) (map f ys) h) (all_unmap P f ys (All-tail P (f y) (map f ys) h))

-- one of a list, with what is before and behind it
pub split_at : {X : Type 0} (xs : List X) (k : ℕ) (d : X) → k < length xs → xs ≡ take k xs ++ get_or xs k d ∷ drop (suc k) xs
split_at [] k d lt = absurd (omega (arith, lt))
split_at (x ∷ xs) zero d lt = refl
split_at (x ∷ xs) (suc k) d lt = ap (λ l. x ∷ l) (split_at xs k d (omega (arith, lt)))

pub set_at : {X : Type 0} (xs : List X) (k : ℕ) (v : X) → k < length xs → set xs k v ≡ take k xs ++ v ∷ drop (suc k) xs
set_at [] k v lt = absurd (omega (arith, lt))
set_at (x ∷ xs) zero v lt = refl
set_at (x ∷ xs) (suc k) v lt = ap (λ l. x ∷ l) (set_at xs k v (omega (arith, lt)))

module _ {H : Type 0} where
  pub moved : (l l' : PoolPort H) → l'.queue ≡ l.queue → l' ≡ record l { ledger = l'.ledger }
  moved l l' s i = record { queue = s i; ledger = l'.ledger }

  map_mid : (before rest : List (PoolPort H)) (l l' : PoolPort H) → part_of l' ≡ part_of l
      → map (part_of {H = H}) (before ++ l' ∷ rest) ≡ map (part_of {H = H}) (before ++ l ∷ rest)
  map_mid [] rest l l' e = ap (λ p. p ∷ map (part_of {H = H}) rest) e
  map_mid (b ∷ before) rest l l' e = ap (λ ps. part_of b ∷ ps) (map_mid before rest l l' e)

  ports_of_parts : (own_deque next : List (PoolPort H)) (shared_port : PoolPort H) → map (part_of {H = H}) (own_deque ++ shared_port ∷ next) ≡ map
      (part_of {H = H}) own_deque ++ part_of shared_port ∷ map (part_of {H = H}) next
  ports_of_parts [] next shared_port = refl
  ports_of_parts (o ∷ own_deque) next shared_port = ap (λ ps. part_of o ∷ ps) (ports_of_parts own_deque next shared_port)

  -- what no call changes says whether the ports are open
  pub still_open : (w w' : PoolEndpoint H) → parts_of w' ≡ parts_of w → AreOpen w → AreOpen w'
  still_open w w' e h =
      let of_parts : Parts H → List (Part H) = λ p. p.own_deque ++ p.shared_port ∷ p.next in
      let gates : gates_of w' ≡ gates_of w = ap (λ (p : Parts H). p.shared_port.gates) e in
      let ports : map (part_of {H = H}) (ports_of w') ≡ map (part_of {H = H}) (ports_of w) = ports_of_parts w'.own_deque w'.next w'.shared_port ∙ ap of_parts e
      ∙ sym (ports_of_parts w.own_deque w.next w.shared_port) in
      all_unmap (IsOpenPort (gates_of w')) (part_of {H = H}) (ports_of w')
      (subst (λ (y : Option (Origin H) × List (Part H)). All (IsOpenPort y.0) y.1) (λ i. (sym gates i, sym ports i))
      (All-map (IsOpenPort (gates_of w)) (part_of {H = H}) (ports_of w) h))

  pub feed_parts : (shared_port door' : PoolPort H) → part_of door' ≡ part_of shared_port → parts_of (of_feed door') ≡ parts_of (of_feed shared_port)
  feed_parts shared_port door' e = ap (λ (p : Part H). let ps : Parts H = record { own_deque = []; shared_port = p; next = [] } in ps) e

  -- a handle of a stealing pool, by its ports
  abbrev pub stealing : PoolPort H → PoolPort H → List (PoolPort H) → PoolEndpoint H
  stealing own_deque shared_port next = record { own_deque = own_deque ∷ []; shared_port = shared_port; next = next }

  pub own_parts : (own_deque own_deque' shared_port : PoolPort H) (next : List (PoolPort H)) → part_of own_deque' ≡ part_of own_deque
      → parts_of (stealing own_deque' shared_port next) ≡ parts_of (stealing own_deque shared_port next)
  own_parts own_deque own_deque' shared_port next e = ap (λ (p : Part H). let ps : Parts H = record
      { own_deque = p ∷ []; shared_port = part_of shared_port; next = map (part_of {H = H}) next } in ps) e

  pub shared_port_open : (w : PoolEndpoint H) → AreOpen w → IsOpenPort (gates_of w) (part_of w.shared_port)
  shared_port_open w h = let P : PoolPort H → Type 0 = λ l. IsOpenPort (gates_of w) (part_of l) in All-head P w.shared_port w.next (all_right P w.own_deque (w.shared_port ∷ w.next) h)

  pub own_open : (own_deque shared_port : PoolPort H) (next : List (PoolPort H)) → AreOpen (stealing own_deque shared_port next)
      → IsOpenPort (gates_of (stealing own_deque shared_port next)) (part_of own_deque)
  own_open own_deque shared_port next h = All-head (λ (l : PoolPort H). IsOpenPort shared_port.ledger.gates (part_of l)) own_deque (shared_port ∷ next) h

  pub next_open : (own_deque shared_port : PoolPort H) (next : List (PoolPort H)) → AreOpen (stealing own_deque shared_port next) → All (HasShare {H = H}) next
  next_open own_deque shared_port next h =
      let P : PoolPort H → Type 0 = λ l. IsOpenPort shared_port.ledger.gates (part_of l) in
      All-weaker P (HasShare {H = H}) (λ l o. o.share) next (All-tail P shared_port next (All-tail P own_deque (shared_port ∷ next) h))

  module _ (IsFit : Option (Origin H) → Claim H → Type 0) where
    puts_part : (l : PoolPort H) (c : Claim H) (after : ClaimAccount H) → PutsLast IsFit l.ledger c after → part_of (record l { ledger = after }) ≡ part_of l
    puts_part l c after p = ap (λ (a : ClaimAccount H). part_of (record l { ledger = a })) p.2

    takes_part : (l : PoolPort H) (c : Claim H) (after : ClaimAccount H) → TakesFirst IsFit l.ledger c after
        → part_of (record l { ledger = after }) ≡ part_of l
    takes_part l c after t = ap (λ (a : ClaimAccount H). part_of (record l { ledger = a })) t.2

    pub put_part : (l l' : PoolPort H) (c : Claim H) → l'.queue ≡ l.queue → PutsLast IsFit l.ledger c l'.ledger → part_of l' ≡ part_of l
    put_part l l' c s p = ap (part_of {H = H}) (moved l l' s) ∙ puts_part l c l'.ledger p

    pub took_part : (l l' : PoolPort H) (c : Claim H) → l'.queue ≡ l.queue → TakesFirst IsFit l.ledger c l'.ledger → part_of l' ≡ part_of l
    took_part l l' c s t = ap (part_of {H = H}) (moved l l' s) ∙ takes_part l c l'.ledger t

    pub puts_first : (l l' : PoolPort H) (rest : List (PoolPort H)) (c : Claim H) → l'.queue ≡ l.queue → PutsLast IsFit l.ledger c l'.ledger
        → PutsFirst IsFit (l ∷ rest) c (l' ∷ rest)
    puts_first l l' rest c s p = record {
      pool_port = l;
      rest = rest;
      after = l'.ledger;
      found = refl;
      last = p;
      then' = ap (λ x. x ∷ rest) (moved l l' s);
    }

    pub takes_here : (before : List (PoolPort H)) (l l' : PoolPort H) (rest : List (PoolPort H)) (c : Claim H) → All (WasEmpty IsFit) before → l'.queue ≡ l.queue
        → TakesFirst IsFit l.ledger c l'.ledger
        → TakesOne IsFit (before ++ l ∷ rest) c (before ++ l' ∷ rest)
    takes_here before l l' rest c empty s t = record {
      before = before;
      pool_port = l;
      rest = rest;
      after = l'.ledger;
      found = refl;
      empty = empty;
      first = t;
      then' = ap (λ x. before ++ x ∷ rest) (moved l l' s);
    }

    -- at its number, the ones before it being empty
    pub takes_at : (old : List (PoolPort H)) (k : ℕ) (d l' : PoolPort H) (c : Claim H) → k < length old → All (WasEmpty IsFit) (take k old)
        → l'.queue ≡ (get_or old k d).queue
        → TakesFirst IsFit (get_or old k d).ledger c l'.ledger → TakesOne IsFit old c (set old k l')
    takes_at old k d l' c lt empty s t =
        subst (λ (y : List (PoolPort H) × List (PoolPort H)). TakesOne IsFit y.0 c y.1) (λ i. (sym (split_at old k d lt) i, sym (set_at old k l' lt) i))
        (takes_here (take k old) (get_or old k d) l' (drop (suc k) old) c empty s t)

    pub takes_later : (first : PoolPort H) (old new : List (PoolPort H)) (c : Claim H) → WasEmpty IsFit first → TakesOne IsFit old c new
        → TakesOne IsFit (first ∷ old) c (first ∷ new)
    takes_later first old new c empty t = record {
      before = first ∷ t.before;
      pool_port = t.pool_port;
      rest = t.rest;
      after = t.after;
      found = ap (λ l. first ∷ l) t.found;
      empty = All-cons (WasEmpty IsFit) first t.before empty t.empty;
      first = t.first;
      then' = ap (λ l. first ∷ l) t.then';
    }

    pub takes_parts : (old new : List (PoolPort H)) (c : Claim H) → TakesOne IsFit old c new → map (part_of {H = H}) new ≡ map (part_of {H = H}) old
    takes_parts old new c t = ap (map (part_of {H = H})) t.then' ∙ map_mid t.before t.rest t.pool_port (record t.pool_port { ledger = t.after })
        (takes_part t.pool_port c t.after t.first)
        ∙ sym (ap (map (part_of {H = H})) t.found)

    -- what was taken is of the gates of the ports
    pub takes_fit : (g : Option (Origin H)) (old new : List (PoolPort H)) (c : Claim H) → All (λ (l : PoolPort H). IsOpenPort g (part_of l)) old
        → TakesOne IsFit old c new → IsFit g c
    takes_fit g old new c opened t =
        let Open : PoolPort H → Type 0 = λ l. IsOpenPort g (part_of l) in
        let mine : IsOpenPort g (part_of t.pool_port) = All-head Open t.pool_port t.rest
        (all_right Open t.before (t.pool_port ∷ t.rest) (subst (All Open) t.found opened)) in
        let m = t.first.1 in
        subst (λ x. IsFit x c) mine.same (All-head (IsFit t.pool_port.ledger.gates) c t.first.0
        (all_right (IsFit t.pool_port.ledger.gates) m.gone (c ∷ t.first.0) m.fit))

    pub take_fits : (w new : PoolEndpoint H) (r : Option (Claim H)) (N : Type 0) → AreOpen w → MatchOption r N (λ c. Takes IsFit w c new)
        → IfSome r (λ c. IsFit (gates_of w) c)
    take_fits w new None N opened h = tt
    take_fits w new (Some c) N opened t = takes_fit (gates_of w) (ports_of w) (ports_of new) c opened t

    -- a handle of a stealing pool looks in its own deque, in the injector, and in the next handles' deques
    module _ (own_deque own_deque' shared_port door' : PoolPort H) (next next' : List (PoolPort H)) where
      pub push_by_own : (c : Claim H) → own_deque'.queue ≡ own_deque.queue → PutsLast IsFit own_deque.ledger c own_deque'.ledger
          → Pushes IsFit (stealing own_deque shared_port next) c (stealing own_deque' shared_port next)
      push_by_own c s p = puts_first own_deque own_deque' (shared_port ∷ next) c s p

      pub refused_by_own : (c : Claim H) → own_deque.queue.capacity ≡ None → IsRefusedBy IsFit (stealing own_deque shared_port next) (NoMemory c)
      refused_by_own c none = (own_deque, shared_port ∷ next, refl, none)

      pub took_own : (c : Claim H) → own_deque'.queue ≡ own_deque.queue → TakesFirst IsFit own_deque.ledger c own_deque'.ledger
          → Takes IsFit (stealing own_deque shared_port next) c (stealing own_deque' shared_port next)
      took_own c s t = takes_here [] own_deque own_deque' (shared_port ∷ next) c (All-nil (WasEmpty IsFit)) s t

      module _ (still : own_deque' ≡ own_deque) (empty : WasEmpty IsFit own_deque) where
        pub took_shared_port : (c : Claim H) → door'.queue ≡ shared_port.queue → TakesFirst IsFit shared_port.ledger c door'.ledger
            → Takes IsFit (stealing own_deque shared_port next) c (stealing own_deque' door' next)
        took_shared_port c s t = subst (λ o. TakesOne IsFit (own_deque ∷ shared_port ∷ next) c (o ∷ door' ∷ next)) (sym still)
            (takes_later own_deque (shared_port ∷ next) (door' ∷ next) c empty (takes_here [] shared_port door' next c (All-nil (WasEmpty IsFit)) s t))

        pub took_shared_port_same : (c : Claim H) → door'.queue ≡ shared_port.queue → TakesFirst IsFit shared_port.ledger c door'.ledger
            → parts_of (stealing own_deque' door' next) ≡ parts_of (stealing own_deque shared_port next)
        took_shared_port_same c s t = (λ i. record { own_deque = part_of (still i) ∷ []; shared_port = took_part shared_port door' c s t i; next = map (part_of {H = H}) next })

        module _ (still' : door' ≡ shared_port) (empty' : WasEmpty IsFit shared_port) where
          pub took_next : (r : Option (Claim H)) → MatchOption r ((next' ≡ next) × All (WasEmpty IsFit) next) (λ c. TakesOne IsFit next c next')
              → MatchOption r ((stealing own_deque' door' next' ≡ stealing own_deque shared_port next) × All (WasEmpty IsFit) (ports_of (stealing own_deque shared_port next)))
              (λ c. Takes IsFit (stealing own_deque shared_port next) c (stealing own_deque' door' next'))
          took_next None h = (
            (λ i. record { own_deque = still i ∷ []; shared_port = still' i; next = h.0 i }),
            All-cons (WasEmpty IsFit) own_deque (shared_port ∷ next) empty (All-cons (WasEmpty IsFit) shared_port next empty' h.1),
          )
          took_next (Some c) t = subst (λ (y : PoolPort H × PoolPort H). TakesOne IsFit (own_deque ∷ shared_port ∷ next) c (y.0 ∷ y.1 ∷ next'))
              (λ i. (sym still i, sym still' i))
              (takes_later own_deque (shared_port ∷ next) (shared_port ∷ next') c empty (takes_later shared_port next next' c empty' t))

          pub took_next_same : (r : Option (Claim H)) → MatchOption r ((next' ≡ next) × All (WasEmpty IsFit) next) (λ c. TakesOne IsFit next c next')
              → parts_of (stealing own_deque' door' next') ≡ parts_of (stealing own_deque shared_port next)
          took_next_same None h = (λ i. record { own_deque = part_of (still i) ∷ []; shared_port = part_of (still' i); next = map (part_of {H = H}) (h.0 i) })
          took_next_same (Some c) t = (λ i. record { own_deque = part_of (still i) ∷ []; shared_port = part_of (still' i); next = takes_parts next next' c t i })

    -- a claim of the queue to which a handle pushes is one of those that it takes
    pub own_takes : (old new : List (PoolPort H)) (c : Claim H) → TakesOwn IsFit old c new → TakesOne IsFit old c new
    own_takes old new c t = record {
      before = [];
      pool_port = t.pool_port;
      rest = t.rest;
      after = t.after;
      found = t.found;
      empty = All-nil (WasEmpty IsFit);
      first = t.first;
      then' = t.then';
    }

    pub own_answers : (A B : Type 0) (r : Option (Claim H)) (old new : List (PoolPort H)) → MatchOption r (A × B) (λ c. TakesOwn IsFit old c new) →
        MatchOption r A (λ c. TakesOne IsFit old c new)
    own_answers A B None old new h = h.0
    own_answers A B (Some c) old new t = own_takes old new c t

    -- by the port of the queue that all share alone
    module _ (shared_port door' : PoolPort H) (same : door'.queue ≡ shared_port.queue) where
      pub push_by_shared_port : (c : Claim H) (r : Result (Unit {0}) (ClaimRefused H))
          → MatchResult r (λ _. PutsLast IsFit shared_port.ledger c door'.ledger) (λ f. (given_back f ≡ c) × (door' ≡ shared_port) × IsRefusal IsFit shared_port f)
          → MatchResult r (λ _. Pushes IsFit (of_feed shared_port) c (of_feed door'))
          (λ f. (given_back f ≡ c) × (of_feed door' ≡ of_feed shared_port) × IsRefusedBy IsFit (of_feed shared_port) f)
      push_by_shared_port c (Ok u) p = puts_first shared_port door' [] c same p
      push_by_shared_port c (Err f) h = (h.0, ap (of_feed {H = H}) h.1, (shared_port, [], refl, h.2))

      pub push_same : (c : Claim H) (r : Result (Unit {0}) (ClaimRefused H))
          → MatchResult r (λ _. PutsLast IsFit shared_port.ledger c door'.ledger) (λ f. (given_back f ≡ c) × (door' ≡ shared_port) × IsRefusal IsFit shared_port f)
          → part_of door' ≡ part_of shared_port
      push_same c (Ok u) p = put_part shared_port door' c same p
      push_same c (Err f) h = ap (part_of {H = H}) h.1

      pub take_by_shared_port : (r : Option (Claim H)) → MatchOption r ((door' ≡ shared_port) × QueueMoment IsFit shared_port.ledger [])
          (λ c. TakesFirst IsFit shared_port.ledger c door'.ledger)
          → MatchOption r ((of_feed door' ≡ of_feed shared_port) × All (WasEmpty IsFit) (ports_of (of_feed shared_port)))
          (λ c. Takes IsFit (of_feed shared_port) c (of_feed door'))
      take_by_shared_port None h = (ap (of_feed {H = H}) h.0, All-cons (WasEmpty IsFit) shared_port [] h.1 (All-nil (WasEmpty IsFit)))
      take_by_shared_port (Some c) t = takes_here [] shared_port door' [] c (All-nil (WasEmpty IsFit)) same t

      pub take_same : (r : Option (Claim H)) → MatchOption r ((door' ≡ shared_port) × QueueMoment IsFit shared_port.ledger [])
          (λ c. TakesFirst IsFit shared_port.ledger c door'.ledger) → part_of door' ≡ part_of shared_port
      take_same None h = ap (part_of {H = H}) h.0
      take_same (Some c) t = took_part shared_port door' c same t

      -- which is the queue to which it pushes
      pub take_own_by_shared_port : (r : Option (Claim H)) → MatchOption r ((door' ≡ shared_port) × QueueMoment IsFit shared_port.ledger [])
          (λ c. TakesFirst IsFit shared_port.ledger c door'.ledger)
          → MatchOption r ((of_feed door' ≡ of_feed shared_port) × FindsOwnEmpty IsFit (ports_of (of_feed shared_port)))
          (λ c. TakesOwn IsFit (ports_of (of_feed shared_port)) c (ports_of (of_feed door')))
      take_own_by_shared_port None h = (ap (of_feed {H = H}) h.0, record { pool_port = shared_port; rest = []; found = refl; empty = h.1 })
      take_own_by_shared_port (Some c) t =
          record { pool_port = shared_port; rest = []; after = door'.ledger; found = refl; first = t; then' = ap (λ x. x ∷ []) (moved shared_port door' same) }

      -- by one attempt
      pub tried_by_shared_port : (c : Claim H) (r : Result (Unit {0}) (Claim H))
          → MatchResult r (λ _. PutsLast IsFit shared_port.ledger c door'.ledger) (λ back. (back ≡ c) × (door' ≡ shared_port))
          → MatchResult r (λ _. Pushes IsFit (of_feed shared_port) c (of_feed door')) (λ back. (back ≡ c) × (of_feed door' ≡ of_feed shared_port))
      tried_by_shared_port c (Ok u) p = puts_first shared_port door' [] c same p
      tried_by_shared_port c (Err back) h = (h.0, ap (of_feed {H = H}) h.1)

      pub tried_same : (c : Claim H) (r : Result (Unit {0}) (Claim H))
          → MatchResult r (λ _. PutsLast IsFit shared_port.ledger c door'.ledger) (λ back. (back ≡ c) × (door' ≡ shared_port))
          → part_of door' ≡ part_of shared_port
      tried_same c (Ok u) p = put_part shared_port door' c same p
      tried_same c (Err back) h = ap (part_of {H = H}) h.1

      pub tried_take_by_shared_port : (r : Option (Claim H)) → MatchOption r (door' ≡ shared_port) (λ c. TakesFirst IsFit shared_port.ledger c door'.ledger)
          → MatchOption r (of_feed door' ≡ of_feed shared_port) (λ c. Takes IsFit (of_feed shared_port) c (of_feed door'))
      tried_take_by_shared_port None h = ap (of_feed {H = H}) h
      tried_take_by_shared_port (Some c) t = takes_here [] shared_port door' [] c (All-nil (WasEmpty IsFit)) same t

      pub tried_take_same : (r : Option (Claim H)) → MatchOption r (door' ≡ shared_port) (λ c. TakesFirst IsFit shared_port.ledger c door'.ledger)
          → part_of door' ≡ part_of shared_port
      tried_take_same None h = ap (part_of {H = H}) h
      tried_take_same (Some c) t = took_part shared_port door' c same t

    -- by its own deque alone, of a handle of a stealing pool
    module _ (own_deque own_deque' shared_port : PoolPort H) (next : List (PoolPort H)) (same : own_deque'.queue ≡ own_deque.queue) where
      pub tried_by_own : (c : Claim H) (r : Result (Unit {0}) (Claim H))
          → MatchResult r (λ _. PutsLast IsFit own_deque.ledger c own_deque'.ledger) (λ back. (back ≡ c) × (own_deque' ≡ own_deque))
          → MatchResult r (λ _. Pushes IsFit (stealing own_deque shared_port next) c (stealing own_deque' shared_port next))
          (λ back. (back ≡ c) × (stealing own_deque' shared_port next ≡ stealing own_deque shared_port next))
      tried_by_own c (Ok u) p = puts_first own_deque own_deque' (shared_port ∷ next) c same p
      tried_by_own c (Err back) h = (h.0, ap (λ (l : PoolPort H). stealing l shared_port next) h.1)

      -- which is the queue to which it pushes
      pub take_own_by_own : (r : Option (Claim H)) → MatchOption r ((own_deque' ≡ own_deque) × QueueMoment IsFit own_deque.ledger [])
          (λ c. TakesFirst IsFit own_deque.ledger c own_deque'.ledger)
          → MatchOption r ((stealing own_deque' shared_port next ≡ stealing own_deque shared_port next)
          × FindsOwnEmpty IsFit (ports_of (stealing own_deque shared_port next)))
          (λ c. TakesOwn IsFit (ports_of (stealing own_deque shared_port next)) c (ports_of (stealing own_deque' shared_port next)))
      take_own_by_own None h = (
        ap (λ (l : PoolPort H). stealing l shared_port next) h.0,
        record { pool_port = own_deque; rest = shared_port ∷ next; found = refl; empty = h.1 },
      )
      take_own_by_own (Some c) t = record {
        pool_port = own_deque;
        rest = shared_port ∷ next;
        after = own_deque'.ledger;
        found = refl;
        first = t;
        then' = ap (λ x. x ∷ shared_port ∷ next) (moved own_deque own_deque' same);
      }

      pub take_own_parts : (r : Option (Claim H)) → MatchOption r ((own_deque' ≡ own_deque) × QueueMoment IsFit own_deque.ledger [])
          (λ c. TakesFirst IsFit own_deque.ledger c own_deque'.ledger)
          → parts_of (stealing own_deque' shared_port next) ≡ parts_of (stealing own_deque shared_port next)
      take_own_parts None h = own_parts own_deque own_deque' shared_port next (ap (part_of {H = H}) h.0)
      take_own_parts (Some c) t = own_parts own_deque own_deque' shared_port next (took_part own_deque own_deque' c same t)

      pub tried_take_by_own : (r : Option (Claim H)) → MatchOption r (own_deque' ≡ own_deque) (λ c. TakesFirst IsFit own_deque.ledger c own_deque'.ledger)
          → MatchOption r (stealing own_deque' shared_port next ≡ stealing own_deque shared_port next)
          (λ c. Takes IsFit (stealing own_deque shared_port next) c (stealing own_deque' shared_port next))
      tried_take_by_own None h = ap (λ (l : PoolPort H). stealing l shared_port next) h
      tried_take_by_own (Some c) t = takes_here [] own_deque own_deque' (shared_port ∷ next) c (All-nil (WasEmpty IsFit)) same t
