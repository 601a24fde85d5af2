-- The steps of the loops that end a pool.
use Rattle.std.proofs.Common.{◌≡◌, ℕ, ◌+◌, ◌<◌, List, [], ◌∷◌, ◌++◌, length, get_or, set, sym, ap, ◌∙◌, subst, arith}
use Rattle.std.specs.Prelude.{All, Option}
use Rattle.std.proofs.lemmas.List.Elements.{All-nil, All-cons, All-head, All-tail}
use Rattle.mb_gate.specs.declared.claim.Claim.{Claim}
use Rattle.mb_pool.specs.Handles.{AreAlike, AreMatched, Empties, Gathers, IsAllOf, IsAmong, MayJoin, TakesIn, Where, shared_ports_of, joined, joined_first}
use Rattle.mb_pool.specs.Handles.{owns_of, where_is}
use Rattle.mb_gate.specs.Untouched.{Origin}
use Rattle.mb_pool.specs.Places.{PoolPort, PoolEndpoint, gates_of, owner_of, part_of}
use Rattle.mb_pool.specs.Endpoints.{AreOpen, HasShare, IsOpenPort, of_feed}
use Rattle.mb_pool.proofs.Emptying.{empties_append, empties_gates, empties_none}
use Rattle.mb_pool.proofs.Gathering.{Gathering, gathering_more, gathers_one, still_among, still_matched}
use Rattle.mb_pool.proofs.Ports.{all_right, all_unmap, shared_port_open, own_open, stealing}

module _ {H : Type 0} where
  -- a handle whose ports of the other deques were taken is still open
  pub alone_open : (own_deque shared_port : PoolPort H) (next none : List (PoolPort H)) → none ≡ [] → AreOpen (stealing own_deque shared_port next) → AreOpen (stealing own_deque shared_port none)
  alone_open own_deque shared_port next none e h =
      let P : PoolPort H → Type 0 = λ l. IsOpenPort shared_port.ledger.gates (part_of l) in
      let alone : All P (own_deque ∷ shared_port ∷ []) =
      All-cons P own_deque (shared_port ∷ []) (All-head P own_deque (shared_port ∷ next) h)
      (All-cons P shared_port [] (All-head P shared_port next (All-tail P own_deque (shared_port ∷ next) h)) (All-nil P)) in
      subst (λ n. AreOpen (stealing own_deque shared_port n)) (sym e) alone

  -- and so is one that joined a port of its own deque
  pub joined_open : (own_deque own_deque' thief shared_port : PoolPort H) (next : List (PoolPort H)) → own_deque' ≡ joined own_deque thief → AreOpen (stealing own_deque shared_port next)
      → AreOpen (stealing own_deque' shared_port next)
  joined_open own_deque own_deque' thief shared_port next e h =
      let P : PoolPort H → Type 0 = λ l. IsOpenPort shared_port.ledger.gates (part_of l) in
      let mine : IsOpenPort shared_port.ledger.gates (part_of own_deque) = own_open own_deque shared_port next h in
      let some : 0 < own_deque.ledger.shares = mine.share in
      let more : 0 < own_deque.ledger.shares + thief.ledger.shares = omega (arith, some) in
      let first : IsOpenPort shared_port.ledger.gates (part_of (joined own_deque thief)) = record { share = more; same = mine.same } in
      subst (λ o. AreOpen (stealing o shared_port next)) (sym e) (All-cons P (joined own_deque thief) (shared_port ∷ next) first (All-tail P own_deque (shared_port ∷ next) h))

  -- the next port is of a deque of one of the handles
  pub among_now : (old now : List (PoolEndpoint H)) (all done rest : List (PoolPort H)) (t : PoolPort H) → done ++ t ∷ rest ≡ all
      → All (λ (l : PoolPort H). IsAmong old (part_of l)) all → Gathers old done now → IsAmong now (part_of t)
  among_now old now all done rest t e h g =
      let P : PoolPort H → Type 0 = λ l. IsAmong old (part_of l) in
      still_among old now (part_of t) g.frames (All-head P t rest (all_right P done (t ∷ rest) (subst (All P) (sym e) h)))

  -- so that handle may join it
  pub may_own : (now : List (PoolEndpoint H)) (t : PoolPort H) (n : ℕ) (d : PoolEndpoint H) → n ≡ owner_of t.queue → IsAmong now (part_of t)
      → MayJoin (get_or now n d).own_deque (part_of t)
  may_own now t n d e among = subst (λ (k : ℕ). MayJoin (get_or now k d).own_deque (part_of t)) (sym e) (among.1 d)

  pub gathers_at : (old now : List (PoolEndpoint H)) (done : List (PoolPort H)) (t : PoolPort H) (n : ℕ) (d new : PoolEndpoint H) → n ≡ owner_of t.queue
      → new ≡ record (get_or now n d) { own_deque = joined_first (get_or now n d).own_deque t } → Gathers old done now → IsAmong now (part_of t)
      → Gathers old (done ++ t ∷ []) (set now n new)
  gathers_at old now done t n d new e is g among =
      let with' : ℕ → PoolEndpoint H = λ k. record (get_or now k d) { own_deque = joined_first (get_or now k d).own_deque t } in
      let here : Gathers old (done ++ t ∷ []) (set now n (with' n)) =
      subst (λ (k : ℕ). Gathers old (done ++ t ∷ []) (set now k (with' k))) (sym e) (gathers_one old now done t d g among) in
      subst (λ (w : PoolEndpoint H). Gathers old (done ++ t ∷ []) (set now n w)) (sym is) here

  -- the ports of the next handle were taken, which are of deques of these handles
  module _ (old now : List (PoolEndpoint H)) (k : ℕ) (d after : PoolEndpoint H) (given : List (PoolPort H)) (lt : k < length now) (g : Gathering old k now)
      (next_workers : given ≡ (get_or now k d).next)
      (rest : after ≡ record (get_or now k d) { next = [] }) where
    pub given_matched : AreMatched old → All (λ (l : PoolPort H). IsAmong (set now k after) (part_of l)) given
    given_matched h =
        subst (λ (y : List (PoolPort H) × PoolEndpoint H). All (λ (l : PoolPort H). IsAmong (set now k y.1) (part_of l)) y.0) (λ i. (sym next_workers i, sym rest i))
        (still_matched old now k d lt g h)

    pub gathered_more : (new : List (PoolEndpoint H)) → Gathers (set now k after) given new → Gathering old (k + 1) new
    gathered_more new j =
        gathering_more old now k d lt g new (subst (λ (y : List (PoolPort H) × PoolEndpoint H). Gathers (set now k y.1) y.0 new) (λ i. (next_workers i, rest i)) j)

  -- the next handle or feed has a port of the same queue
  pub alike_next : (base : PoolPort H) (all done rest : List (PoolEndpoint H)) (handle : PoolEndpoint H) → done ++ handle ∷ rest ≡ all
      → All (λ (l : PoolPort H). where_is l ≡ where_is base) (shared_ports_of all) → where_is handle.shared_port ≡ where_is base
  alike_next base all done rest handle e h =
      let P : PoolPort H → Type 0 = λ l. where_is l ≡ where_is base in
      let Q : PoolEndpoint H → Type 0 = λ w. P w.shared_port in
      All-head Q handle rest (all_right Q done (handle ∷ rest) (subst (All Q) (sym e) (all_unmap P (λ (w : PoolEndpoint H). w.shared_port) all h)))

  pub same_place : (base shared_port other : PoolPort H) → where_is shared_port ≡ where_is base → where_is other ≡ where_is base → other.queue ≡ shared_port.queue
  same_place base shared_port other d o = ap (λ (w : Where H). w.queue) (o ∙ sym d)

  pub both_share : (shared_port other : PoolPort H) → HasShare shared_port → HasShare other → HasShare (joined shared_port other)
  both_share shared_port other d o = let here : 0 < shared_port.ledger.shares = d in omega (arith, here)

  -- the first handle's port is the one that joins those of the others
  pub alike_rest : (all rest : List (PoolEndpoint H)) (first : PoolEndpoint H) (base : PoolPort H) → all ≡ first ∷ rest → base ≡ first.shared_port → AreAlike (shared_ports_of all)
      → All (λ (l : PoolPort H). where_is l ≡ where_is base) (shared_ports_of rest)
  alike_rest all rest first base e b h =
      let mine : AreAlike (shared_ports_of (first ∷ rest)) = subst (λ (ws : List (PoolEndpoint H)). AreAlike (shared_ports_of ws)) e h in
      subst (λ (x : PoolPort H). All (λ (l : PoolPort H). where_is l ≡ where_is x) (shared_ports_of rest)) (sym b) mine

  pub shared_port_share : (w handle : PoolEndpoint H) → w ≡ handle → AreOpen w → HasShare handle.shared_port
  shared_port_share w handle e h = (shared_port_open handle (subst (λ (v : PoolEndpoint H). AreOpen v) e h)).share

  module _ (IsFit : Option (Origin H) → Claim H → Type 0) where
    -- a handle with a deque of its own
    pub emptied_own : (own_deque shared_port : PoolPort H) (next : List (PoolPort H)) (handle : PoolEndpoint H) (old new : List (Claim H)) → stealing own_deque shared_port next ≡ handle
        → AreOpen (stealing own_deque shared_port next)
        → Empties IsFit own_deque.ledger.gates (own_deque ∷ []) old new → Empties IsFit (gates_of handle) handle.own_deque old new
    emptied_own own_deque shared_port next handle old new is h e =
        let same : own_deque.ledger.gates ≡ shared_port.ledger.gates = (own_open own_deque shared_port next h).same in
        let mine : Empties IsFit shared_port.ledger.gates (own_deque ∷ []) old new =
        empties_gates IsFit own_deque.ledger.gates shared_port.ledger.gates (own_deque ∷ []) old new same e in
        subst (λ (w : PoolEndpoint H). Empties IsFit (gates_of w) w.own_deque old new) is mine

    -- a handle without one
    pub emptied_nothing : (shared_port : PoolPort H) (handle : PoolEndpoint H) (old : List (Claim H)) → of_feed shared_port ≡ handle → Empties IsFit (gates_of handle) handle.own_deque old old
    emptied_nothing shared_port handle old is = subst (λ (w : PoolEndpoint H). Empties IsFit (gates_of w) w.own_deque old old) is (empties_none IsFit shared_port.ledger.gates old)

    -- the first handle and all others
    module _ (all rest : List (PoolEndpoint H)) (first : PoolEndpoint H) (base last : PoolPort H) (is : all ≡ first ∷ rest) (same : base ≡ first.shared_port)
        (took : TakesIn base (shared_ports_of rest) last) where
      pub all_shared_ports : IsAllOf (shared_ports_of all) last
      all_shared_ports =
          let mine : TakesIn first.shared_port (shared_ports_of rest) last = subst (λ (b : PoolPort H). TakesIn b (shared_ports_of rest) last) same took in
          subst (λ (ws : List (PoolEndpoint H)). IsAllOf (shared_ports_of ws) last) (sym is) mine

      pub all_emptied : (old mid new : List (Claim H)) → Empties IsFit (gates_of first) first.own_deque old mid
          → Empties IsFit base.ledger.gates (owns_of rest) mid new
          → Empties IsFit last.ledger.gates (owns_of all) old new
      all_emptied old mid new p q =
          let gates : base.ledger.gates ≡ last.ledger.gates = sym (ap (λ (w : Where H). w.gates) took.same) in
          let gates' : gates_of first ≡ last.ledger.gates = sym (ap (λ (l : PoolPort H). l.ledger.gates) same) ∙ gates in
          let both : Empties IsFit last.ledger.gates (owns_of (first ∷ rest)) old new =
          empties_append IsFit last.ledger.gates first.own_deque (owns_of rest) old mid new
          (empties_gates IsFit (gates_of first) last.ledger.gates first.own_deque old mid gates' p)
          (empties_gates IsFit base.ledger.gates last.ledger.gates (owns_of rest) mid new gates q) in
          subst (λ (ws : List (PoolEndpoint H)). Empties IsFit last.ledger.gates (owns_of ws) old new) (sym is) both
