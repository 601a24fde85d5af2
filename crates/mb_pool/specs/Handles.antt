-- How a pool ends: its ports are joined, and its queues are emptied (this project's own profile).
use Rattle.std.specs.Prelude.{◌≡◌, ℕ, ◌+◌, ◌<◌, ◌≤◌, List, [], ◌∷◌, ◌++◌, length, get_or, map, flat_map, sum_by, All, IsPermutation, Option}
use Rattle.mb_gate.specs.declared.claim.Claim.{Claim}
use Rattle.mb_pool.specs.Ledger.{claims_in, joining}
use Rattle.mb_gate.specs.Untouched.{Origin}
use Rattle.mb_pool.specs.Places.{PoolPort, Part, QueueInfo, PoolEndpoint, owner_of, part_of, pushed_at, pushed_by, taken_at, taken_by}

-- a port after another one of its queue was joined
abbrev pub joined : {H : Type 0} → PoolPort H → PoolPort H → PoolPort H
joined l m = record l { ledger = joining l.ledger m.ledger }

-- such a port may be joined by the first of these: it is of the same queue, and has a share
abbrev pub MayJoin : {H : Type 0} → List (PoolPort H) → Part H → Type 0
MayJoin [] p = ⊥
MayJoin (l ∷ ls) p = (p.queue ≡ l.queue) × (0 < p.shares)

-- these ports, once the first has joined the other one
abbrev pub joined_first : {H : Type 0} → List (PoolPort H) → PoolPort H → List (PoolPort H)
joined_first [] m = []
joined_first (l ∷ ls) m = joined l m ∷ ls

-- such a port may be joined by the owner of its deque, one of these handles
abbrev pub IsAmong : {H : Type 0} → List (PoolEndpoint H) → Part H → Type 0
IsAmong {H} handles p = (owner_of p.queue < length handles) × ((d : PoolEndpoint H) → MayJoin (get_or handles (owner_of p.queue) d).own_deque p)

-- of a port, what joining others does not change
pub record Where (H : Type 0) : Type 0 where
  pub queue : QueueInfo
  pub gates : Option (Origin H)
  pub members : ℕ

abbrev pub where_is : {H : Type 0} → PoolPort H → Where H
where_is l = record { queue = l.queue; gates = l.ledger.gates; members = l.ledger.members }

-- the own deques of these handles and their ports of the queue that all share, without what they know
pub record Frame (H : Type 0) : Type 0 where
  pub own_deque : List (Where H)
  pub shared_port : PoolPort H

abbrev pub frame_of : {H : Type 0} → PoolEndpoint H → Frame H
frame_of {H} w = record { own_deque = map (where_is {H = H}) w.own_deque; shared_port = w.shared_port }

-- the ports that these handles have of their own deques
abbrev pub owns_of : {H : Type 0} → List (PoolEndpoint H) → List (PoolPort H)
owns_of {H} = flat_map (λ (w : PoolEndpoint H). w.own_deque)

abbrev pub nexts_of : {H : Type 0} → List (PoolEndpoint H) → List (PoolPort H)
nexts_of {H} = flat_map (λ (w : PoolEndpoint H). w.next)

abbrev pub shares_in : {H : Type 0} → List (PoolPort H) → ℕ
shares_in {H} = sum_by (λ (l : PoolPort H). l.ledger.shares)

-- these ports were joined by the owners of their deques, which now have all that was pushed and taken through them, and
-- their shares
pub record Gathers {H : Type 0} (old : List (PoolEndpoint H)) (more : List (PoolPort H)) (new : List (PoolEndpoint H)) : Type 0 where
  pub frames : map (frame_of {H = H}) new ≡ map (frame_of {H = H}) old
  pub next_workers : map (λ (w : PoolEndpoint H). w.next) new ≡ map (λ (w : PoolEndpoint H). w.next) old
  pub pushed : IsPermutation (pushed_by new) (pushed_by old ++ pushed_at more)
  pub taken : IsPermutation (taken_by new) (taken_by old ++ taken_at more)
  pub shares : shares_in (owns_of new) ≡ shares_in (owns_of old) + shares_in more

-- each handle's ports of the next ones' deques were joined by the owners
pub record AreGathered {H : Type 0} (old new : List (PoolEndpoint H)) : Type 0 where
  pub frames : map (frame_of {H = H}) new ≡ map (frame_of {H = H}) old
  pub next_workers : nexts_of new ≡ []
  pub pushed : IsPermutation (pushed_by new) (pushed_by old)
  pub taken : IsPermutation (taken_by new) (taken_by old)
  pub shares : shares_in (owns_of new) ≡ shares_in (owns_of old) + shares_in (nexts_of old)

-- each handle's ports of other deques are of deques of these handles
abbrev pub AreMatched : {H : Type 0} → List (PoolEndpoint H) → Type 0
AreMatched {H} handles = All (λ (l : PoolPort H). IsAmong handles (part_of l)) (nexts_of handles)

-- the port of a queue after others of it were joined, in this order
pub record TakesIn {H : Type 0} (base : PoolPort H) (others : List (PoolPort H)) (new : PoolPort H) : Type 0 where
  pub same : where_is new ≡ where_is base
  pub shares : new.ledger.shares ≡ base.ledger.shares + shares_in others
  pub pushed : claims_in new.ledger.pushed ≡ pushed_at (base ∷ others)
  pub taken : claims_in new.ledger.taken ≡ taken_at (base ∷ others)

-- the port that has joined all of these
abbrev pub IsAllOf : {H : Type 0} → List (PoolPort H) → PoolPort H → Type 0
IsAllOf [] new = ⊥
IsAllOf (base ∷ others) new = TakesIn base others new

-- ports of one queue
abbrev pub AreAlike : {H : Type 0} → List (PoolPort H) → Type 0
AreAlike [] = Unit {0}
AreAlike {H} (base ∷ others) = All (λ (l : PoolPort H). where_is l ≡ where_is base) others

-- the ports that these handles have of the queue that all share
abbrev pub shared_ports_of : {H : Type 0} → List (PoolEndpoint H) → List (PoolPort H)
shared_ports_of {H} = map (λ (w : PoolEndpoint H). w.shared_port)

module _ {H : Type 0} (IsFit : Option (Origin H) → Claim H → Type 0) where
  -- These claims were taken out of the queues of these ports, as they were pushed, and put behind the others. No port has
  -- more shares than there are. If each has all shares of its queue, what was taken through it, with these, is what was
  -- pushed.
  pub record Empties (gates : Option (Origin H)) (ports : List (PoolPort H)) (old new : List (Claim H)) : Type 0 where
    pub more : List (Claim H)
    pub added : new ≡ old ++ more
    pub fit : All (IsFit gates) more
    pub within_limit : All (λ (l : PoolPort H). l.ledger.shares ≤ l.ledger.members) ports
    pub whole : All (λ (l : PoolPort H). l.ledger.shares ≡ l.ledger.members) ports → IsPermutation (taken_at ports ++ more) (pushed_at ports)
