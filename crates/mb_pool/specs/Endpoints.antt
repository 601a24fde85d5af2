-- A handle and a feed, as contracts see them (this project's own profile).
use Rattle.std.specs.Prelude.{◌≡◌, ◌<◌, List, [], ◌∷◌, All, Option, Some, None}
use Rattle.mb_pool.specs.declared.worker_deques.WorkerDeques.{WorkerDeques}
use Rattle.mb_gate.specs.Untouched.{Origin}
use Rattle.mb_pool.specs.Places.{PoolPort, Part, PoolEndpoint, gates_of, ports_of, part_of}

-- the port has a share of its queue
abbrev pub HasShare : {H : Type 0} → PoolPort H → Type 0
HasShare pool_port = 0 < pool_port.ledger.shares

-- a port with a share of a queue for claims of these gates
pub record IsOpenPort {H : Type 0} (gates : Option (Origin H)) (port : Part H) : Type 0 where
  pub share : 0 < port.shares
  pub same : port.gates ≡ gates

-- the port of its own deque that a handle of a stealing pool has
abbrev pub own_of : {H : Type 0} → Option (WorkerDeques H) → List (PoolPort H)
own_of None = []
own_of (Some m) = m.own_deque ∷ []

-- the ports of the other deques that a handle of a stealing pool has
abbrev pub next_of : {H : Type 0} → Option (WorkerDeques H) → List (PoolPort H)
next_of None = []
next_of (Some m) = m.thieves.items

-- a handle, as contracts see it: by its port of the queue that all share and those of deques
abbrev pub endpoint_of : {H : Type 0} → PoolPort H → Option (WorkerDeques H) → PoolEndpoint H
endpoint_of shared_port member = record { own_deque = own_of member; shared_port = shared_port; next = next_of member }

-- a feed, as contracts see it: by its one port, of the queue that all share
abbrev pub of_feed : {H : Type 0} → PoolPort H → PoolEndpoint H
of_feed shared_port = record { own_deque = []; shared_port = shared_port; next = [] }

-- each of its ports has a share, and is of the same gates
abbrev pub AreOpen : {H : Type 0} → PoolEndpoint H → Type 0
AreOpen {H} endpoint = All (λ (l : PoolPort H). IsOpenPort (gates_of endpoint) (part_of l)) (ports_of endpoint)
