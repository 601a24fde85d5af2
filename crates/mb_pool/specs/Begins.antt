-- How the ports of a new pool are made (this project's own profile).
use Rattle.std.specs.Prelude.{◌≡◌, ℕ, ◌+◌, List, [], ◌++◌, length, map, take, drop, Option, Some, None}
use Rattle.mb_msg.specs.declared.pool_kind.PoolKind.{PoolKind}
use Rattle.mb_msg.specs.declared.pool_kind.PoolKind.TheVariants.{Shared, Stealing}
use Rattle.mb_pool.specs.declared.worker_deques.WorkerDeques.{WorkerDeques}
use Rattle.mb_pool.specs.Ledger.{borrowing, lending, opened}
use Rattle.mb_pool.specs.Made.{AreDeques, queues_of}
use Rattle.mb_gate.specs.Untouched.{Origin}
use Rattle.mb_pool.specs.Places.{PoolPort, QueueInfo, PoolView, numbers}
use Rattle.mb_pool.specs.Endpoints.{next_of, own_of}

-- the pool for the claims of these gates with these queues and this many handles and feeds
abbrev pub whole_of : {H : Type 0} → Origin H → PoolPort H → List (PoolPort H) → ℕ → ℕ → PoolView H
whole_of origin shared_port owns handles feeds = record { gates = origin; shared_port = shared_port.queue; deques = queues_of owns; handles = handles; feeds = feeds }

-- how many claims the queue that all share holds at most
abbrev pub bound_of : PoolKind → Option ℕ
bound_of Shared = Some 64
bound_of Stealing = None

-- a port with this many shares of a queue, through which nothing was pushed or taken yet
abbrev pub fresh : {H : Type 0} → Origin H → ℕ → ℕ → QueueInfo → PoolPort H
fresh origin members shares queue = record { queue = queue; ledger = opened (Some origin) members shares }

-- the port that each handle and each feed of a new pool has of the queue that all share
abbrev pub new_shared_port : {H : Type 0} → PoolView H → PoolPort H
new_shared_port pool = fresh pool.gates (pool.handles + pool.feeds) 1 pool.shared_port

-- the port with this many shares
abbrev pub with_shares : {H : Type 0} → ℕ → PoolPort H → PoolPort H
with_shares shares l = record l { ledger = record l.ledger { shares = shares } }

-- a port with one share less, and the port that got it
abbrev pub lent : {H : Type 0} → PoolPort H → PoolPort H
lent l = record l { ledger = lending 1 l.ledger }

-- a port that got one share of another: nothing was pushed or taken through it
abbrev pub borrowed : {H : Type 0} → PoolPort H → PoolPort H
borrowed l = record l { ledger = borrowing 1 l.ledger }

-- ports of the own deques of this many handles, each with this many shares
pub record AreNew {H : Type 0} (origin : Origin H) (shares count : ℕ) (owns : List (PoolPort H)) : Type 0 where
  pub same_count : length owns ≡ count
  pub unused : owns ≡ map (fresh origin shares shares) (queues_of owns)
  pub deques : AreDeques 0 (queues_of owns)

-- of a stealing pool, each with all shares of its deque; of a shared one there are none
abbrev pub AreNewOf : {H : Type 0} → PoolKind → Origin H → ℕ → List (PoolPort H) → Type 0
AreNewOf Shared origin count owns = owns ≡ []
AreNewOf Stealing origin count owns = AreNew origin count count owns

-- for each of these ports, in order, what its handle borrowed of the next ones in order
abbrev pub borrowed_next : {H : Type 0} → List (PoolPort H) → ℕ → List (PoolPort H)
borrowed_next {H} owns handle = map (borrowed {H = H}) (drop (handle + 1) owns ++ take handle owns)

-- What the handles of a new pool have beside their ports of the queue that all share: in a stealing pool, a port of the own
-- deque and one of each of the next handles' deques, each with one share.
pub record AreWorkerDeques {H : Type 0} (pool : PoolView H) (members : List (Option (WorkerDeques H))) : Type 0 where
  pub own_deque : map (own_of {H = H}) members ≡ map (λ (handle : ℕ). map (fresh pool.gates pool.handles 1) (take 1 (drop handle pool.deques))) (numbers 0 pool.handles)
  pub next : map (next_of {H = H}) members
      ≡ map (λ (handle : ℕ). map (fresh pool.gates pool.handles 1) (drop (handle + 1) pool.deques ++ take handle pool.deques)) (numbers 0 pool.handles)
