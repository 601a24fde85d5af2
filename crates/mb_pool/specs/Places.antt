-- What contracts see of a pool, its handles and its feeds (this project's own profile).
use Rattle.std.specs.Prelude.{◌≡◌, ℕ, zero, suc, ◌+◌, List, [], ◌∷◌, ◌++◌, map, flat_map, take, drop, replicate, IsPermutation, Option, Some}
use Rattle.atomic_blocks.specs.Laid.{WebId}
use Rattle.atomic_blocks.specs.Lent.{RowsId}
use Rattle.atomic_table.specs.Seated.{TableId}
use Rattle.mb_gate.specs.declared.claim.Claim.{Claim}
use Rattle.mb_pool.specs.Ledger.{claims_in}
use Rattle.mb_gate.specs.Untouched.{Origin}
use Rattle.mb_pool.specs.Account.{ClaimAccount}

-- which queue it is, by where it is in memory; of a deque also the number of the handle that it belongs to
pub data QueueId : Type 0 where
  slots_at : TableId → QueueId
  feed_queue_at : WebId → QueueId
  deque_at : ℕ → RowsId → QueueId

-- a queue of a pool: which one it is, and how many claims it holds at most
pub record QueueInfo : Type 0 where
  pub place : QueueId
  pub capacity : Option ℕ

-- the number of the handle that the queue belongs to
abbrev pub owner_in : QueueId → ℕ
owner_in (slots_at table) = 0
owner_in (feed_queue_at web) = 0
owner_in (deque_at number rows) = number

-- the number of the handle that the queue belongs to
abbrev pub owner_of : QueueInfo → ℕ
owner_of queue = owner_in queue.place

-- a port: its queue, and what it knows of that
pub record PoolPort (H : Type 0) : Type 0 where
  pub queue : QueueInfo
  pub ledger : ClaimAccount H

-- A handle or a feed, by its ports: of its own deque, if it has one; of the queue that all share; and of the next handles'
-- deques.
pub record PoolEndpoint (H : Type 0) : Type 0 where
  pub own_deque : List (PoolPort H)
  pub shared_port : PoolPort H
  pub next : List (PoolPort H)

-- its ports in the order in which a take looks; it pushes by the first
abbrev pub ports_of : {H : Type 0} → PoolEndpoint H → List (PoolPort H)
ports_of w = w.own_deque ++ w.shared_port ∷ w.next

-- whose gates' claims it handles
abbrev pub gates_of : {H : Type 0} → PoolEndpoint H → Option (Origin H)
gates_of w = w.shared_port.ledger.gates

-- of a port, what no call of a handle or a feed changes
pub record Part (H : Type 0) : Type 0 where
  pub queue : QueueInfo
  pub gates : Option (Origin H)
  pub members : ℕ
  pub shares : ℕ

-- what no call of a handle or a feed changes of a port
abbrev pub part_of : {H : Type 0} → PoolPort H → Part H
part_of l = record { queue = l.queue; gates = l.ledger.gates; members = l.ledger.members; shares = l.ledger.shares }

-- the same of a handle or a feed
pub record Parts (H : Type 0) : Type 0 where
  pub own_deque : List (Part H)
  pub shared_port : Part H
  pub next : List (Part H)

-- what no call of a handle or a feed changes of its ports
abbrev pub parts_of : {H : Type 0} → PoolEndpoint H → Parts H
parts_of {H} w = record { own_deque = map (part_of {H = H}) w.own_deque; shared_port = part_of w.shared_port; next = map (part_of {H = H}) w.next }

-- all the claims that were pushed through these, and all that were taken
abbrev pub pushed_at : {H : Type 0} → List (PoolPort H) → List (Claim H)
pushed_at {H} = flat_map (λ (l : PoolPort H). claims_in l.ledger.pushed)

abbrev pub taken_at : {H : Type 0} → List (PoolPort H) → List (Claim H)
taken_at {H} = flat_map (λ (l : PoolPort H). claims_in l.ledger.taken)

abbrev pub pushed_by : {H : Type 0} → List (PoolEndpoint H) → List (Claim H)
pushed_by {H} = flat_map (λ (w : PoolEndpoint H). pushed_at (ports_of w))

abbrev pub taken_by : {H : Type 0} → List (PoolEndpoint H) → List (Claim H)
taken_by {H} = flat_map (λ (w : PoolEndpoint H). taken_at (ports_of w))

-- A pool: whose gates' claims it holds; the queue that all share; the deques, one for each handle, or none in a shared pool;
-- and how many handles and feeds there are.
pub record PoolView (H : Type 0) : Type 0 where
  pub gates : Origin H
  pub shared_port : QueueInfo
  pub deques : List QueueInfo
  pub handles : ℕ
  pub feeds : ℕ

-- a port with one share of its queue: of the queue that all share each handle and each feed has one, of a deque each handle
abbrev pub shared_port_part : {H : Type 0} → PoolView H → Part H
shared_port_part pool = record { queue = pool.shared_port; gates = Some pool.gates; members = pool.handles + pool.feeds; shares = 1 }

abbrev pub deque_parts : {H : Type 0} → PoolView H → List QueueInfo → List (Part H)
deque_parts {H} pool = map (λ (queue : QueueInfo). record { queue = queue; gates = Some pool.gates; members = pool.handles; shares = 1 })

-- the ports of a handle of the pool, by its number: where there are deques one of its own; one of the queue that all share;
-- and one of each of the next handles' deques, in order
abbrev pub handle_parts : {H : Type 0} → PoolView H → ℕ → Parts H
handle_parts pool handle = record {
  own_deque = deque_parts pool (take 1 (drop handle pool.deques));
  shared_port = shared_port_part pool;
  next = deque_parts pool (drop (handle + 1) pool.deques ++ take handle pool.deques);
}

abbrev pub feed_parts : {H : Type 0} → PoolView H → Parts H
feed_parts pool = record { own_deque = []; shared_port = shared_port_part pool; next = [] }

-- this many numbers in order, from the first on
abbrev pub numbers : ℕ → ℕ → List ℕ
numbers first zero = []
numbers first (suc count) = first ∷ numbers (first + 1) count

-- the number of the handle whose own deque is the first of these; 0 where there is none
abbrev pub number_in : {H : Type 0} → List (Part H) → ℕ
number_in [] = 0
number_in (p ∷ ps) = owner_of p.queue

-- the number of a handle, by its own deque; 0 where it has none
abbrev pub number_of : {H : Type 0} → PoolEndpoint H → ℕ
number_of w = number_in (parts_of w).own_deque

-- they are all the handles of the pool, in the order of their numbers
abbrev pub AreHandles : {H : Type 0} → PoolView H → List (PoolEndpoint H) → Type 0
AreHandles {H} pool handles = map (parts_of {H = H}) handles ≡ map (handle_parts pool) (numbers 0 pool.handles)

-- they are all the handles of the pool, in any order
abbrev pub AreAllHandles : {H : Type 0} → PoolView H → List (PoolEndpoint H) → Type 0
AreAllHandles {H} pool handles = IsPermutation (map (parts_of {H = H}) handles) (map (handle_parts pool) (numbers 0 pool.handles))

-- they are all the feeds of the pool, in any order
abbrev pub AreFeeds : {H : Type 0} → PoolView H → List (PoolEndpoint H) → Type 0
AreFeeds {H} pool feeds = map (parts_of {H = H}) feeds ≡ replicate pool.feeds (feed_parts pool)
