-- How a pool begins, and how it ends (this project's own profile).
use Rattle.std.specs.Prelude.{◌≡◌, ◌⊎◌, ◌<◌, ℕ, ◌+◌, List, [], ◌∷◌, ◌++◌, length, map, IsPermutation, Some, None}
use Rattle.atomic_blocks.specs.Lent.{RowsId}
use Rattle.mb_gate.specs.declared.claim.Claim.{Claim}
use Rattle.mb_gate.specs.Untouched.{Origin}
use Rattle.mb_pool.specs.Places.{AreHandles, AreFeeds, PoolPort, QueueInfo, PoolEndpoint, PoolView, deque_at, pushed_by, taken_by}
use Rattle.mb_msg.specs.declared.pool_kind.PoolKind.{PoolKind}
use Rattle.mb_msg.specs.declared.pool_kind.PoolKind.TheVariants.{Shared, Stealing}

-- it is a deque without a bound, of the handle with this number
abbrev pub IsDeque : ℕ → QueueInfo → Type 0
IsDeque number queue = (rows : RowsId) × (queue ≡ record { place = deque_at number rows; capacity = None })

-- they are the deques of the handles from this number on, in order
abbrev pub AreDeques : ℕ → List QueueInfo → Type 0
AreDeques number [] = Unit {0}
AreDeques number (queue ∷ queues) = IsDeque number queue × AreDeques (number + 1) queues

-- the queues of ports
abbrev pub queues_of : {H : Type 0} → List (PoolPort H) → List QueueInfo
queues_of {H} = map (λ (l : PoolPort H). l.queue)

-- a shared pool has one queue, which holds at most 64 claims; a stealing one has an injector and a deque for each handle, none
-- of which has a bound
abbrev pub IsOfKind : {H : Type 0} → PoolKind → PoolView H → Type 0
IsOfKind Shared pool = (pool.shared_port.capacity ≡ Some 64) × (pool.deques ≡ [])
IsOfKind Stealing pool = (pool.shared_port.capacity ≡ None) × (length pool.deques ≡ pool.handles) × AreDeques 0 pool.deques

-- there are handles, and each has a deque or none has
pub record IsWhole {H : Type 0} (pool : PoolView H) : Type 0 where
  pub not_empty : 0 < pool.handles
  pub deques : AreDeques 0 pool.deques
  pub same_count : (pool.deques ≡ []) ⊎ (length pool.deques ≡ pool.handles)

-- nothing was pushed or taken through these yet
abbrev pub AreUnused : {H : Type 0} → List (PoolEndpoint H) → Type 0
AreUnused endpoints = (pushed_by endpoints ≡ []) × (taken_by endpoints ≡ [])

-- a new pool of this kind for the claims of these gates, with this many handles and feeds
pub record IsNewPool {H : Type 0} (origin : Origin H) (kind : PoolKind) (workers feeds : ℕ) (pool : PoolView H)
    (of_workers of_feeds : List (PoolEndpoint H)) : Type 0 where
  pub gates : pool.gates ≡ origin
  pub handles_are : pool.handles ≡ workers
  pub feeds_are : pool.feeds ≡ feeds
  pub kind_is : IsOfKind kind pool
  pub are_handles : AreHandles pool of_workers
  pub are_feeds : AreFeeds pool of_feeds
  pub unused : AreUnused (of_workers ++ of_feeds)

-- what is left of a pool: what was taken, and what is left, is what was pushed, each claim once
abbrev pub IsLeft : {H : Type 0} → List (PoolEndpoint H) → List (Claim H) → Type 0
IsLeft endpoints left = IsPermutation (taken_by endpoints ++ left) (pushed_by endpoints)
