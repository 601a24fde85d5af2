-- A new pool, put together of its queues.
use Rattle.std.proofs.Common.{◌≡◌, ℕ, ◌+◌, ◌<◌, List, [], ◌∷◌, length, map, replicate, sym, refl, ap, ◌∙◌, subst, arith}
use Rattle.std.specs.Prelude.{All, Option, Some, None}
use Rattle.mb_msg.specs.declared.pool_kind.PoolKind.{PoolKind}
use Rattle.mb_pool.specs.declared.worker_deques.WorkerDeques.{WorkerDeques}
use Rattle.mb_pool.specs.Begins.{AreWorkerDeques, AreNewOf, borrowed, borrowed_next, bound_of, new_shared_port, with_shares}
use Rattle.mb_pool.specs.Ledger.{opened}
use Rattle.mb_pool.specs.Made.{IsNewPool}
use Rattle.mb_gate.specs.Untouched.{Origin}
use Rattle.mb_pool.specs.Places.{PoolPort, PoolEndpoint, PoolView, numbers}
use Rattle.mb_pool.specs.Endpoints.{AreOpen, next_of, of_feed, own_of, endpoint_of}
use Rattle.mb_pool.proofs.Begins.{begun, count_members, made, made_members, members_open}
use Rattle.mb_pool.proofs.Handing.{shared_port_is}

module _ {H : Type 0} (origin : Origin H) (kind : PoolKind) (workers feeds ports : ℕ) (owns : List (PoolPort H)) (first shared_port : PoolPort H) (some : 0 < workers)
    (new : AreNewOf kind origin workers owns)
    (bound : first.queue.capacity ≡ bound_of kind) (is : shared_port ≡ record first { ledger = opened (Some origin) ports ports })
    (sum : ports ≡ workers + feeds) where
  abbrev pub pool : PoolView H
  pool = made origin kind workers feeds owns shared_port.queue new some

  -- the first port of the queue that all share has all its shares
  pub all_shares : shared_port.ledger ≡ opened shared_port.ledger.gates shared_port.ledger.members ports
  all_shares = subst (λ (l : PoolPort H). l.ledger ≡ opened l.ledger.gates l.ledger.members ports) (sym is) refl

  module _ (ms : List (Option (WorkerDeques H))) (none : owns ≡ [] → ms ≡ replicate workers None)
      (own_deque : 0 < length owns → map (own_of {H = H}) ms ≡ map (λ (l : PoolPort H). with_shares 1 l ∷ []) owns)
      (next : 0 < length owns → map (next_of {H = H}) ms ≡ map (borrowed_next owns) (numbers 0 (length owns))) where
    pub are_members : AreWorkerDeques pool ms
    are_members = made_members origin kind workers feeds owns shared_port.queue new some ms none own_deque next

    pub are_open : All (λ m. AreOpen (endpoint_of (new_shared_port pool) m)) ms
    are_open = members_open pool ms are_members

    -- there is a port for each handle and each feed
    pub ports_there : (ls : List (PoolPort H)) → ls ≡ replicate ports (borrowed shared_port) → ls ≡ replicate (length ms + feeds) (new_shared_port pool)
    ports_there ls e =
        let count : length ms ≡ workers = count_members origin kind workers feeds owns shared_port.queue new some ms are_members in
        let many : ports ≡ length ms + feeds = omega (arith, count, sum) in
        e ∙ (λ i. replicate (many i) (shared_port_is origin ports (workers + feeds) first shared_port is sum i))

    pub is_begun : (of_workers of_feeds : List (PoolEndpoint H)) → of_workers ≡ map (endpoint_of (new_shared_port pool)) ms
        → of_feeds ≡ replicate feeds (of_feed (new_shared_port pool)) → IsNewPool origin kind workers feeds pool of_workers of_feeds
    is_begun of_workers of_feeds e f = begun origin kind workers feeds owns shared_port.queue new some ms of_workers of_feeds
        (ap (λ (l : PoolPort H). l.queue.capacity) is ∙ bound) are_members e f
