use Rattle.std.proofs.Common.{◌≡◌, All, Some, subst}
use Rattle.mb_pool.specs.Places.{PoolEndpoint, gates_of}
use Rattle.mb_pool.proofs.Alike.{handles_gates}
use Rattle.bench.proofs.pools.worker.workers.Goals as goal

pub workers_of-requires-clause-same_origin : goal.workers_of-requires-clause-same_origin
workers_of-requires-clause-same_origin c =
    let begun = c.in-Ok.ensures in let handles = c.in-Ok.handles.items in
    subst (λ o. All (λ (w : PoolEndpoint _). gates_of w ≡ Some o) handles) begun.gates (handles_gates c.in-Ok._pool handles begun.are_handles)
