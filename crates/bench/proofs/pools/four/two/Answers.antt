use Rattle.std.proofs.Common.{[], ◌∷◌}
use denote.Ref.{ShrRef}
use denote.Param.{param}
use denote.Param.Send.{sendable}
use Rattle.mb_testkit.proofs.Captured.{captured}
use Rattle.mb_testkit.proofs.Crossing.{gates_shared}
use Rattle.bench.specs.contracts.pools.worker.Worker as worker
use Rattle.bench.proofs.Crossing.{TheGates, worker_crosses}
use Rattle.bench.proofs.pools.four.two.Goals as goal

pub join-requires-send-F : goal.join-requires-send-F
join-requires-send-F g c κs within =
    captured 1 _ _ (ShrRef _ _ (param 0 g.row.R) ∷ ShrRef _ _ TheGates ∷ worker.the_row ∷ []) (
      search (sendable, c.type_bounds.sync-R),
      (search (sendable, gates_shared), (worker_crosses, tt)),
    )

pub join-requires-send-A : goal.join-requires-send-A
join-requires-send-A g c κs within = search (sendable, worker_crosses) depth 20
