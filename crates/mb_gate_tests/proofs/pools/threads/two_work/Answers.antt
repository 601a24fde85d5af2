use Rattle.std.proofs.Common.{[], ◌∷◌}
use denote.Ref.{ShrRef}
use denote.Param.{param}
use denote.Param.Send.{sendable}
use Rattle.std.proofs.sync.atomic.AtomicU64.TheSendSync as number
use Rattle.mb_testkit.proofs.Captured.{captured}
use Rattle.mb_testkit.proofs.Crossing.{gates_shared, pass_crosses}
use Rattle.mb_gate_tests.proofs.pools.Crossing.{TheHandle, TheGates, TheNumber, ThePass, handle_crosses}
use Rattle.mb_gate_tests.proofs.pools.threads.two_work.Goals as goal

pub join-requires-send-F : goal.join-requires-send-F
join-requires-send-F g c κs within =
    captured 1 _ _ (ShrRef _ _ (param 0 g.row.R) ∷ ShrRef _ _ TheGates ∷ ThePass ∷ TheHandle ∷ ShrRef _ _ TheNumber ∷ []) (
      search (sendable, c.type_bounds.sync-R),
      (search (sendable, gates_shared), (pass_crosses, (handle_crosses, (search (sendable, number.the_sync), tt)))),
    )

pub join-requires-send-A : goal.join-requires-send-A
join-requires-send-A g c κs within = search (sendable, handle_crosses) depth 20
