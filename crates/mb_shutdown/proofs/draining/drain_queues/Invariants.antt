use Rattle.std.proofs.Common.{◌≡◌, ◌++◌, length, map, take, drop, vec_len}
use Rattle.std.specs.Prelude.{All, []}
use Rattle.mb_queue.specs.Passes.{TakePassView}
use Rattle.std.proofs.Common.{List}
use Rattle.mb_shutdown.specs.LeftInQueues.{AreRests}
use Rattle.mb_shutdown.proofs.draining.drain_queues.Given as goal

abbrev pub invariant-loop-take : goal.invariant-loop-take
invariant-loop-take g l =
    (length l.rooms ≡ length l.initial.takes.items)
    × All (λ room. room.items ≡ []) (take (length l.takes.items) l.rooms)
    × ((done : List TakePassView) × (l.initial.takes.items ≡ l.takes.items ++ done)
    × AreRests done (map (λ room. room.items) (drop (length l.takes.items) l.rooms)))
    × (take (length l.takes.items) l.rooms ≡ take (length l.takes.items) l.initial.rooms)

abbrev pub decreases-loop-take : goal.decreases-loop-take
decreases-loop-take g l = vec_len l.takes
