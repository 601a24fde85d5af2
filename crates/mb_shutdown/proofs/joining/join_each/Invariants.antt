use Rattle.std.proofs.Common.{◌≡◌, ◌++◌, List, vec_len}
use Rattle.mb_queue.specs.Passes.{Queue}
use Rattle.mb_shutdown.specs.Joined.{joins, queues_of, queues_pushed_into}
use Rattle.mb_shutdown.proofs.joining.join_each.Given as goal

abbrev pub invariant-loop-pass : goal.invariant-loop-pass
invariant-loop-pass l =
    (joins l.takes l.passes.items ≡ joins l.initial.takes l.initial.passes.items)
    × ((more : List Queue) × (queues_of l.takes ≡ queues_pushed_into l.passes.items ++ more))

abbrev pub decreases-loop-pass : goal.decreases-loop-pass
decreases-loop-pass l = vec_len l.passes
