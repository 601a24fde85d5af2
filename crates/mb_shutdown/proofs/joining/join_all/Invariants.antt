use Rattle.std.proofs.Common.{◌≡◌, map}
use Rattle.std.specs.Prelude.{All}
use Rattle.std.specs.Vec.Iter.{into_iter_items}
use Rattle.mb_shutdown.specs.Joined.{joins_all, queues_of, queues_pushed_into}
use Rattle.mb_shutdown.proofs.joining.join_all.Given as goal

abbrev pub invariant-loop-passes : goal.invariant-loop-passes
invariant-loop-passes l =
    (joins_all l.takes (map (λ row. row.items) (into_iter_items l.passes-iterator))
    ≡ joins_all l.initial.takes (map (λ row. row.items) l.fn.senders.items))
    × All (λ row. queues_pushed_into row.items ≡ queues_of l.takes) (into_iter_items l.passes-iterator)
