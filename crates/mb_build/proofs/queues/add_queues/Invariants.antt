use Rattle.std.proofs.Common.{◌≡◌, ◌++◌, List, map}
use Rattle.std.specs.Prelude.{All}
use Rattle.std.specs.Vec.Iter.{into_iter_items}
use Rattle.mb_queue.specs.Made.{IsMakeable, numbers_of}
use Rattle.mb_queue.specs.Passes.{TakePassView}
use Rattle.mb_build.specs.Handed.{passes_of}
use Rattle.mb_build.specs.Made.{AreEmpty}
use Rattle.mb_build.proofs.queues.add_queues.Given as goal

abbrev pub invariant-loop-kind : goal.invariant-loop-kind
invariant-loop-kind l = (more : List TakePassView) × (l.takes.items ≡ l.initial.takes.items ++ more)
    × AreEmpty l.yielded 1 (numbers_of l.senders) more
    × (map (λ row. row.items) l.rows ≡ map (passes_of more) (numbers_of l.senders))
    × (l.yielded ++ into_iter_items l.kind-iterator ≡ l.fn.kinds.items)
    × All IsMakeable (into_iter_items l.kind-iterator)
