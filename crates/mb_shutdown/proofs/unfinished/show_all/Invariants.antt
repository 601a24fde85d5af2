use Rattle.std.proofs.Common.{◌≡◌, ◌++◌, vec_capacity}
use Rattle.std.specs.List.{AllZip}
use Rattle.std.specs.Vec.Iter.{into_iter_items}
use Rattle.mb_shutdown.specs.Unfinished.{ShowsHome}
use Rattle.mb_shutdown.proofs.unfinished.show_all.Given as goal

abbrev pub invariant-loop-left : goal.invariant-loop-left
invariant-loop-left g l =
    AllZip ShowsHome l.yielded l.actors.items × (l.yielded ++ into_iter_items l.left-iterator ≡ l.fn.all.items)
    × (vec_capacity l.actors ≡ vec_capacity l.initial.actors)
