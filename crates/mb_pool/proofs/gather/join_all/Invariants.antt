use Rattle.std.proofs.Common.{◌≡◌, ◌++◌}
use Rattle.std.specs.Vec.Iter.{into_iter_items}
use Rattle.mb_pool.specs.Handles.{Gathers}
use Rattle.mb_pool.proofs.gather.join_all.Given as goal

abbrev pub invariant-loop-thief : goal.invariant-loop-thief
invariant-loop-thief g l = (l.yielded ++ into_iter_items l.thief-iterator ≡ l.fn.thieves.items) × Gathers l.initial.handles l.yielded l.handles
