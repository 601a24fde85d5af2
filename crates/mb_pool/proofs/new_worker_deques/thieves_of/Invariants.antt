use Rattle.std.proofs.Common.{◌≡◌, map}
use Rattle.mb_pool.specs.Begins.{borrowed_next}
use Rattle.mb_pool.specs.Places.{numbers}
use Rattle.mb_pool.proofs.Begins.{rotated}
use Rattle.mb_pool.proofs.new_worker_deques.thieves_of.Given as goal

abbrev pub invariant-loop-handle : goal.invariant-loop-handle
invariant-loop-handle g l = (l.owns ≡ rotated l.initial.owns l.handle) × (map (λ v. v.items) l.lists.items ≡ map (borrowed_next l.initial.owns)
    (numbers 0 l.handle))
