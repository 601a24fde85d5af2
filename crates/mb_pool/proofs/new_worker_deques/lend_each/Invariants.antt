use Rattle.std.proofs.Common.{◌≡◌, map, take}
use Rattle.mb_pool.specs.Begins.{borrowed, lent}
use Rattle.mb_pool.proofs.Begins.{upto}
use Rattle.mb_pool.proofs.new_worker_deques.lend_each.Given as goal

abbrev pub invariant-loop-index : goal.invariant-loop-index
invariant-loop-index g l = (l.owns ≡ upto lent l.index l.initial.owns) × (l.thieves.items ≡ map borrowed (take l.index l.initial.owns))
