use Rattle.mb_world.proofs.WorldLemmas.{new-none}
use Rattle.mb_world.proofs.building.with_guardian.Goals as goal

pub add-requires-clause-so_far : goal.add-requires-clause-so_far
add-requires-clause-so_far g c = rw (c.new-3.ensures.items, c.new-4.ensures.items) new-none
