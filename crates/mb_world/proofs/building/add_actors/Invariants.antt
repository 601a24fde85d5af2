use Rattle.std.proofs.Common.{◌≡◌, ◌+◌, length}
use Rattle.std.specs.Vec.Iter.{into_iter_items}
use Rattle.mb_world.specs.Behaves.{BehaveFrom}
use Rattle.mb_world.specs.World.{IsNew}
use Rattle.mb_world.proofs.building.add_actors.Given as goal

abbrev pub invariant-loop-actor : goal.invariant-loop-actor
invariant-loop-actor g l = record {
  so_far : IsNew (length l.built.cells.items) l.built.cells.items l.built.mailboxes.items;
  as_many : length (into_iter_items l.plans) ≡ length (into_iter_items l.actor-iterator);
  left : length l.built.cells.items + length (into_iter_items l.actor-iterator) ≡ length l.parents + 1;
  behave : BehaveFrom g.A.Actor.content g.A.Actor.after g.A.Actor.gives g.K.Behaviours.after g.K.Behaviours.gives (length l.built.cells.items)
      (into_iter_items l.actor-iterator);
}
