use Rattle.std.proofs.Common.{◌≤◌, ◌<◌, length}
use Rattle.std.specs.Prelude.{All}
use Rattle.mb_msg.specs.declared.id.ActorId.{ActorId}
use Rattle.mb_world.proofs.building.children_of.Given as goal

abbrev pub invariant-loop-place : goal.invariant-loop-place
invariant-loop-place l = record {
  few : length l.children.items ≤ l.place;
  below : All (λ (x : ActorId). x.0 < 64) l.children.items;
}
