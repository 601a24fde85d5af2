use Rattle.std.proofs.Common.{◌≡◌, length, map, take}
use Rattle.std.specs.Prelude.{All, filter}
use Rattle.mb_world.specs.World.{Sender, is_carried_out}
use Rattle.mb_world.proofs.building.queues_of.Given as goal

abbrev pub invariant-loop-list : goal.invariant-loop-list
invariant-loop-list l = record {
  as_many : length l.queues.items ≡ l.list-index;
  unsent : All (λ (q : Sender). (q.place ≡ 0) × (q.done ≡ 0)) l.queues.items;
  own : map (λ (q : Sender). q.orders) l.queues.items ≡ map (filter is_carried_out) (map (λ list. list.items) (take l.list-index l.orders));
}
