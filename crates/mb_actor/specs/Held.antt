-- Which effects an outbox can hold.
use Rattle.std.specs.Prelude.{◌≤◌, Bool, true, not, ◌&&◌, IsTrue, length, List, [], ◌∷◌}
use Rattle.std.specs.List.{list_all}
use Rattle.mb_msg.specs.Limits.{most_effects}
use Rattle.mb_msg.specs.declared.id.ActorId.{ActorId}
use Rattle.mb_actor.specs.ActorList.{has}
use Rattle.mb_actor.specs.OutboxView.{OutboxView, actor_of, is_actor, spawns_of}

-- the list is without repetition
abbrev pub is_distinct : List ActorId → Bool
is_distinct [] = true
is_distinct (a ∷ list) = not (has list a) && is_distinct list

-- effects that one call can have asked for: no more than 16, on actors that exist, and the spawns are of prepared children
-- that were not spawned before, each once (this project's own profile: Akka carries effects out at once)
pub record CanHold (tray : OutboxView) : Type 0 where
  pub within_limit : length tray.effects ≤ most_effects
  pub present : IsTrue (list_all (λ e. is_actor tray (actor_of e)) tray.effects)
  pub prepared : IsTrue (list_all (has tray.unspawned) (spawns_of tray.effects))
  pub once : IsTrue (is_distinct (spawns_of tray.effects))
