use Rattle.std.proofs.Common.{◌≡◌, map, take}
use Rattle.mb_scenario.specs.View.{actor_data}
use Rattle.mailexplore.proofs.copies.copied_plan.Given as goal

abbrev pub invariant-loop-actor : goal.invariant-loop-actor
invariant-loop-actor l = map actor_data l.actors.items ≡ map actor_data (take l.actor-index l.plan.actors.items)
