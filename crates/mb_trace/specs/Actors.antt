-- Who the actors of a plan are (`akka.actor.ActorContext`: parent and children; that children are planned is this project's own profile).
use Rattle.std.specs.Prelude.{ℕ, ◌+◌, ◌-◌, ◌==◌, if◌then◌else◌, take, false, List, [], ◌∷◌, length, slice_get, Option, Some, None, negsuc}
use Rattle.mb_msg.specs.JournalMode.{retention_of}
use Rattle.mb_msg.specs.Limits.{most_actors}
use Rattle.mb_msg.specs.declared.actor_plan.ActorPlan.{ActorPlan}
use Rattle.mb_msg.specs.declared.id.ActorId.{ActorId}
use Rattle.mb_msg.specs.declared.plan.Plan.{Plan}
use Rattle.mb_journal.specs.Identity.{Identity}

-- the actor of this number
abbrev pub numbered : ℕ → ActorId
numbered number = record { 0 = number }

-- of the actors with these plans, numbered on from this one, those whose parent has this number
abbrev pub children_from : ℕ → ℕ → List ActorPlan → List ActorId
children_from number parent [] = []
children_from number parent (p ∷ plans) =
    if p.parent.0 == parent then numbered number ∷ children_from (number + 1) parent plans else children_from (number + 1) parent plans

-- the children that the actor of this number may start; a plan has at most 63 actors
abbrev pub children_in : Plan → ℕ → List ActorId
children_in plan parent = children_from 1 parent (take (most_actors - 1) plan.actors.items)

-- the guardian; it has no rows of a strategy, so the default decider decides
abbrev pub guardian_in : Plan → Identity
guardian_in plan = record {
  this = numbered 0;
  parent = None;
  actors = length plan.actors.items + 1;
  prepared = children_in plan 0;
  strategy = [];
  retries = negsuc 0;
  all_for_one = false;
  limit = plan.journal_limit;
  retention = retention_of plan.journal;
}

-- another actor; one that is not planned is a child of the guardian without a strategy of its own
abbrev pub actor_in : Plan → ℕ → Option ActorPlan → Identity
actor_in plan number (Some p) = record {
  this = numbered number;
  parent = Some p.parent;
  actors = length plan.actors.items + 1;
  prepared = children_in plan number;
  strategy = p.strategy.rows.items;
  retries = p.strategy.retries;
  all_for_one = p.strategy.all_for_one;
  limit = plan.journal_limit;
  retention = retention_of plan.journal;
}
actor_in plan number None =
    record (guardian_in plan) { this = numbered number; parent = Some (numbered 0); prepared = children_in plan number }

-- the actor of this number: number 0 is the guardian, and the plan of the actor n + 1 is at the place n
abbrev pub who_in : Plan → ℕ → Identity
who_in plan number = if number == 0 then guardian_in plan else actor_in plan number (slice_get plan.actors.items (number - 1))
