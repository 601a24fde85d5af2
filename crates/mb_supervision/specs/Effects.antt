-- What it does to an actor's lists and acts that effects of a call are carried out (`akka.actor.ActorContext`: `watch`, `unwatch`, `stop` and
-- `actorOf`; that they are recorded first and carried out after the call is this project's own profile).
use Rattle.std.specs.Prelude.{◌≡◌, ◌+◌, ◌≤◌, List, ◌++◌, vec_len, vec_capacity}
use Rattle.std.specs.Global.{Vec}
use Rattle.mb_msg.specs.declared.id.ActorId.{ActorId}
use Rattle.mb_actor.specs.OutboxView.{spawns_of}
use Rattle.mb_actor.specs.declared.effect.Effect.{Effect}
use Rattle.mb_journal.specs.Acts.{Act, effect_acts}
use Rattle.mb_journal.specs.Watching.{watching_after, due_after}

-- These effects of this actor were carried out: their acts were added, the actors that they spawn are children now, and the lists of those whom
-- the actor watches, and whose end it is still to be told, are as the effects leave them.
pub record CarriesOut (this : ActorId) (effects : List Effect) (old_acts new_acts : List Act) (old_children new_children old_watching new_watching
    old_due new_due : List ActorId) : Type 0 where
  pub acts : new_acts ≡ old_acts ++ effect_acts this old_watching effects
  pub children : new_children ≡ old_children ++ spawns_of effects
  pub watching : new_watching ≡ watching_after this old_watching effects
  pub due : new_due ≡ due_after old_due effects

-- The list has at most one actor more than before, and no less capacity.
pub record GrowsAtMostByOne (old new : Vec ActorId) : Type 0 where
  pub one_more : vec_len new ≤ vec_len old + 1
  pub capacity : vec_capacity old ≤ vec_capacity new
