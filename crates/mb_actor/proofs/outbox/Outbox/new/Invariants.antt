use Rattle.std.proofs.Common.{◌≡◌, take}
use Rattle.mb_msg.specs.declared.id.ActorId.{ActorId}
use Rattle.mb_actor.specs.ActorList.{has}
use Rattle.mb_actor.specs.ActorSet.{contains}
use Rattle.mb_actor.proofs.outbox.Outbox.new.Given as goal

abbrev pub invariant-loop-id : goal.invariant-loop-id
invariant-loop-id l = (x : ActorId) → contains l.unspawned x ≡ has (take l.id-index l.id-items) x
