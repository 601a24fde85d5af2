-- Which system messages have to wait, by kind.
use Rattle.std.specs.Prelude.{◌≡◌, ◌<◌, Bool, List}
use Rattle.mb_msg.specs.declared.id.ActorId.{ActorId}
use Rattle.mb_msg.specs.declared.supervision.Cause.{Cause}
use Rattle.mb_msg.specs.declared.system.SysMsg.{SysMsg}
use Rattle.mb_msg.specs.declared.system.SysMsg.TheVariants as system
use Rattle.mb_actor.specs.declared.phase.Phase.TheVariants.{Fresh, Ending}
use Rattle.mb_journal.specs.Entry.{Entry}
use Rattle.mb_journal.specs.Identity.{Identity}
use Rattle.mb_journal.specs.Life.{phase}
use Rattle.mb_journal.specs.Suspension.{count}

-- a message that comes after these entries has to wait: a Failed, Recreate, Suspend or Resume of an Ending actor, and a
-- Failed of one that was started while its mailbox is suspended. No other has to
pub data HasToWait (who : Identity) (before : List Entry) : SysMsg → Type 0 where
  failed_while_ending : (x : ActorId) (c : Cause) → phase who before ≡ Ending → HasToWait who before (system.Failed x c)
  recreate_while_ending : (c : Cause) → phase who before ≡ Ending → HasToWait who before (system.Recreate c)
  suspend_while_ending : phase who before ≡ Ending → HasToWait who before system.Suspend
  resume_while_ending : (of_failure : Bool) → phase who before ≡ Ending → HasToWait who before (system.Resume of_failure)
  failed_while_suspended : (x : ActorId) (c : Cause) → (phase who before ≡ Fresh → ⊥) → 0 < count who before → HasToWait who before (system.Failed x c)
