-- Which system messages do nothing when they are applied.
use Rattle.std.specs.Prelude.{◌≡◌, Bool, true, false, List}
use Rattle.mb_msg.specs.declared.id.ActorId.{ActorId}
use Rattle.mb_msg.specs.declared.supervision.Cause.{Cause}
use Rattle.mb_msg.specs.declared.system.SysMsg.{SysMsg}
use Rattle.mb_msg.specs.declared.system.SysMsg.TheVariants as system
use Rattle.mb_actor.specs.ActorList.{has}
use Rattle.mb_actor.specs.declared.phase.Phase.TheVariants.{Fresh, Ending}
use Rattle.mb_journal.specs.Entry.{Entry}
use Rattle.mb_journal.specs.Identity.{Identity, is_guardian}
use Rattle.mb_journal.specs.Life.{phase, children}
use Rattle.mb_journal.specs.Phase.{phase_is}

-- a Create of an actor that was started; to an actor that was never started all but a Create, a Terminate, a Watch and an
-- Unwatch; a Recreate of the guardian; a Failed of an actor that is no child; and a Terminate of an actor that is ending
-- already (`FaultHandling.terminate`, `handleFailure`; the others are this project's own profile)
pub data DoesNothing (who : Identity) (before : List Entry) : SysMsg → Type 0 where
  started_already : phase_is (phase who before) Fresh ≡ false → DoesNothing who before system.Create
  fresh_recreate : (c : Cause) → phase who before ≡ Fresh → DoesNothing who before (system.Recreate c)
  fresh_suspend : phase who before ≡ Fresh → DoesNothing who before system.Suspend
  fresh_resume : (of_failure : Bool) → phase who before ≡ Fresh → DoesNothing who before (system.Resume of_failure)
  fresh_failed : (x : ActorId) (c : Cause) → phase who before ≡ Fresh → DoesNothing who before (system.Failed x c)
  fresh_died : (x : ActorId) → phase who before ≡ Fresh → DoesNothing who before (system.Died x)
  of_guardian : (c : Cause) → is_guardian who ≡ true → DoesNothing who before (system.Recreate c)
  of_no_child : (x : ActorId) (c : Cause) → has (children who before) x ≡ false → DoesNothing who before (system.Failed x c)
  ends_already : phase who before ≡ Ending → DoesNothing who before system.Terminate
