-- Who is registered for execution (`akka.dispatch.MessageDispatcher.registerForExecution`).
use Rattle.std.specs.Prelude.{◌≡◌, ◌≢◌, Bool, true, List, Option, Some, slice_get}
use Rattle.std.specs.List.{All, AllPairs, Contains}
use Rattle.std.specs.Option.{ForSome}
use Rattle.mb_msg.specs.declared.id.ActorId.{ActorId}
use Rattle.mb_world.specs.MailboxView.{MailboxView}

-- whether the actor of this mailbox is registered for execution, or is run
abbrev pub is_scheduled : MailboxView → Bool
is_scheduled m = m.is_scheduled

-- Each actor that is registered is scheduled, and is registered once. The actor whose mailbox is run is scheduled too, and is not registered: so it is
-- not run twice at the same time.
pub record IsRegistry (scheduled : List Bool) (registered : List ActorId) (running : Option ActorId) : Type 0 where
  pub once : AllPairs (λ (a b : ActorId). a ≢ b) registered
  pub each_scheduled : All (λ (a : ActorId). slice_get scheduled a.0 ≡ Some true) registered
  pub run_apart : ForSome running (λ (a : ActorId). (slice_get scheduled a.0 ≡ Some true) × (Contains registered a → ⊥))
