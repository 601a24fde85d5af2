-- What contracts see of a mailbox (`akka.dispatch.Mailbox`).
use Rattle.std.specs.Prelude.{◌≡◌, Bool, false, List, [], ◌++◌, Option, IsPermutation}
use Rattle.std.specs.List.{All}
use Rattle.mb_msg.specs.declared.envelope.Envelope.{Envelope}
use Rattle.mb_msg.specs.declared.id.ActorId.{ActorId}
use Rattle.mb_msg.specs.declared.system.SysMsg.{SysMsg}
use Rattle.mb_message_queue.specs.MessageQueue.{QueueView}

-- a mailbox: whose it is, and who is the parent; all envelopes that were ever queued in it, those of them that were given to the actor's cell,
-- and those that were cleaned up, each in order; its queue now, and its system messages; and whether it is closed, suspended, and scheduled
pub record MailboxView : Type 0 where
  pub actor : ActorId
  pub parent : Option ActorId
  pub arrived : List Envelope
  pub given : List Envelope
  pub cleaned : List Envelope
  pub queue : QueueView
  pub system : List SysMsg
  pub is_closed : Bool
  pub is_suspended : Bool
  pub is_scheduled : Bool

-- Each envelope that was ever queued was given to the cell, or was cleaned up, or is still queued, and exactly once. What is queued is to the
-- actor of the mailbox, and nothing is cleaned up before the mailbox is closed.
pub record IsAccounted (m : MailboxView) : Type 0 where
  pub exactly_once : IsPermutation m.arrived ((m.given ++ m.cleaned) ++ m.queue.envelopes)
  pub addressed : All (λ (e : Envelope). e.to ≡ m.actor) m.queue.envelopes
  pub cleaned_late : m.is_closed ≡ false → m.cleaned ≡ []
