-- Two systems that go on alike (this project's own profile).
use Rattle.std.specs.Prelude.{◌≡◌, ◌↔◌, Bool, List, map}
use Rattle.std.specs.List.{Contains}
use Rattle.mb_msg.specs.declared.envelope.Envelope.{Envelope}
use Rattle.mb_msg.specs.declared.id.ActorId.{ActorId}
use Rattle.mb_msg.specs.declared.system.SysMsg.{SysMsg}
use Rattle.mb_journal.specs.Entry.{Entry}
use Rattle.mb_cell.specs.CellView.{CellView}
use Rattle.mb_world.specs.MailboxView.{MailboxView}
use Rattle.mb_world.specs.World.{WorldView}

-- what came to an actor, and what became of it
abbrev pub journal_of : CellView → List Entry
journal_of c = c.journal

-- what is in a mailbox: its envelopes, its system messages, and the envelopes that were cleaned up; and whether it is closed, suspended and scheduled
pub record Contents : Type 0 where
  pub envelopes : List Envelope
  pub system : List SysMsg
  pub cleaned : List Envelope
  pub is_closed : Bool
  pub is_suspended : Bool
  pub is_scheduled : Bool

-- that of a mailbox
abbrev pub contents_of : MailboxView → Contents
contents_of m = record {
  envelopes = m.queue.envelopes;
  system = m.system;
  cleaned = m.cleaned;
  is_closed = m.is_closed;
  is_suspended = m.is_suspended;
  is_scheduled = m.is_scheduled;
}

-- Each journal is the same, and what is in each mailbox; what each sender outside is still to send; what each sender was answered; and who is
-- registered for execution, in whatever order.
pub record IsAlike (a b : WorldView) : Type 0 where
  pub journals : map journal_of a.cells ≡ map journal_of b.cells
  pub contents : map contents_of a.mailboxes ≡ map contents_of b.mailboxes
  pub senders : a.senders ≡ b.senders
  pub answered : a.answered ≡ b.answered
  pub registered : (actor : ActorId) → Contains a.registered actor ↔ Contains b.registered actor
