-- The queue of a mailbox as a list, and which envelope it gives next (`akka.dispatch.MessageQueue`).
use Rattle.std.specs.Prelude.{◌≡◌, ℕ, ◌==◌, ◌≤◌, nat_lt, Bool, true, false, not, ◌&&◌, List, length, min, find, option_map, unwrap_or, slice_get, Some, remove}
use Rattle.std.specs.List.{IsFirstBest}
use Rattle.mb_msg.specs.declared.envelope.Body.{Body}
use Rattle.mb_msg.specs.declared.envelope.Body.TheVariants.{User, PoisonPill, Kill, Terminated}
use Rattle.mb_msg.specs.declared.envelope.Body.TheVariants as body
use Rattle.mb_msg.specs.declared.envelope.Envelope.{Envelope}
use Rattle.mb_msg.specs.declared.mailbox_type.MailboxType.{MailboxType}
use Rattle.mb_msg.specs.declared.mailbox_type.MailboxType.TheVariants.{Unbounded, Bounded, Priority, Control}
use Rattle.mb_msg.specs.declared.mailbox_type.RankRow.{RankRow}

-- a queue: of which type its mailbox is, and its envelopes, in the order in which they arrived
pub record QueueView : Type 0 where
  pub mailbox : MailboxType
  pub envelopes : List Envelope

-- the rank in the first row of this kind, and `other` without one
abbrev pub rank_in : List RankRow → ℕ → ℕ → ℕ
rank_in rows other kind = unwrap_or (option_map (λ (row : RankRow). row.rank) (find (λ row. row.kind == kind) rows)) other

-- the rank of a body: user messages have a table, all other bodies have the one rank `other`
abbrev pub rank_of : List RankRow → ℕ → Body → ℕ
rank_of rows other (User kind value) = rank_in rows other kind
rank_of rows other (body.Control kind value) = other
rank_of rows other PoisonPill = other
rank_of rows other Kill = other
rank_of rows other (Terminated actor) = other

-- the body is a control message (`akka.dispatch.ControlMessage`)
abbrev pub is_control : Body → Bool
is_control (User kind value) = false
is_control (body.Control kind value) = true
is_control PoisonPill = false
is_control Kill = false
is_control (Terminated actor) = false

-- the first envelope goes before the second, whichever came first: by its rank in a priority mailbox, as a control message in a
-- control-aware one, and never in the others (`UnboundedStablePriorityMailbox`, `UnboundedControlAwareMailbox`)
abbrev pub goes_before : MailboxType → Envelope → Envelope → Bool
goes_before Unbounded x y = false
goes_before (Bounded capacity) x y = false
goes_before (Priority rows other) x y = nat_lt (rank_of rows.items other x.body) (rank_of rows.items other y.body)
goes_before Control x y = is_control x.body && not (is_control y.body)

-- how many envelopes, of so many, are compared to find the next: at most 1,024 in a priority mailbox (this project's own limit)
abbrev pub compared : MailboxType → ℕ → ℕ
compared Unbounded n = n
compared (Bounded capacity) n = n
compared (Priority rows other) n = min n 1024
compared Control n = n

-- the envelope at this place is next: of those that are compared it is the first before which no other goes
abbrev pub IsNextAt : QueueView → ℕ → Type 0
IsNextAt queue place = IsFirstBest (goes_before queue.mailbox) queue.envelopes (compared queue.mailbox (length queue.envelopes)) place

-- the queue gave the envelope that was next, and keeps the others in their order
pub record Gives (old new : QueueView) (envelope : Envelope) : Type 0 where
  pub place : ℕ
  pub is_next : IsNextAt old place
  pub is_there : slice_get old.envelopes place ≡ Some envelope
  pub left : new ≡ record old { envelopes = remove old.envelopes place }

-- the queue has as many envelopes as its bound allows; only a bounded mailbox has one (`NonBlockingBoundedMailbox`)
abbrev pub IsFull : QueueView → Type 0
IsFull queue = is_bounded_to queue.mailbox
  where
    is_bounded_to : MailboxType → Type 0
    is_bounded_to Unbounded = ⊥
    is_bounded_to (Bounded capacity) = capacity ≤ length queue.envelopes
    is_bounded_to (Priority rows other) = ⊥
    is_bounded_to Control = ⊥
