-- A new queue: its kind, its senders and its passes.
use Rattle.std.specs.Prelude.{◌≡◌, ℕ, ◌<◌, List, [], map, Option, Some, None}
use Rattle.mb_msg.specs.declared.id.SenderId.{SenderId}
use Rattle.mb_queue.specs.Ledger.{lent}
use Rattle.mb_msg.specs.declared.mailbox_type.MailboxType.{MailboxType}
use Rattle.mb_msg.specs.declared.mailbox_type.MailboxType.TheVariants.{Unbounded, Bounded, Priority, Control}
use Rattle.mb_queue.specs.Passes.{Queue, SendPassView, TakePassView, Discipline, first_in_first_out, control_first, by_rank}

-- the numbers of senders
abbrev pub numbers_of : List SenderId → List ℕ
numbers_of = map (λ (s : SenderId). s.0)

-- a bound is at least 1
abbrev pub IsMakeable : MailboxType → Type 0
IsMakeable Unbounded = Unit {0}
IsMakeable (Bounded capacity) = 0 < capacity
IsMakeable (Priority rows other) = Unit {0}
IsMakeable Control = Unit {0}

-- the discipline of a queue of this kind
abbrev pub discipline_of : MailboxType → Discipline
discipline_of Unbounded = first_in_first_out
discipline_of (Bounded capacity) = first_in_first_out
discipline_of (Priority rows other) = by_rank rows.items other
discipline_of Control = control_first

-- how much a queue of this kind holds at most
abbrev pub bound_of : MailboxType → Option ℕ
bound_of Unbounded = None
bound_of (Bounded capacity) = Some capacity
bound_of (Priority rows other) = None
bound_of Control = None

-- a take pass of an empty queue of this kind, for these senders and this actor
pub record IsEmpty (kind : MailboxType) (to : ℕ) (senders : List ℕ) (t : TakePassView) : Type 0 where
  pub senders_are : t.queue.senders ≡ senders
  pub actor : t.queue.to ≡ to
  pub discipline : t.discipline ≡ discipline_of kind
  pub bound : t.queue.main.capacity ≡ bound_of kind
  pub arrived : t.arrived ≡ []
  pub waiting : t.waiting ≡ []
  pub taken : t.taken ≡ []

-- the take pass of a queue before any account was lent
pub record IsNewTakePass (kind : MailboxType) (to : ℕ) (senders : List ℕ) (t : TakePassView) : Type 0 where
  pub empty : IsEmpty kind to senders t
  pub accounts : t.accounts ≡ []

-- the send pass of this sender, unused
abbrev pub unused : Queue → ℕ → SendPassView
unused queue sender = record { queue = queue; by = sender; pushed = [] }

-- each sender has its pass, unused, with its account
pub record IsNew (kind : MailboxType) (to : ℕ) (senders : List ℕ) (t : TakePassView) (sends : List SendPassView) : Type 0 where
  pub empty : IsEmpty kind to senders t
  pub accounts : t.accounts ≡ map lent senders
  pub passes : sends ≡ map (unused t.queue) senders
