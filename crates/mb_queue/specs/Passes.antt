-- What contracts see of the passes of a queue: what was pushed and what was taken. Accounts are this project's own profile.
use Rattle.std.specs.Prelude.{◌≡◌, ℕ, List, Option, Contains}
use Rattle.mb_msg.specs.declared.envelope.Envelope.{Envelope}
use Rattle.mb_queue.specs.declared.ledger.Account.{Account}
use Rattle.mb_queue.specs.Port.{Fifo}
use Rattle.mb_msg.specs.declared.mailbox_type.RankRow.{RankRow}
use Rattle.mb_queue.specs.declared.waiting.Arrival.{Arrival}

-- The discipline of a queue, the order in which it gives its envelopes: first in, first out; control messages first, and each of the two parts
-- first in, first out; or by the least rank of these rows, and `other` for the rest
pub data Discipline : Type 0 where
  first_in_first_out : Discipline
  control_first : Discipline
  by_rank : List RankRow → ℕ → Discipline

-- a queue: its fifos, of which only a control-aware queue has two, its senders, and the actor that all its envelopes are
-- to; all passes of one queue have the same
pub record Queue : Type 0 where
  pub main : Fifo
  pub control : Option Fifo
  pub senders : List ℕ
  pub to : ℕ

-- an envelope of this queue: by one of its senders, and to its actor
abbrev pub IsOfQueue : Queue → Envelope → Type 0
IsOfQueue queue e = Contains queue.senders e.by.0 × (e.to.0 ≡ queue.to)

-- a send pass: its queue, its sender, and all that it pushed, in order
pub record SendPassView : Type 0 where
  pub queue : Queue
  pub by : ℕ
  pub pushed : List Envelope

-- a take pass: its queue, the discipline of that, what it took from the fifos, in order (a priority mailbox takes more than it
-- gives), what it holds of that, what it gave, in order, and the accounts of senders, of which one is known once the
-- sender's pass was joined
pub record TakePassView : Type 0 where
  pub queue : Queue
  pub discipline : Discipline
  pub arrived : List Envelope
  pub waiting : List Arrival
  pub taken : List Envelope
  pub accounts : List Account
