-- A running system as a value, and what one step makes of it.
use Rattle.std.specs.Prelude.{◌≡◌, Bool, ℕ, ◌+◌, ◌≤◌, List, [], ◌∷◌, Some, length, map, slice_get, slice_set, nat_lt, if◌then◌else◌}
use Rattle.std.specs.List.{All, filter}
use Rattle.mb_msg.specs.declared.id.ActorId.{ActorId}
use Rattle.mb_msg.specs.declared.order.Order.{Order}
use Rattle.mb_cell.specs.CellView.{CellView}
use Rattle.mb_world.specs.Dispatched.{cell_mark, marks_of}
use Rattle.mb_world.specs.MailboxView.{MailboxView}
use Rattle.mb_world.specs.Running.{Continues}
use Rattle.mb_msg.specs.declared.dead_letter.DeadLetter.{DeadLetter}
use Rattle.mb_world.specs.declared.send_log.SendLog.{SendLog}
use Rattle.mb_world.specs.declared.choice.Choice.{Choice}
use Rattle.mb_world.specs.declared.choice.Choice.TheVariants.{Send, Run}

-- the orders of a sender outside, the place of the one that is next, and how often that was carried out
pub record Sender : Type 0 where
  pub orders : List Order
  pub place : ℕ
  pub done : ℕ

-- how many envelopes a sender has sent, and those of them that were refused when they were sent, in order
pub record Answered : Type 0 where
  pub sent : ℕ
  pub dead : List DeadLetter

-- that of a sender's log
abbrev pub log_of : SendLog → Answered
log_of log = record { sent = log.sent; dead = log.dead.items }

-- a running system: the cells and the mailboxes of all actors, by their numbers; the senders outside, by theirs; what each sender was answered, first
-- the actors and then those outside; and the actors that are registered for execution, in the order in which they were
pub record WorldView : Type 0 where
  pub cells : List CellView
  pub mailboxes : List MailboxView
  pub senders : List Sender
  pub answered : List Answered
  pub registered : List ActorId

-- the cells are those of the actors that are numbered on from this number, in order
abbrev pub AreNumberedFrom : ℕ → List CellView → Type 0
AreNumberedFrom n [] = Unit {0}
AreNumberedFrom n (c ∷ cells) = (c.who.this.0 ≡ n) × AreNumberedFrom (n + 1) cells

-- There are no more actors and senders than a plan may have. The cells are numbered from 0 on, and each is between two messages. Each has begun the
-- envelopes that its mailbox gave it, and no others, in order.
pub record IsAtRest (cells : List CellView) (mailboxes : List MailboxView) : Type 0 where
  pub few : length cells ≤ 64
  pub numbered : AreNumberedFrom 0 cells
  pub carried_out : All (λ (c : CellView). c.acts ≡ []) cells
  pub begun : marks_of mailboxes ≡ map cell_mark cells

-- so many actors, whose cells are at rest, and to none of which anything came yet
pub record IsNew (actors : ℕ) (cells : List CellView) (mailboxes : List MailboxView) : Type 0 where
  pub same_count : length cells ≡ actors
  pub fresh : All (λ (c : CellView). c.journal ≡ []) cells
  pub rest : IsAtRest cells mailboxes

-- an order is carried out once at least
abbrev pub is_carried_out : Order → Bool
is_carried_out order = nat_lt 0 order.times

-- a system to which nothing came yet: each journal is empty, and each sender outside has all these orders before it, but for those that are never
-- carried out
pub record IsStart (actors : ℕ) (orders : List (List Order)) (world : WorldView) : Type 0 where
  pub same_count : length world.cells ≡ actors + 1
  pub fresh : All (λ (c : CellView). c.journal ≡ []) world.cells
  pub unsent : All (λ (s : Sender). (s.place ≡ 0) × (s.done ≡ 0)) world.senders
  pub as_many : length world.senders ≡ length orders
  pub own : map (λ (s : Sender). s.orders) world.senders ≡ map (filter is_carried_out) orders

-- the sender, once it has carried out this order once more: it goes on to the order's next time, or to the next order
abbrev pub advanced : Sender → Order → Sender
advanced s order = if nat_lt (s.done + 1) order.times then record s { done = s.done + 1 } else record s { place = s.place + 1; done = 0 }

-- a sender outside sent what is next in its orders, once
pub record SendsOnce (old new : List Sender) (number : ℕ) : Type 0 where
  pub sender : Sender
  pub order : Order
  pub was : slice_get old number ≡ Some sender
  pub is_next : slice_get sender.orders sender.place ≡ Some order
  pub others : new ≡ slice_set old number (advanced sender order)

-- The mailbox of an actor was run: what came to its cell was added to the cell's journal. Nothing came to another cell.
pub record RunsOnce (old new : List CellView) (actor : ActorId) : Type 0 where
  pub before : CellView
  pub after : CellView
  pub was : slice_get old actor.0 ≡ Some before
  pub continues : Continues before after
  pub others : new ≡ slice_set old actor.0 after

-- one step, as it was chosen
abbrev pub Steps : WorldView → Choice → WorldView → Type 0
Steps old (Send sender) new = SendsOnce old.senders new.senders sender × (new.cells ≡ old.cells)
Steps old (Run actor) new = RunsOnce old.cells new.cells actor × (new.senders ≡ old.senders)
