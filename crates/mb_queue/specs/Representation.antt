-- The passes as contracts see them, by the ports of their fifos.
use Rattle.std.specs.Prelude.{◌≡◌, ℕ, ◌++◌, List, [], map, length, Option, Some, None, option_map, All}
use Rattle.mb_msg.specs.declared.envelope.Envelope.{Envelope}
use Rattle.mb_queue.specs.declared.ledger.Ledger.{Ledger}
use Rattle.mb_queue.specs.declared.ledger.Ledger.TheVariants.{Sender, Taker, Spent}
use Rattle.mb_queue.specs.declared.ledger.QueuePart.{QueuePart}
use Rattle.mb_queue.specs.declared.ledger.QueuePart.TheVariants.{Whole, Controls, Others}
use Rattle.mb_queue.specs.declared.ledger.Scope.{Scope}
use Rattle.mb_queue.specs.Ledger.{unsettled}
use Rattle.mb_queue.specs.Port.{FifoPort, Fifo}
use Rattle.mb_queue.specs.Rule.{Belongs}
use Rattle.mb_queue.specs.declared.ledger.Account.{Account}
use Rattle.mb_queue.specs.declared.waiting.Arrival.{Arrival}
use Rattle.mb_queue.specs.declared.take_order.TakeOrder.{TakeOrder}
use Rattle.mb_queue.specs.declared.take_order.TakeOrder.TheVariants.{FirstInFirstOut, ControlFirst, ByRank}
use Rattle.mb_queue.specs.Parts.{accounts_of, controls, others}
use Rattle.mb_queue.specs.Passes.{IsOfQueue, Queue, SendPassView, TakePassView, Discipline, first_in_first_out, control_first, by_rank}
use Rattle.mb_queue.specs.Takes.{IsSameBag}

-- which envelopes a port's fifo is for
abbrev pub scope_in : Ledger → Scope
scope_in (Sender scope by pushed) = scope
scope_in (Taker scope taken accounts) = scope
scope_in Spent = unsettled

abbrev pub fifo_of : FifoPort → Fifo
fifo_of port = port.fifo

abbrev pub queue_of : FifoPort → Option FifoPort → Queue
queue_of main control = record {
  main = main.fifo;
  control = option_map fifo_of control;
  senders = (scope_in main.ledger).senders;
  to =
      (scope_in main.ledger).to;
}

-- a send pass as contracts see it
abbrev pub sending_of : ℕ → FifoPort → Option FifoPort → List Envelope → SendPassView
sending_of by main control pushed = record { queue = queue_of main control; by = by; pushed = pushed }

-- the same scope with another part
abbrev pub parted : Scope → QueuePart → Scope
parted scope part = record scope { part = part }

-- what a send pass pushed is what its ports pushed, each its part of it
abbrev pub IsSending : ℕ → FifoPort → Option FifoPort → List Envelope → Type 0
IsSending by main None pushed = main.ledger ≡ Sender (parted (scope_in main.ledger) Whole) by pushed
IsSending by main (Some control) pushed =
    (main.ledger ≡ Sender (parted (scope_in main.ledger) Others) by (others pushed))
    × (control.ledger ≡ Sender (parted (scope_in main.ledger) Controls) by (controls pushed))
    × (main.fifo.capacity ≡ None) × (control.fifo.capacity ≡ None)

-- what was taken out of a port's fifo
abbrev pub gone_of : Ledger → List Envelope
gone_of (Sender scope by pushed) = []
gone_of (Taker scope taken accounts) = taken
gone_of Spent = []

abbrev pub envelopes_of : List Arrival → List Envelope
envelopes_of = map (λ (a : Arrival). a.envelope)

-- the order in which a queue gives
abbrev pub discipline_in : TakeOrder → Discipline
discipline_in FirstInFirstOut = first_in_first_out
discipline_in (ControlFirst control) = control_first
discipline_in (ByRank choice) = by_rank choice.ranks choice.other

abbrev pub control_of : TakeOrder → Option FifoPort
control_of FirstInFirstOut = None
control_of (ControlFirst control) = Some control
control_of (ByRank choice) = None

-- what was taken from the fifos
abbrev pub arrived_of : FifoPort → TakeOrder → List Envelope → List Envelope
arrived_of main FirstInFirstOut taken = taken
arrived_of main (ControlFirst control) taken = taken
arrived_of main (ByRank choice) taken = gone_of main.ledger

-- what is held of that, and not yet given
abbrev pub waiting_of : TakeOrder → List Arrival
waiting_of FirstInFirstOut = []
waiting_of (ControlFirst control) = []
waiting_of (ByRank choice) = choice.waiting

-- a take pass as contracts see it
abbrev pub taking_of : FifoPort → TakeOrder → List Envelope → List Account → TakePassView
taking_of main order taken accounts = record {
  queue = queue_of main (control_of order);
  discipline = discipline_in order;
  arrived = arrived_of main order taken;
  waiting = waiting_of order;
  taken = taken;
  accounts = accounts;
}

-- the port takes the envelopes of this part of the scope, and took these, with these accounts
abbrev pub Took : FifoPort → Scope → QueuePart → List Envelope → List Account → Type 0
Took port scope part out accounts = port.ledger ≡ Taker (parted scope part) out accounts

-- What a take pass gave is what its ports took, each its part. By rank, what it gave and what it holds is what its port
-- took.
abbrev pub IsTaking : FifoPort → TakeOrder → List Envelope → List Account → Type 0
IsTaking main FirstInFirstOut taken accounts = Took main (scope_in main.ledger) Whole taken accounts
IsTaking main (ControlFirst control) taken accounts =
    Took main (scope_in main.ledger) Others (others taken) (accounts_of others accounts)
    × Took control (scope_in main.ledger) Controls (controls taken) (accounts_of controls accounts)
    × (main.fifo.capacity ≡ None) × (control.fifo.capacity ≡ None)
IsTaking main (ByRank choice) taken accounts =
    Took main (scope_in main.ledger) Whole (gone_of main.ledger) accounts
    × (choice.next ≡ length (gone_of main.ledger))
    × IsSameBag (gone_of main.ledger) (taken ++ envelopes_of choice.waiting)
    × All (Belongs (scope_in main.ledger)) (envelopes_of choice.waiting)

-- that, and all that it gave is of its queue's senders and to its actor
abbrev pub IsTakePass : FifoPort → TakeOrder → List Envelope → List Account → Type 0
IsTakePass main order taken accounts = IsTaking main order taken accounts × All (IsOfQueue (queue_of main (control_of order))) taken
