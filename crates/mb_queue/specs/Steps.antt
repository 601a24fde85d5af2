-- What a take does with the ports of the fifos.
use Rattle.std.specs.Prelude.{◌≡◌, ◌+◌, ◌≤◌, ◌⊎◌, List, [], ◌∷◌, ◌++◌, length, Option, Some, None, IsPermutation, All}
use Rattle.mb_msg.specs.declared.envelope.Envelope.{Envelope}
use Rattle.mb_queue.specs.Batches.{taking_all, AccountsBegin}
use Rattle.mb_queue.specs.Ledger.{taking, IsTaker}
use Rattle.mb_queue.specs.Port.{FifoPort}
use Rattle.mb_queue.specs.Rule as fifo
use Rattle.mb_queue.specs.declared.waiting.Arrival.{Arrival}
use Rattle.mb_queue.specs.Rank.{rank_of}
use Rattle.mb_queue.specs.declared.priority_state.PriorityState.{PriorityState}
use Rattle.mb_queue.specs.declared.take_order.TakeOrder.{TakeOrder}
use Rattle.mb_queue.specs.declared.take_order.TakeOrder.TheVariants.{FirstInFirstOut, ControlFirst, ByRank}
use Rattle.mb_queue.specs.Representation.{scope_in}
use Rattle.mb_queue.specs.Takes.{arrivals_from, Chooses}

-- one take of one fifo
abbrev pub TakesOf : FifoPort → Option Envelope → FifoPort → Type 0
TakesOf port None port' = (port' ≡ port) × fifo.FoundEmpty port.ledger
TakesOf port (Some e) port' = (port' ≡ record port { ledger = taking port.ledger e }) × fifo.FoundNext port.ledger e

-- one envelope more was taken from the fifo and is held
pub record OneMore (old : PriorityState) (port : FifoPort) (new : PriorityState) (port' : FifoPort) : Type 0 where
  pub envelope : Envelope
  pub ranks : new.ranks ≡ old.ranks
  pub other : new.other ≡ old.other
  pub next : new.next ≡ old.next + 1
  pub came : TakesOf port (Some envelope) port'
  pub held : IsPermutation (record {
    rank = rank_of old.ranks old.other envelope.body;
    number = old.next;
    envelope =
        envelope;
  } ∷ old.waiting) new.waiting

-- the fifo was empty, and nothing changed
abbrev pub NoMore : PriorityState → FifoPort → PriorityState → FifoPort → Type 0
NoMore old port new port' = (new ≡ old) × TakesOf port None port'

-- some envelopes were taken from the fifo, and are held
pub record TakesMore (old : PriorityState) (port : FifoPort) (new : PriorityState) (port' : FifoPort) : Type 0 where
  pub fresh : List Envelope
  pub ranks : new.ranks ≡ old.ranks
  pub other : new.other ≡ old.other
  pub next : new.next ≡ old.next + length fresh
  pub came : port' ≡ record port { ledger = taking_all port.ledger fresh }
  pub begins : (fresh ≡ []) ⊎ AccountsBegin port'.ledger
  pub known : All (fifo.Belongs (scope_in port.ledger)) fresh
  pub held : IsPermutation (old.waiting ++ arrivals_from old.ranks old.other old.next fresh) new.waiting

-- so many that 1,024 are held, the most, or the fifo was empty
pub record TakenIn (old : PriorityState) (port : FifoPort) (new : PriorityState) (port' : FifoPort) : Type 0 where
  pub more : TakesMore old port new port'
  pub room : length new.waiting ≤ 1024
  pub enough : (length new.waiting ≡ 1024) ⊎ fifo.FoundEmpty port'.ledger

-- then the first of those held was given
pub record RankTakes (old : PriorityState) (port : FifoPort) (result : Option Envelope) (new : PriorityState) (port' : FifoPort) : Type 0 where
  pub held : List Arrival
  pub taken_in : TakenIn old port (record new { waiting = held }) port'
  pub choice : Chooses held result new.waiting

-- one take from two fifos: from the second only where the first was empty
abbrev pub TakesOfTwo : FifoPort → FifoPort → Option Envelope → FifoPort → FifoPort → Type 0
TakesOfTwo control main None control' main' = TakesOf control None control' × TakesOf main None main'
TakesOfTwo control main (Some e) control' main' =
    (TakesOf control (Some e) control' × (main' ≡ main)) ⊎ (TakesOf control None control' × TakesOf main (Some e) main')

-- one take from the fifos, by the order of the queue
abbrev pub IsStep : FifoPort → TakeOrder → Option Envelope → FifoPort → TakeOrder → Type 0
IsStep main FirstInFirstOut result main' order' = (order' ≡ FirstInFirstOut) × TakesOf main result main'
IsStep main (ControlFirst control) result main' order' = (control' : FifoPort) × (order' ≡ ControlFirst control')
    × TakesOfTwo control main result control' main'
IsStep main (ByRank choice) result main' order' = (choice' : PriorityState) × (order' ≡ ByRank choice') × RankTakes choice main result choice' main'

-- all ports of the pass take
abbrev pub AllTake : FifoPort → TakeOrder → Type 0
AllTake main FirstInFirstOut = IsTaker main.ledger
AllTake main (ControlFirst control) = IsTaker main.ledger × IsTaker control.ledger
AllTake main (ByRank choice) = IsTaker main.ledger
