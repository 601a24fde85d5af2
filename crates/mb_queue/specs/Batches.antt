-- Several envelopes at once: what a port knows after it pushed or took them, and what it found.
use Rattle.std.specs.Prelude.{◌≡◌, ◌<◌, ℕ, List, ◌++◌, length, Option, None, All}
use Rattle.mb_msg.specs.declared.envelope.Envelope.{Envelope}
use Rattle.mb_queue.specs.declared.ledger.Ledger.{Ledger}
use Rattle.mb_queue.specs.declared.ledger.Ledger.TheVariants.{Sender, Taker, Spent}
use Rattle.mb_queue.specs.Port.{FifoPort}
use Rattle.mb_queue.specs.Rule.{Belongs, FifoAllOut, FifoAllBegin}

-- after several pushes
abbrev pub pushing_all : Ledger → List Envelope → Ledger
pushing_all (Sender scope by pushed) es = Sender scope by (pushed ++ es)
pushing_all (Taker scope taken accounts) es = Taker scope taken accounts
pushing_all Spent es = Spent

-- after several takes
abbrev pub taking_all : Ledger → List Envelope → Ledger
taking_all (Sender scope by pushed) es = Sender scope by pushed
taking_all (Taker scope taken accounts) es = Taker scope (taken ++ es) accounts
taking_all Spent es = Spent

-- these envelopes are of the fifo's scope, and with them all of each account that came back was taken
abbrev pub FoundAll : Ledger → List Envelope → Type 0
FoundAll (Sender scope by pushed) es = ⊥
FoundAll (Taker scope taken accounts) es = All (Belongs scope) es × FifoAllOut accounts (taken ++ es)
FoundAll Spent es = ⊥

-- these envelopes are of the fifo's scope, and they are the next ones
abbrev pub FoundBatch : Ledger → List Envelope → Type 0
FoundBatch (Sender scope by pushed) es = ⊥
FoundBatch (Taker scope taken accounts) es = All (Belongs scope) es × FifoAllBegin accounts (taken ++ es)
FoundBatch Spent es = ⊥

-- each account that came back begins with what was taken from the fifo
abbrev pub AccountsBegin : Ledger → Type 0
AccountsBegin (Sender scope by pushed) = ⊥
AccountsBegin (Taker scope taken accounts) = FifoAllBegin accounts taken
AccountsBegin Spent = ⊥

-- what the port's owner knows: of what was taken from the fifo, only this was given
abbrev pub giving : Ledger → List Envelope → Ledger
giving (Sender scope by pushed) given = Sender scope by pushed
giving (Taker scope taken accounts) given = Taker scope given accounts
giving Spent given = Spent

-- What was taken from the fifo was given, or is in the batch. Only of a fifo without a bound the batch has any.
abbrev pub IsBatchOf : Option ℕ → List Envelope → List Envelope → Ledger → Type 0
IsBatchOf capacity batch given (Sender scope by pushed) = ⊥
IsBatchOf capacity batch given (Taker scope taken accounts) =
    (taken ≡ given ++ batch) × All (Belongs scope) batch × (0 < length batch → (capacity ≡ None) × FifoAllBegin accounts taken)
IsBatchOf capacity batch given Spent = ⊥

-- the same, of a port
abbrev pub IsBatched : FifoPort → List Envelope → List Envelope → Type 0
IsBatched port batch given = IsBatchOf port.fifo.capacity batch given port.ledger

-- the port as its owner knows it
abbrev pub given_by : FifoPort → List Envelope → FifoPort
given_by port given = record port { ledger = giving port.ledger given }
