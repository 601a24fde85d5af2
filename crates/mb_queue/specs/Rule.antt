-- The rule of a fifo: what holds between any two steps of any threads.
use Rattle.std.specs.Prelude.{◌≡◌, ℕ, List, [], ◌∷◌, ◌++◌, length, Option, Some, None, All, Contains}
use mathlib.Core.Option.{some}
use lib.ListN.{get_elem?}
use Rattle.mb_msg.specs.declared.envelope.Envelope.{Envelope}
use Rattle.mb_queue.specs.declared.ledger.Account.{Account}
use Rattle.mb_queue.specs.declared.ledger.Ledger.{Ledger}
use Rattle.mb_queue.specs.declared.ledger.Scope.{Scope}
use Rattle.mb_queue.specs.declared.ledger.Ledger.TheVariants.{Sender, Taker, Spent}
use Rattle.mb_queue.specs.declared.refused.PushError.{PushError}
use Rattle.mb_queue.specs.declared.refused.PushError.TheVariants.{Full, NoMemory}
use Rattle.mb_queue.specs.declared.refused.Refusal.{Refusal}
use Rattle.mb_queue.specs.declared.refused.Refusal.TheVariants as why
use Rattle.mb_queue.specs.Ledger.{IsOfPart, sent_by, account}

-- the envelope is of this scope: by one of its senders, to its actor, and of its part
abbrev pub Belongs : Scope → Envelope → Type 0
Belongs scope e = Contains scope.senders e.by.0 × (e.to.0 ≡ scope.to) × IsOfPart scope.part e

-- What a port knows is true. Exactly one port, its holder, has the account of a sender. The account is what was taken of
-- that sender and then what is in the fifo of it. `all` is what was taken and then what is in the fifo.
abbrev pub LedgerAgrees : Scope → (ℕ → ℕ) → ℕ → List Envelope → List Envelope → ℕ → Ledger → Type 0
LedgerAgrees scope holder taker taken all port (Sender ours by pushed) =
    (ours ≡ scope) × Contains scope.senders by × (port ≡ holder by) × (pushed ≡ sent_by by all)
LedgerAgrees scope holder taker taken all port (Taker ours gone accounts) =
    (ours ≡ scope) × (port ≡ taker) × (gone ≡ taken)
    × ((sender : ℕ) (pushed : List Envelope) → account accounts sender ≡ Some pushed → (port ≡ holder sender) × (pushed ≡ sent_by sender all))
LedgerAgrees scope holder taker taken all port Spent = Unit {0}

-- the rule, of what the fifo holds, the oldest first, and of what each port knows
pub record FifoHolds (items : List Envelope) (ledgers : List Ledger) : Type 0 where
  pub scope : Scope
  pub holder : ℕ → ℕ
  pub taker : ℕ
  pub taken : List Envelope
  pub known : All (Belongs scope) (taken ++ items)
  pub fits : (port : ℕ) (ledger : Ledger) → get_elem? ledgers port ≡ some ledger → LedgerAgrees scope holder taker taken (taken ++ items) port ledger

-- At one moment the fifo was full: it held `capacity` envelopes. With what was taken before, these are all of the fifo's
-- scope, and have all that this sender pushed, in its order. (Of a fifo with one sender this says how much that has
-- pushed.)
abbrev pub FifoWasFull : ℕ → Scope → ℕ → List Envelope → Type 0
FifoWasFull capacity scope by pushed =
    (taken : List Envelope) × (items : List Envelope) × (length items ≡ capacity) × All (Belongs scope) (taken ++ items)
    × (pushed ≡ sent_by by (taken ++ items))

-- the same, of what a port knows
abbrev pub FoundFull : ℕ → Ledger → Type 0
FoundFull capacity (Sender scope by pushed) = FifoWasFull capacity scope by pushed
FoundFull capacity (Taker scope taken accounts) = ⊥
FoundFull capacity Spent = ⊥

-- all of each account that came back was taken: nothing of it is left
abbrev pub FifoAllOut : List Account → List Envelope → Type 0
FifoAllOut accounts taken = (sender : ℕ) (pushed : List Envelope) → account accounts sender ≡ Some pushed → pushed ≡ sent_by sender taken

-- At one moment the fifo was empty.
abbrev pub FoundEmpty : Ledger → Type 0
FoundEmpty (Sender scope by pushed) = ⊥
FoundEmpty (Taker scope taken accounts) = FifoAllOut accounts taken
FoundEmpty Spent = ⊥

-- each account that came back begins with what was taken of its sender
abbrev pub FifoAllBegin : List Account → List Envelope → Type 0
FifoAllBegin accounts taken = (sender : ℕ) (pushed : List Envelope) → account accounts sender ≡ Some pushed
    → (rest : List Envelope) × (pushed ≡ sent_by sender taken ++ rest)

-- The envelope is of the fifo's scope, and it is the next one.
abbrev pub FoundNext : Ledger → Envelope → Type 0
FoundNext (Sender scope by pushed) e = ⊥
FoundNext (Taker scope taken accounts) e = Belongs scope e × FifoAllBegin accounts (taken ++ e ∷ [])
FoundNext Spent e = ⊥

-- Why a push was refused: only a fifo with a bound is found full, and only one without a bound finds no memory.
abbrev pub IsFifoRefusal : Option ℕ → Ledger → Refusal → Type 0
IsFifoRefusal capacity ledger why.Full = (most : ℕ) × (capacity ≡ Some most) × FoundFull most ledger
IsFifoRefusal capacity ledger why.NoMemory = capacity ≡ None

-- the envelope that comes back
abbrev pub given_back : PushError → Envelope
given_back (Full e) = e
given_back (NoMemory e) = e

-- why it comes back
abbrev pub refusal_of : PushError → Refusal
refusal_of (Full e) = why.Full
refusal_of (NoMemory e) = why.NoMemory
