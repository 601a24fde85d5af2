-- What a port of a fifo knows, and how its own steps change that. Accounts are this project's own profile: Akka's queues
-- (`akka.dispatch.MessageQueue`) keep none.
use Rattle.std.specs.Prelude.{◌≡◌, ℕ, ◌==◌, cond, List, [], ◌∷◌, ◌++◌, filter, map, Option, Some, None, Contains, Bool, true, false}
use Rattle.mb_msg.specs.declared.envelope.Envelope.{Envelope}
use Rattle.mb_msg.specs.declared.id.SenderId.{SenderId}
use Rattle.mb_msg.specs.declared.envelope.Body.{Body}
use Rattle.mb_msg.specs.declared.envelope.Body.TheVariants.{User, Control, PoisonPill, Kill, Terminated}
use Rattle.mb_queue.specs.declared.ledger.Account.{Account}
use Rattle.mb_queue.specs.declared.ledger.QueuePart.{QueuePart}
use Rattle.mb_queue.specs.declared.ledger.QueuePart.TheVariants.{Whole, Controls, Others}
use Rattle.mb_queue.specs.declared.ledger.Scope.{Scope}
use Rattle.mb_queue.specs.declared.ledger.Ledger.{Ledger}
use Rattle.mb_queue.specs.declared.ledger.Ledger.TheVariants.{Sender, Taker, Spent}

-- whether the body is a control message (`akka.dispatch.ControlMessage`)
abbrev pub is_control_body : Body → Bool
is_control_body (User kind value) = false
is_control_body (Control kind value) = true
is_control_body PoisonPill = false
is_control_body Kill = false
is_control_body (Terminated actor) = false

abbrev pub is_control : Envelope → Bool
is_control e = is_control_body e.body

-- the envelope is of this part
abbrev pub IsOfPart : QueuePart → Envelope → Type 0
IsOfPart Whole e = Unit {0}
IsOfPart Controls e = is_control e ≡ true
IsOfPart Others e = is_control e ≡ false

-- the scope of a fifo before it is fixed: no envelopes
abbrev pub unsettled : Scope
unsettled = record { senders = []; to = 0; part = Whole }

-- the envelopes by these senders, to this actor, and of this part
abbrev pub scope_of : List SenderId → ℕ → QueuePart → Scope
scope_of senders to part = record { senders = map (λ (s : SenderId). s.0) senders; to = to; part = part }

-- the envelopes of one sender, in their order
abbrev pub sent_by : ℕ → List Envelope → List Envelope
sent_by sender = filter (λ e. e.by.0 == sender)

-- an account that is with the sender's own port
abbrev pub lent : ℕ → Account
lent sender = record { by = sender; pushed = None }

-- an account that came back: all that the sender pushed
abbrev pub home : ℕ → List Envelope → Account
home sender pushed = record { by = sender; pushed = Some pushed }

abbrev pub account_after : Option (List Envelope) → List Account → ℕ → Option (List Envelope)
account_after before [] sender = before
account_after before (a ∷ accounts) sender = account_after (cond (a.by == sender) a.pushed before) accounts sender

-- the account of a sender by its newest entry: all that it pushed, or None while the account is with the sender's port;
-- without an entry nothing was pushed
abbrev pub account : List Account → ℕ → Option (List Envelope)
account = account_after (Some [])

-- the port pushes for the sender of this envelope, which is to the fifo's actor and of its part
abbrev pub MayPush : Envelope → Ledger → Type 0
MayPush e (Sender scope by pushed) = (by ≡ e.by.0) × (e.to.0 ≡ scope.to) × IsOfPart scope.part e
MayPush e (Taker scope taken accounts) = ⊥
MayPush e Spent = ⊥

-- the port pushes
abbrev pub IsSender : Ledger → Type 0
IsSender (Sender scope by pushed) = Unit {0}
IsSender (Taker scope taken accounts) = ⊥
IsSender Spent = ⊥

-- the port takes
abbrev pub IsTaker : Ledger → Type 0
IsTaker (Sender scope by pushed) = ⊥
IsTaker (Taker scope taken accounts) = Unit {0}
IsTaker Spent = ⊥

-- the port takes, and was not used yet
abbrev pub IsUnused : Ledger → Type 0
IsUnused ledger = ledger ≡ Taker unsettled [] []

-- the port takes, and has the account of this sender, which is empty, to lend
abbrev pub MayLend : ℕ → Ledger → Type 0
MayLend sender (Sender scope by pushed) = ⊥
MayLend sender (Taker scope taken accounts) = Contains scope.senders sender × (account accounts sender ≡ Some [])
MayLend sender Spent = ⊥

-- after a push of this envelope
abbrev pub pushing : Ledger → Envelope → Ledger
pushing (Sender scope by pushed) e = Sender scope by (pushed ++ e ∷ [])
pushing (Taker scope taken accounts) e = Taker scope taken accounts
pushing Spent e = Spent

-- after a take of this envelope
abbrev pub taking : Ledger → Envelope → Ledger
taking (Sender scope by pushed) e = Sender scope by pushed
taking (Taker scope taken accounts) e = Taker scope (taken ++ e ∷ []) accounts
taking Spent e = Spent

-- after the account of a sender is lent to a port of its own
abbrev pub lending : ℕ → Ledger → Ledger
lending sender (Sender scope by pushed) = Sender scope by pushed
lending sender (Taker scope taken accounts) = Taker scope taken (accounts ++ lent sender ∷ [])
lending sender Spent = Spent

-- what the sender's port knows once the account is lent to it
abbrev pub borrowing : ℕ → Ledger → Ledger
borrowing sender (Sender scope by pushed) = Spent
borrowing sender (Taker scope taken accounts) = Sender scope sender []
borrowing sender Spent = Spent

-- after another port was joined
abbrev pub joining : Ledger → Ledger → Ledger
joining (Sender scope by pushed) other = Sender scope by pushed
joining (Taker scope taken accounts) (Sender scope' by pushed) = Taker scope taken (accounts ++ home by pushed ∷ [])
joining (Taker scope taken accounts) (Taker scope' taken' accounts') = Taker scope taken accounts
joining (Taker scope taken accounts) Spent = Taker scope taken accounts
joining Spent other = Spent
