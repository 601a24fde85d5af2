-- What a refused push says of the queue.
use Rattle.std.specs.Prelude.{◌≡◌, ℕ, false, true, [], ◌∷◌, ◌++◌, List, Option, Some, None, Contains, All, MatchResult, Result, length}
use Rattle.mb_msg.specs.declared.envelope.Envelope.{Envelope}
use Rattle.mb_queue.specs.declared.refused.PushError.{PushError}
use Rattle.mb_queue.specs.declared.refused.PushError.TheVariants.{Full, NoMemory}
use Rattle.mb_queue.specs.declared.refused.Refusal.{Refusal}
use Rattle.mb_queue.specs.declared.refused.Refusal.TheVariants as why
use Rattle.mb_queue.specs.Ledger.{is_control, pushing, sent_by}
use Rattle.mb_queue.specs.Passes.{SendPassView}
use Rattle.mb_queue.specs.Port.{FifoPort}

-- At one moment of the call the queue was full: it held `most` envelopes. With what was taken before, these are all by
-- senders of the queue and to its actor, and have all that this sender pushed, in its order. (With one sender alone: it had
-- pushed that many.)
abbrev pub WasFull : ℕ → SendPassView → Type 0
WasFull most pass = (taken : List Envelope) × (items : List Envelope) × (length items ≡ most)
    × All (λ e. Contains pass.queue.senders e.by.0 × (e.to.0 ≡ pass.queue.to)) (taken ++ items) × (pass.pushed ≡ sent_by pass.by (taken ++ items))

-- why a push was refused: by a queue with a bound only since it was full (`akka.dispatch.NonBlockingBoundedMailbox`), and
-- by one without only since memory was refused
abbrev pub IsRefusal : SendPassView → PushError → Type 0
IsRefusal pass (Full e) = (most : ℕ) × (pass.queue.main.capacity ≡ Some most) × WasFull most pass
IsRefusal pass (NoMemory e) = pass.queue.main.capacity ≡ None

-- the same, by the reason alone
abbrev pub IsReasonToRefuse : SendPassView → Refusal → Type 0
IsReasonToRefuse pass why.Full = (most : ℕ) × (pass.queue.main.capacity ≡ Some most) × WasFull most pass
IsReasonToRefuse pass why.NoMemory = pass.queue.main.capacity ≡ None

-- the envelope goes to the fifo of all but control messages, or the queue has one fifo
abbrev pub IsForMain : Option FifoPort → Envelope → Type 0
IsForMain None e = Unit {0}
IsForMain (Some control) e = is_control e ≡ false

-- the queue has a fifo of control messages, and the envelope goes to it
abbrev pub IsForControl : Option FifoPort → Envelope → Type 0
IsForControl None e = ⊥
IsForControl (Some control) e = is_control e ≡ true

-- what a port and what was written down are after this answer
abbrev pub IsPushed : {T : Type 0} → Envelope → Result T Refusal → FifoPort → FifoPort → List Envelope → List Envelope → Type 0
IsPushed e r port now pushed after =
    MatchResult r (λ _. (now ≡ record port { ledger = pushing port.ledger e }) × (after ≡ pushed ++ e ∷ [])) (λ _. (now ≡ port) × (after ≡ pushed))
