-- A refusal of the fifo is one of the queue.
use Rattle.std.proofs.Common.{◌≡◌, ℕ, List, Option, Some, None, subst, sym, ◌∙◌}
use Rattle.mb_msg.specs.declared.envelope.Envelope.{Envelope}
use Rattle.mb_queue.specs.declared.refused.PushError.{PushError}
use Rattle.mb_queue.specs.declared.refused.PushError.TheVariants.{Full, NoMemory}
use Rattle.mb_queue.specs.declared.refused.Refusal.{Refusal}
use Rattle.mb_queue.specs.declared.refused.Refusal.TheVariants as why
use Rattle.mb_queue.specs.Passes.{SendPassView}
use Rattle.mb_queue.specs.Port.{FifoPort}
use Rattle.mb_queue.specs.Rule as fifo
use Rattle.mb_queue.specs.Representation.{sending_of, IsSending}
use Rattle.mb_queue.specs.Pushes.{IsReasonToRefuse, IsRefusal, WasFull}

was_full : (most by : ℕ) (main : FifoPort) (pushed : List Envelope) → IsSending by main None pushed → fifo.FoundFull most main.ledger
    → WasFull most (sending_of by main None pushed)
was_full most by main pushed kept found = let f = subst (fifo.FoundFull most) kept found in
    (f.0, f.1, f.2, (λ k d lt. let b = f.3 k d lt in (b.0, b.1)), f.4)

pub refused : (by : ℕ) (main : FifoPort) (control : Option FifoPort) (pushed : List Envelope) (r : Refusal) → IsSending by main control pushed
    → fifo.IsFifoRefusal main.fifo.capacity main.ledger r
    → IsReasonToRefuse (sending_of by main control pushed) r
refused by main None pushed why.Full kept r = (r.0, r.1, was_full r.0 by main pushed kept r.2)
refused by main None pushed why.NoMemory kept r = r
refused by main (Some control) pushed why.Full kept r = let no : None ≡ Some r.0 = sym kept.2 ∙ r.1 in absurd cc
refused by main (Some control) pushed why.NoMemory kept r = r

-- the same of the envelope that was refused
pub refusal-of : (pass : SendPassView) (e : PushError) → IsReasonToRefuse pass (fifo.refusal_of e) → IsRefusal pass e
refusal-of pass (Full e) r = r
refusal-of pass (NoMemory e) r = r
