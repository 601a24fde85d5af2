-- The passes by which a sender pushes into the queues of its receivers.
use Rattle.std.specs.Prelude.{◌≡◌, ℕ, ◌+◌, List, Some, map, slice_get}
use Rattle.mb_journal.specs.declared.sent_envelope.SentEnvelope.{SentEnvelope}
use Rattle.mb_journal.specs.Accepted.{queued, to_actor}
use Rattle.mb_queue.specs.Passes.{Queue, SendPassView}

-- The pass pushes for this sender into the queue of this receiver. It pushed all envelopes that the sender was answered "queued" for.
pub record IsRoute (by to : ℕ) (posted : List SentEnvelope) (s : SendPassView) : Type 0 where
  pub sender : s.by ≡ by
  pub receiver : s.queue.to ≡ to
  pub pushed : s.pushed ≡ to_actor to (queued posted)

-- These are the passes to all receivers in the order of their numbers, from 1 on. The guardian receives no envelopes.
abbrev pub AreRoutes : ℕ → List SentEnvelope → List SendPassView → Type 0
AreRoutes by posted sends = (i : ℕ) (s : SendPassView) → slice_get sends i ≡ Some s → IsRoute by (i + 1) posted s

-- The queues that these passes push into.
abbrev pub receiving_queues : List SendPassView → List Queue
receiving_queues = map (λ (s : SendPassView). s.queue)
