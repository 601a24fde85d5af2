-- What the senders outside bring to the end of a system, and who may send to whom.
use Rattle.std.specs.Prelude.{◌≡◌, ℕ, ◌+◌, ◌<◌, true, List, [], ◌∷◌, All, drop, length}
use Rattle.mb_journal.specs.Accepted.{dead_letters}
use Rattle.mb_gate.specs.View.{Observation}
use Rattle.mb_home.specs.Directory.{DirectoryEntry, queues_of}
use Rattle.mb_send.specs.Bounded.{are_of_bounded}
use Rattle.mb_send.specs.Sends.{AreRoutes, receiving_queues}
use Rattle.mb_send.specs.SeenClosed.{were_seen_closed}
use Rattle.mb_shutdown.specs.CompleteReport.{sender_number}
use Rattle.mb_shutdown.specs.declared.finished_sender.FinishedSender.{FinishedSender}

-- This is the sender of this number. It has a pass into the queue of each receiver in the directory, in their order, by which it pushed all that it
-- was answered "queued" for. Of its dead letters, each that says that its receiver is closed is to an actor that was seen closed, and each that says
-- that its receiver's queue was full is to one whose queue has a bound.
pub record IsFinishedSender (directory : List DirectoryEntry) (log : List Observation) (number : ℕ) (o : FinishedSender) : Type 0 where
  pub number_is : o.send_log.by.0 ≡ number
  pub queues : receiving_queues o.sends.items ≡ drop 1 (queues_of directory)
  pub routes : AreRoutes o.send_log.by.0 o.send_log.posted o.sends.items
  pub was_seen_closed : were_seen_closed log (dead_letters o.send_log.posted) ≡ true
  pub bounded : are_of_bounded (receiving_queues o.sends.items) (dead_letters o.send_log.posted) ≡ true

-- These are senders with the numbers from this one on.
abbrev pub AreFinishedSenders : List DirectoryEntry → List Observation → ℕ → List FinishedSender → Type 0
AreFinishedSenders directory log number [] = Unit {0}
AreFinishedSenders directory log number (o ∷ outside) = IsFinishedSender directory log number o × AreFinishedSenders directory log (number + 1) outside

-- The number is of one of so many actors, or of one of so many senders outside.
pub record IsSenderAmong (actors outside number : ℕ) : Type 0 where
  pub place : ℕ
  pub within : place < actors + outside
  pub number_is : number ≡ sender_number actors place

-- Each queue in the directory has only such senders.
abbrev pub HasKnownSenders : List DirectoryEntry → ℕ → Type 0
HasKnownSenders directory outside = All (λ (n : DirectoryEntry). All (IsSenderAmong (length directory) outside) n.queue.senders) directory
