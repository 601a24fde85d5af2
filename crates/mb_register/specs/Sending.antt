-- How envelopes are counted at the gates (`akka.dispatch.Mailbox`: what comes to a closed one is a dead letter; that an envelope is counted before it
-- is queued is this project's own profile).
use Rattle.std.specs.Prelude.{◌≡◌, ℕ, false, List, [], ◌∷◌, Option, Some, None}
use Rattle.mb_status.specs.Mailbox.{mailbox_of}
use Rattle.mb_msg.specs.declared.dead_letter.DeadLetterReason.{DeadLetterReason}
use Rattle.mb_gate.specs.View.{Observation, Read, Sent, Unsent}

-- What is done at the gates for an envelope to an open actor, the newest first, by who sends it from outside and by who tells it in a run: it is
-- counted once before its queue gets it, and the count is taken back once where the queue refused it, for whatever reason.
abbrev pub counts : ℕ → Option DeadLetterReason → List Observation
counts to None = Sent to 1 ∷ []
counts to (Some why) = Unsent to 1 ∷ Sent to 1 ∷ []

-- The newest observation is that the actor's status was read and showed it open.
pub record ReadOpenLast (actor : ℕ) (log : List Observation) : Type 0 where
  pub word : ℕ
  pub not_closed : (mailbox_of word).closed ≡ false
  pub before : List Observation
  pub last : log ≡ Read actor word ∷ before

-- The newest observation is that an envelope to this actor was counted.
pub record CountedLast (actor : ℕ) (log : List Observation) : Type 0 where
  pub before : List Observation
  pub last : log ≡ Sent actor 1 ∷ before

-- Each envelope was counted once, right after a reading that showed its receiver open; and each that was taken back was taken back right after it was
-- counted.
abbrev pub SendsOpen : List Observation → Type 0
SendsOpen [] = Unit {0}
SendsOpen (Sent a n ∷ log) = (n ≡ 1) × ReadOpenLast a log × SendsOpen log
SendsOpen (Unsent a n ∷ log) = (n ≡ 1) × CountedLast a log × SendsOpen log
SendsOpen (_ ∷ log) = SendsOpen log
