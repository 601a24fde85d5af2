-- What a sender outside the actors is answered.
use Rattle.std.specs.Prelude.{◌≡◌, ℕ, ◌-◌, Bool, true, false, List, [], ◌∷◌, ◌++◌, slice_get, Option, Some, None}
use Rattle.mb_status.specs.Mailbox.{Mailbox, word_of}
use Rattle.mb_msg.specs.declared.id.ActorId.{ActorId}
use Rattle.mb_msg.specs.declared.id.SenderId.{SenderId}
use Rattle.mb_msg.specs.declared.envelope.Body.{Body}
use Rattle.mb_msg.specs.declared.system.SysMsg.TheVariants as system
use Rattle.mb_gate.specs.View.{View, Ended, Pushed, reading}
use Rattle.mb_journal.specs.declared.sent_envelope.SentEnvelope.{SentEnvelope}
use Rattle.mb_queue.specs.Passes.{SendPassView}
use Rattle.mb_queue.specs.Pushes.{WasFull}
use Rattle.mb_send.specs.declared.ticket.Ticket.{Ticket}
use Rattle.mb_send.specs.declared.ticket.Look.{Look}
use Rattle.mb_send.specs.declared.ticket.Look.TheVariants.{Open, Closed}
use Rattle.mb_msg.specs.declared.dead_letter.DeadLetterReason.{DeadLetterReason}
use Rattle.mb_msg.specs.declared.dead_letter.DeadLetterReason.TheVariants as why
use Rattle.mb_queue.specs.declared.refused.Refusal.{Refusal}
use Rattle.mb_queue.specs.declared.refused.Refusal.TheVariants.{Full, NoMemory}
use Rattle.mb_send.specs.declared.send_outcome.SendOutcome.{SendOutcome}
use Rattle.mb_send.specs.declared.send_outcome.SendOutcome.TheVariants.{Queued, Dead}
use Rattle.mb_send.specs.Posted.{envelope_of, posting}
use Rattle.mb_register.specs.Sending.{counts}
use Rattle.mb_register.specs.Views.{Does}

-- The answer with this number: queued, or dead for this reason.
abbrev pub put_of : ℕ → Option DeadLetterReason → SendOutcome
put_of number None = Queued number
put_of number (Some why) = Dead number why

-- The receiver that a ticket is for.
abbrev pub receiver_of : Ticket → ActorId
receiver_of ticket = ticket.to

-- The answer to a look is what this status says.
abbrev pub AnswersLook : ActorId → Mailbox → Look → Type 0
AnswersLook to seen (Open ticket) = (receiver_of ticket ≡ to) × (seen.closed ≡ false)
AnswersLook to seen Closed = seen.closed ≡ true

-- The receiver's status was read once, and the answer is what it says.
pub record IsSeen (to : ActorId) (look : Look) (before after : View) : Type 0 where
  pub seen : Mailbox
  pub read : after ≡ reading to.0 (word_of seen) before
  pub answer : AnswersLook to seen look

-- Why a push was refused, as the sender is told.
abbrev pub reason : Refusal → DeadLetterReason
reason Full = why.Full
reason NoMemory = why.NoMemory

-- The pass refused the envelope for this reason, or did not refuse it. A queue with a bound refuses only if it was full at some moment, one without a
-- bound only if memory was refused, and none because its actor is closed.
abbrev pub IsWhy : SendPassView → Option DeadLetterReason → Type 0
IsWhy pass None = Unit {0}
IsWhy pass (Some why.Full) = (most : ℕ) × (pass.queue.main.capacity ≡ Some most) × WasFull most pass
IsWhy pass (Some why.NoMemory) = pass.queue.main.capacity ≡ None
IsWhy pass (Some why.Closed) = ⊥
IsWhy pass (Some why.Cleaned) = ⊥

module _ (by : SenderId) (number : ℕ) (to : ActorId) (body : Body) (posted posted' : List SentEnvelope) where
  -- The envelope of this sender, number, receiver and body was counted, and the pass to its receiver pushed it or refused it. That stands last in the
  -- sender's log, and is the answer.
  pub record IsSent (sends : List SendPassView) (old new : View) (put : SendOutcome) : Type 0 where
    pub pass : SendPassView
    pub present : slice_get sends (to.0 - 1) ≡ Some pass
    pub refused : Option DeadLetterReason
    pub why : IsWhy pass refused
    pub answer : put ≡ put_of number refused
    pub posted_is : posted' ≡ posted ++ posting (envelope_of by to number body) refused ∷ []
    pub counted : Does to.0 (counts to.0 refused) [] old new

  -- The envelope is a dead letter, since its receiver is closed.
  pub record IsDeadLetter (put : SendOutcome) : Type 0 where
    pub answer : put ≡ Dead number why.Closed
    pub posted_is : posted' ≡ posted ++ posting (envelope_of by to number body) (Some why.Closed) ∷ []

  -- A receiver that was seen open is sent to. For one that was seen closed the envelope is a dead letter, and nothing else changes.
  abbrev pub FollowsLook : List SendPassView → View → View → SendOutcome → Look → Type 0
  FollowsLook sends old new put (Open ticket) = IsSent sends old new put
  FollowsLook sends old new put Closed = IsDeadLetter put × (new ≡ old)

  -- The receiver's status was read, and the envelope was sent or became a dead letter as that says.
  pub record IsTold (sends : List SendPassView) (old new : View) (put : SendOutcome) : Type 0 where
    pub look : Look
    pub between : View
    pub seen : IsSeen to look old between
    pub follows : FollowsLook sends between new put look

-- One Terminate was put into the actor's list, or found the list ended; nothing else was sent.
abbrev pub Stops : ℕ → View → View → Bool → Type 0
Stops id old new true = (number : ℕ)
    × Does id (Pushed id number system.Terminate ∷ []) (record { to = id; message = system.Terminate; was_ended = false } ∷ []) old new
Stops id old new false = Does id (Ended id [] ∷ []) (record { to = id; message = system.Terminate; was_ended = true } ∷ []) old new
