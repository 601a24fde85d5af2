-- How a run sends the envelopes of its tells (`akka.dispatch.Mailbox`: what comes to a closed one is a dead letter; that an envelope is counted at
-- the gates before it is queued is this project's own profile).
use Rattle.std.specs.Prelude.{◌≡◌, ◌⊎◌, ℕ, true, false, [], ◌∷◌, ◌++◌, Some, None}
use Rattle.mb_status.specs.Mailbox.{mailbox_of}
use Rattle.mb_msg.specs.declared.dead_letter.DeadLetterReason.TheVariants.{Closed}
use Rattle.mb_msg.specs.declared.envelope.Body.{Body}
use Rattle.mb_msg.specs.declared.id.ActorId.{ActorId}
use Rattle.mb_queue.specs.declared.refused.PushError.{PushError}
use Rattle.mb_gate.specs.View.{View, Read}
use Rattle.mb_home.specs.Contents.{Contents}
use Rattle.mb_home.specs.Steps.{Pushes, RecordsDeadLetter, reason_of}
use Rattle.mb_register.specs.Sending.{counts}
use Rattle.mb_register.specs.Views.{Does}
use Rattle.mb_register.specs.declared.hint.Hint.{Hint}
use Rattle.mb_register.specs.declared.hint.Hint.TheVariants as hint

-- The receiver was read as closed, and what is told to it is a dead letter for that reason.
pub record TellsClosed (to : ActorId) (body : Body) (old new : View) (home left : Contents) : Type 0 where
  pub word : ℕ
  pub known_closed : (mailbox_of word).closed ≡ true
  pub did : Does to.0 (Read to.0 word ∷ []) [] old new
  pub is_dead_letter : RecordsDeadLetter home left to body Closed

-- The receiver was read as open, and the envelope was counted and queued.
pub record TellsOpen (to : ActorId) (body : Body) (old new : View) (home left : Contents) : Type 0 where
  pub word : ℕ
  pub not_closed : (mailbox_of word).closed ≡ false
  pub did : Does to.0 (counts to.0 None ++ Read to.0 word ∷ []) [] old new
  pub pushed : Pushes home left to body

-- The receiver was read as open and the envelope was counted, but the queue refused it. It was taken off the count, and is a dead letter for that
-- reason.
pub record TellsRefused (to : ActorId) (body : Body) (old new : View) (home left : Contents) : Type 0 where
  pub word : ℕ
  pub not_closed : (mailbox_of word).closed ≡ false
  pub refused : PushError
  pub did : Does to.0 (counts to.0 (Some (reason_of refused)) ++ Read to.0 word ∷ []) [] old new
  pub is_dead_letter : RecordsDeadLetter home left to body (reason_of refused)

-- How a tell ended, by the hint with which its receiver is to be registered: Message where the envelope was queued, None where it was refused.
abbrev pub HintTells : Hint → ActorId → Body → View → View → Contents → Contents → Type 0
HintTells hint.None to body old new home left = TellsRefused to body old new home left
HintTells hint.Message to body old new home left = TellsOpen to body old new home left
HintTells hint.System to body old new home left = ⊥

-- A tell ends in one of these ways.
abbrev pub IsSentOrDead : ActorId → Body → View → View → Contents → Contents → Type 0
IsSentOrDead to body old new home left =
    TellsClosed to body old new home left ⊎ TellsOpen to body old new home left ⊎ TellsRefused to body old new home left
