-- Which system messages a run sends, and which its new journal entries have to send. Akka keeps no record of sent system messages. That a message
-- which finds its list ended is answered is `akka.actor.EmptyLocalActorRef`; that a Create is answered too is this project's own profile.
use Rattle.std.specs.Prelude.{◌≡◌, ℕ, Bool, true, false, List, [], ◌∷◌, ◌++◌, Option, Some, None}
use Rattle.std.specs.List.{flat_map}
use Rattle.mb_msg.specs.declared.system.SysMsg.{SysMsg}
use Rattle.mb_msg.specs.declared.system.SysMsg.TheVariants as system
use Rattle.mb_journal.specs.Acts.{Act, Tell, Sys, SuspendSelf, ResumeSelf, CloseSelf, acts}
use Rattle.mb_journal.specs.Entry.{Entry}
use Rattle.mb_journal.specs.Identity.{Identity}
use Rattle.mb_ghost.specs.Seen.{Each}
use Rattle.mb_gate.specs.View.{SentSystem}

-- The system messages among these acts, each with its receiver.
abbrev pub messages_of : List Act → List (ℕ × SysMsg)
messages_of [] = []
messages_of (Sys to message ∷ acts) = (to.0, message) ∷ messages_of acts
messages_of (Tell to body ∷ acts) = messages_of acts
messages_of (SuspendSelf ∷ acts) = messages_of acts
messages_of (ResumeSelf ∷ acts) = messages_of acts
messages_of (CloseSelf ∷ acts) = messages_of acts

-- The system messages that these entries have to send, the earliest first. The entries stand newest first and came after those before.
abbrev pub due_since : Identity → List Entry → List Entry → List (ℕ × SysMsg)
due_since who [] before = []
due_since who (e ∷ newer) before = due_since who newer before ++ messages_of (acts who (newer ++ before) e)

-- The notice that this actor has ended.
abbrev pub notice : ℕ → SysMsg
notice actor = system.Died (record { 0 = actor })

-- Who is told that the receiver of a message has ended. For a Watch it is the watcher. For a Create it is the parent, which is the actor that sent
-- the message. For any other message it is nobody.
abbrev pub answered_to : ℕ → SysMsg → Option ℕ
answered_to actor (system.Watch watcher) = Some watcher.0
answered_to actor system.Create = Some actor
answered_to actor _ = None

-- One part of what a run sent: a message that a list took; one that found its list ended and that nobody waits for; one that found its list ended,
-- followed by the notice of that end to this actor, whose list may be ended too; and a notice of the running actor's own end.
pub data SplitClaim : Type 0 where
  Listed : ℕ → SysMsg → SplitClaim
  Dropped : ℕ → SysMsg → SplitClaim
  Answered : ℕ → SysMsg → ℕ → Bool → SplitClaim
  Parting : ℕ → Bool → SplitClaim

-- What was sent in this part.
abbrev pub sent_by_part : ℕ → SplitClaim → List SentSystem
sent_by_part actor (Listed to message) = record { to = to; message = message; was_ended = false } ∷ []
sent_by_part actor (Dropped to message) = record { to = to; message = message; was_ended = true } ∷ []
sent_by_part actor (Answered to message whom ended) =
    record { to = to; message = message; was_ended = true } ∷ record { to = whom; message = notice to; was_ended = ended } ∷ []
sent_by_part actor (Parting whom ended) = record { to = whom; message = notice actor; was_ended = ended } ∷ []

-- The message that was due in this part.
abbrev pub due_of_part : SplitClaim → List (ℕ × SysMsg)
due_of_part (Listed to message) = (to, message) ∷ []
due_of_part (Dropped to message) = (to, message) ∷ []
due_of_part (Answered to message whom ended) = (to, message) ∷ []
due_of_part (Parting whom ended) = []

-- A notice goes to the actor that waits for it, and only a closed actor has ended.
abbrev pub IsRightPart : ℕ → Bool → SplitClaim → Type 0
IsRightPart actor closed (Listed to message) = Unit {0}
IsRightPart actor closed (Dropped to message) = answered_to actor message ≡ None
IsRightPart actor closed (Answered to message whom ended) = answered_to actor message ≡ Some whom
IsRightPart actor closed (Parting whom ended) = closed ≡ true

-- What was sent, the earliest first, is the messages that were due, in their order. Each that found its list ended is followed at once by its notice.
-- Besides there are only notices of the actor's own end, where it is closed.
pub record HasSentDue (actor : ℕ) (closed : Bool) (due : List (ℕ × SysMsg)) (sent_system : List SentSystem) : Type 0 where
  pub parts : List SplitClaim
  pub sent_system_is : sent_system ≡ flat_map (sent_by_part actor) parts
  pub due_is : due ≡ flat_map due_of_part parts
  pub right : Each (IsRightPart actor closed) parts

-- What was sent is what the entries that are newer than the journal before have to send.
pub record HasSentDueSince (who : Identity) (actor : ℕ) (closed : Bool) (journal before : List Entry) (sent_system : List SentSystem) : Type 0 where
  pub newer : List Entry
  pub joined : journal ≡ newer ++ before
  pub told : HasSentDue actor closed (due_since who newer before) sent_system
