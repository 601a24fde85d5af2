-- Which system messages a run sends, and what becomes of those that its actor's list gave (`akka.dispatch.Mailbox.processAllSystemMessages` and
-- `cleanUp`; that a Create is answered too is this project's own profile).
use Rattle.std.specs.Prelude.{◌≡◌, ℕ, ◌+◌, ◌==◌, if◌then◌else◌, true, false, List, [], ◌∷◌, ◌++◌, Option, Some, None, is_some}
use Rattle.std.specs.List.{flat_map}
use Rattle.mb_msg.specs.declared.id.ActorId.{ActorId}
use Rattle.mb_msg.specs.declared.system.SysMsg.{SysMsg}
use Rattle.mb_journal.specs.Aside.{next_front}
use Rattle.mb_journal.specs.Entry.{Entry}
use Rattle.mb_journal.specs.Entry.Entry.{Handled, System, Dropped as DroppedEnvelope}
use Rattle.mb_journal.specs.Identity.{Identity}
use Rattle.mb_journal.specs.Life.{closed}
use Rattle.mb_ghost.specs.Seen.{Each}
use Rattle.mb_ghost.specs.Summed.{total}
use Rattle.mb_gate.specs.PutIn.{put_by}
use Rattle.mb_gate.specs.SentSystem.{SplitClaim, Listed, Dropped, Answered, Parting, IsRightPart, due_of_part, due_since, sent_by_part}
use Rattle.mb_gate.specs.View.{Observation, SentSystem, View, Pushed, Drained, Ended}
use Rattle.mb_mailbox.specs.Notice.{asker}
use Rattle.mb_mailbox.specs.RunState.{RunState}

-- What these steps got out of the actor's list, the earliest first. The steps stand newest first.
abbrev pub given_by : List Observation → List (ℕ × SysMsg)
given_by [] = []
given_by (Drained actor given ∷ log) = given_by log ++ given
given_by (Ended actor given ∷ log) = given_by log ++ given
given_by (_ ∷ log) = given_by log

-- What these steps put into lists, each message with its receiver. The newest stands first, as of the steps.
abbrev pub listed_by : List Observation → List (ℕ × SysMsg)
listed_by [] = []
listed_by (Pushed to number message ∷ log) = (to, message) ∷ listed_by log
listed_by (_ ∷ log) = listed_by log

-- Those of these messages that a list took, each with its receiver, in the same order.
abbrev pub listed_of : List SentSystem → List (ℕ × SysMsg)
listed_of [] = []
listed_of (s ∷ sent_system) = (if s.was_ended then [] else (s.to, s.message) ∷ []) ++ listed_of sent_system

-- The measure of a system message that was sent, if this actor's list took it.
abbrev pub listed_measure : ℕ → (SysMsg → ℕ) → SentSystem → ℕ
listed_measure to measure s = if s.was_ended then 0 else if s.to == to then measure s.message else 0

-- How often an observation is that this actor's list was ended, or was found ended.
abbrev pub ended_in : ℕ → Observation → ℕ
ended_in actor (Ended a given) = if a == actor then 1 else 0
ended_in actor _ = 0

-- How often a system message that was sent found this actor's list ended.
abbrev pub refused_of : ℕ → SentSystem → ℕ
refused_of to s = if s.was_ended then (if s.to == to then 1 else 0) else 0

-- Between these views a pass found each list ended as often as what it sent says.
abbrev pub FindsEndedAsSent : View → View → Type 0
FindsEndedAsSent old new = (to : ℕ)
    → total (ended_in to) new.log + total (refused_of to) old.sent_system ≡ total (ended_in to) old.log + total (refused_of to) new.sent_system

-- Between these views a pass put into lists just what it sent and they took, by any measure of messages.
abbrev pub PutsAsSent : View → View → Type 0
PutsAsSent old new = (to : ℕ) (measure : SysMsg → ℕ)
    → put_by to (λ m. measure m.1) new + total (listed_measure to measure) old.sent_system
    ≡ put_by to (λ m. measure m.1) old + total (listed_measure to measure) new.sent_system

-- The system messages that came new to the cell with these entries, the earliest first: all but those that had been set aside, which go before others.
-- The entries stand newest first and came after those before.
abbrev pub came_since : Identity → List Entry → List Entry → List (ℕ × SysMsg)
came_since who [] before = []
came_since who (System number message outcome ∷ newer) before =
    came_since who newer before ++ (if is_some (next_front who (newer ++ before)) then [] else (number, message) ∷ [])
came_since who (Handled envelope reading outcome ∷ newer) before = came_since who newer before
came_since who (DroppedEnvelope envelope ∷ newer) before = came_since who newer before

-- The number of an actor, if there is one.
abbrev pub number_if_some : Option ActorId → List ℕ
number_if_some None = []
number_if_some (Some whom) = whom.0 ∷ []

-- Who waits for an answer to these messages to an actor with this parent, in the order of the messages.
abbrev pub askers_of : Option ActorId → List (ℕ × SysMsg) → List ℕ
askers_of parent messages = flat_map (λ (m : ℕ × SysMsg). number_if_some (asker parent m.1)) messages

-- Whom this part tells of the end of the actor that sends it.
abbrev pub told_of_end : SplitClaim → List ℕ
told_of_end (Listed to message) = []
told_of_end (Dropped to message) = []
told_of_end (Answered to message whom ended) = []
told_of_end (Parting whom ended) = whom ∷ []

-- Between these states the run recorded that it sent the messages that were due, in their order; at once after each that found its list ended the
-- notice to who waits for an answer; and a notice of its actor's own end to each that waits for an answer to a dropped message, in the order of these.
-- It recorded nothing else.
pub record SendsAndAnswers (due dropped : List (ℕ × SysMsg)) (old new : RunState) : Type 0 where
  pub parts : List SplitClaim
  pub recorded : new.recorded ≡ old.recorded ++ flat_map (sent_by_part old.actor) parts
  pub due_is : due ≡ flat_map due_of_part parts
  pub right : Each (IsRightPart old.actor new.status.closed) parts
  pub answered : flat_map told_of_end parts ≡ askers_of old.home.cell.who.parent dropped

-- Between these states the list gave what the log says. That and what was left of a drain came to the cell, was dropped, or is left, in this order.
-- Nothing is dropped while the mailbox is open, and nothing comes to the cell of a closed one, which stays closed.
pub record TakesSystemsIn (came dropped : List (ℕ × SysMsg)) (old new : RunState) : Type 0 where
  pub steps : List Observation
  pub log : new.log ≡ steps ++ old.log
  pub given : old.home.rest ++ given_by steps ≡ came ++ (dropped ++ new.home.rest)
  pub none_dropped : new.status.closed ≡ false → dropped ≡ []
  pub stays_closed : old.status.closed ≡ true → (new.status.closed ≡ true) × (came ≡ [])

-- Between these states the run sent what was due and answered what it dropped, where this came to the cell.
pub record SendsDue (due came : List (ℕ × SysMsg)) (old new : RunState) : Type 0 where
  pub dropped : List (ℕ × SysMsg)
  pub sends : SendsAndAnswers due dropped old new
  pub takes : TakesSystemsIn came dropped old new

-- Between these states the journal grew, and the run sent what the new entries have to send and answered what it dropped.
pub record SendsForEntries (old new : RunState) : Type 0 where
  pub newer : List Entry
  pub joined : new.home.cell.journal ≡ newer ++ old.home.cell.journal
  pub sends : SendsDue
      (due_since old.home.cell.who newer old.home.cell.journal)
      (came_since old.home.cell.who newer old.home.cell.journal)
      old
      new

-- What a run sent, the earliest first, whose journal grew from the one before, which began with this rest of a drain, and which made these steps at
-- its actor's list. It is the system messages that the new entries have to send, in their order, each that found its list ended followed at once by
-- the notice to who waits for an answer; and a notice of the actor's own end to each that waits for an answer to a message that was dropped. Of all
-- that the list gave, what did not come to the cell is left, or was dropped where the actor ended.
pub record IsSentByRun (who : Identity) (actor : ℕ) (journal before : List Entry) (rest : List (ℕ × SysMsg)) (steps : List Observation)
    (sent_system : List SentSystem) : Type 0 where
  pub newer : List Entry
  pub joined : journal ≡ newer ++ before
  pub parts : List SplitClaim
  pub sent_system_is : sent_system ≡ flat_map (sent_by_part actor) parts
  pub due_is : due_since who newer before ≡ flat_map due_of_part parts
  pub right : Each (IsRightPart actor (closed who journal)) parts
  pub dropped : List (ℕ × SysMsg)
  pub left : List (ℕ × SysMsg)
  pub given : rest ++ given_by steps ≡ came_since who newer before ++ (dropped ++ left)
  pub none_dropped : closed who journal ≡ false → dropped ≡ []
  pub none_left : closed who journal ≡ true → left ≡ []
  pub answered : flat_map told_of_end parts ≡ askers_of who.parent dropped
