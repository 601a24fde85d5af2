-- What a report says of a whole system: each accepted envelope has one fate, and each actor is what its journal says.
use Rattle.std.specs.Prelude.{◌≡◌, ◌≢◌, ◌⊎◌, ℕ, ◌+◌, ◌-◌, ◌<◌, ◌%◌, ◌^◌, ℤ, false, if◌then◌else◌, List, [], ◌∷◌, All, length, slice_get, Some, None, nat_lt}
use Rattle.mb_msg.specs.Limits.{most_actors}
use Rattle.mb_msg.specs.declared.dead_letter.DeadLetter.{DeadLetter}
use Rattle.mb_msg.specs.declared.dead_letter.DeadLetterReason.TheVariants as why
use Rattle.mb_msg.specs.declared.envelope.Envelope.{Envelope}
use Rattle.mb_msg.specs.declared.system.SysMsg.{SysMsg}
use Rattle.mb_actor.specs.Behaviour.{Moment, Reply}
use Rattle.mb_actor.specs.declared.message.Message.{Message}
use Rattle.mb_actor.specs.declared.phase.Phase.TheVariants.{Ended as EndedPhase}
use Rattle.mb_journal.specs.Aside.{aside, ever_aside, next_front, next_number}
use Rattle.mb_journal.specs.Identity.{Identity, is_guardian}
use Rattle.mb_journal.specs.Incarnation.{messages}
use Rattle.mb_journal.specs.Lawful.{IsLawful}
use Rattle.mb_journal.specs.Life.{closed, phase}
use Rattle.mb_journal.specs.Suspension.{count}
use Rattle.mb_syslist.specs.MessageList.{numbered}
use Rattle.mb_journal.specs.Accepted.{NumbersCountUpFrom, accepted, dead_letters}
use Rattle.mb_journal.specs.Fates.{fates}
use Rattle.mb_journal.specs.Pair.{FatesInSendOrder, AcceptedMatchFates, EachHasOneFate}
use Rattle.mb_journal.specs.Tells.{told}
use Rattle.mb_journal.specs.declared.sent_envelope.SentEnvelope.{SentEnvelope}
use Rattle.mb_gate.specs.Rule.{IsAmong}
use Rattle.mb_gate.specs.View.{Observation, Read, Saw, Counted, Looked, Sent, Unsent, Took, Pushed, Drained, Ended}
use Rattle.mb_ghost.specs.Seen.{Each}
use Rattle.mb_home.specs.AtHome.{system_entries}
use Rattle.mb_home.specs.Numbers.{applied_numbers, numbers_in, times}
use Rattle.mb_home.specs.Directory.{DirectoryEntry, IsBounded}
use Rattle.mb_queue.specs.Passes.{first_in_first_out, control_first}
use Rattle.mb_shutdown.specs.Parts.{ArePartsInOrder, IsControlsFirst}
use Rattle.mb_report.specs.declared.report.ActorReport.{ActorReport}
use Rattle.mb_report.specs.declared.report.Report.{Report}
use Rattle.mb_report.specs.declared.report.SenderReport.{SenderReport}

-- The envelopes that came to an actor: begun, cleaned up when it ended, and left.
abbrev pub fates_in : ActorReport → List Envelope
fates_in actor = fates actor.journal.entries actor.cleaned.items actor.left.items

-- What each of these actors sent, as its journal tells.
abbrev pub told_by_each : List Identity → List ActorReport → List (List Envelope)
told_by_each [] reports = []
told_by_each (who ∷ actors) [] = []
told_by_each (who ∷ actors) (a ∷ reports) = told who a.journal.entries ∷ told_by_each actors reports

-- The number of the sender at this place of a report on so many actors. These come first, each with its own number; the senders outside are numbered
-- from the greatest number of actors on.
abbrev pub sender_number : ℕ → ℕ → ℕ
sender_number actors place = if nat_lt place actors then place else most_actors + (place - actors)

-- What is reported of an actor is what its journal says, which is one that it can have. The state is the content that the actor which was handed in
-- has after the messages since its last start. The guardian shows none. No system message that was set aside is due any more. As much is kept of the
-- journal as is planned, and so of what was cleaned up.
pub record IsReportOf (after : ℕ → List Message → ℤ) (gives : ℕ → Moment → Reply → Type 0) (who : Identity) (actor : ActorReport) : Type 0 where
  pub lawful : IsLawful who (gives who.this.0) actor.journal.entries
  pub phase_is : actor.phase ≡ phase who actor.journal.entries
  pub count_is : actor.count ≡ count who actor.journal.entries
  pub aside_is : actor.aside.items ≡ aside who actor.journal.entries
  pub none_due : next_front who actor.journal.entries ≡ None
  pub state_is : actor.state ≡ (if is_guardian who then None else Some (after who.this.0 (messages who actor.journal.entries)))
  pub kept_is : actor.journal.retention ≡ who.retention
  pub cleaned_kept : actor.cleaned.retention ≡ who.retention

-- This observation that a message was put into the actor's list holds: the message is among these, each of which has the number of its place, modulo
-- 2^64.
abbrev pub IsPutAmong : ℕ → List SysMsg → Observation → Type 0
IsPutAmong actor pushed (Pushed a number message) = a ≡ actor → IsAmong (number, message) (numbered 0 pushed)
IsPutAmong actor pushed (Read a word) = Unit {0}
IsPutAmong actor pushed (Saw a journal) = Unit {0}
IsPutAmong actor pushed (Counted a waiting) = Unit {0}
IsPutAmong actor pushed (Looked a has_work) = Unit {0}
IsPutAmong actor pushed (Sent a n) = Unit {0}
IsPutAmong actor pushed (Unsent a n) = Unit {0}
IsPutAmong actor pushed (Took a n) = Unit {0}
IsPutAmong actor pushed (Drained a given) = Unit {0}
IsPutAmong actor pushed (Ended a given) = Unit {0}

-- Of all system messages that were ever put into the actor's list, in order, fewer than 2^64, each was applied once, or is set aside or dead once. Each that has an
-- entry was put into the list under the entry's number, and was applied or is still set aside. To an actor that ended some more may have come later,
-- without an entry. As dead it counts what was set aside when it ended, and these.
pub record CountsSystems (log : List Observation) (who : Identity) (actor : ActorReport) : Type 0 where
  pub pushed : List SysMsg
  pub few : length pushed < 2 ^ 64
  pub known : Each (IsPutAmong who.this.0 pushed) log
  pub entered : Each (λ m. IsAmong m (numbered 0 pushed)) (system_entries actor.journal.entries)
  pub once : (n : ℕ) → n < next_number actor.journal.entries
      → times n (applied_numbers actor.journal.entries) + times n (numbers_in (ever_aside actor.journal.entries)) ≡ 1
  pub later : ℕ
  pub all : length pushed % 2 ^ 64 ≡ (next_number actor.journal.entries + later) % 2 ^ 64
  pub open_has_none : closed who actor.journal.entries ≡ false → later ≡ 0
  pub dead : actor.dead_system ≡ ((if closed who actor.journal.entries then length (ever_aside actor.journal.entries) else 0) + later) % 2 ^ 64

-- A dead letter says that its receiver is closed only of an actor that ended, and that it is full only of one whose queue has a bound.
abbrev pub IsRightReason : List DirectoryEntry → List ActorReport → DeadLetter → Type 0
IsRightReason directory actors d = (d.why ≡ why.Closed → (a : ActorReport) × (slice_get actors d.envelope.to.0 ≡ Some a) × (a.phase ≡ EndedPhase))
    × (d.why ≡ why.Full → IsBounded directory d.envelope.to.0)

-- The actors in the directory; all that was seen of them; and what the senders outside were answered, each for all that it sent.
module _ (after : ℕ → List Message → ℤ) (gives : ℕ → Moment → Reply → Type 0) (directory : List DirectoryEntry) (log : List Observation) (outside : List (List
    SentEnvelope)) where
  -- What a report says of all actors. Each accepted envelope has one fate or is a dead letter, nothing else has a fate, and the guardian has none. A
  -- sender's envelopes stand in the sender's order where the mailbox is first in, first out. Where it is control-aware, its control messages stand in
  -- that order and so do all others, and control messages are left before all others. No envelope that an actor sent is dead as cleaned up. Each
  -- actor is what its journal says.
  pub record IsCompleteReport (report : Report) : Type 0 where
    pub same_count : (length report.actors.items ≡ length directory) × (length report.senders.items ≡ length directory + length outside)
    pub actors : (id : ℕ) (e : DirectoryEntry) (a : ActorReport) → slice_get directory id ≡ Some e → slice_get report.actors.items id ≡ Some a
        → IsReportOf after gives e.who a × CountsSystems log e.who a
    -- What each sender was answered, by its place: an actor for all that its journal tells, a sender outside for all that it sent.
    pub answers : ℕ → List SentEnvelope
    pub told_all : (id : ℕ) (e : DirectoryEntry) (a : ActorReport) → slice_get directory id ≡ Some e → slice_get report.actors.items id ≡ Some a
        → accepted (answers id) ≡ told e.who a.journal.entries
    pub sent_all : (place : ℕ) (postings : List SentEnvelope) → slice_get outside place ≡ Some postings → answers (length directory + place) ≡ postings
    pub sent : (place : ℕ) (s : SenderReport) → slice_get report.senders.items place ≡ Some s
        → (s.sent ≡ length (answers place) % 2 ^ 64) × (s.dead.items ≡ dead_letters (answers place))
        × NumbersCountUpFrom (sender_number (length directory) place) 0 (accepted (answers place))
        × All (IsRightReason directory report.actors.items) (dead_letters (answers place))
    -- Each accepted envelope has one fate or is a dead letter; nothing else of the sender has a fate.
    pub once : (place id : ℕ) (a : ActorReport) → place < length report.senders.items → 0 < id → slice_get report.actors.items id ≡ Some a
        → EachHasOneFate id (answers place) (fates_in a)
        × AcceptedMatchFates (sender_number (length directory) place) id (answers place) (fates_in a)
    pub nothing_else : (id : ℕ) (a : ActorReport) → slice_get report.actors.items id ≡ Some a
        → All (λ (e : Envelope). (place : ℕ) × (place < length report.senders.items) × (e.by.0 ≡ sender_number (length directory) place)) (fates_in a)
    -- Nobody can send the guardian an envelope.
    pub nobody : (a : ActorReport) → slice_get report.actors.items 0 ≡ Some a → fates_in a ≡ []
    -- An envelope that an actor sent is never dead as cleaned up.
    pub not_cleaned : (place : ℕ) → place < length directory → All (λ (d : DeadLetter). d.why ≢ why.Cleaned) (dead_letters (answers place))
    -- The sender's order where the receiver's mailbox is first in, first out.
    pub in_order : (place id : ℕ) (e : DirectoryEntry) (a : ActorReport) → place < length report.senders.items → 0 < id → slice_get directory id ≡ Some e
        → slice_get report.actors.items id ≡ Some a → e.discipline ≡ first_in_first_out
        → FatesInSendOrder (sender_number (length directory) place) id (answers place) (fates_in a)
    -- The sender's order of control messages, and of all others, where the mailbox is control-aware.
    pub parts_in_order : (place id : ℕ) (e : DirectoryEntry) (a : ActorReport) → place < length report.senders.items → 0 < id → slice_get directory id ≡ Some e
        → slice_get report.actors.items id ≡ Some a → e.discipline ≡ control_first
        → ArePartsInOrder (sender_number (length directory) place) id (answers place) (fates_in a)
    -- Of a control-aware mailbox control messages are left before all others.
    pub left_in_parts : (id : ℕ) (e : DirectoryEntry) (a : ActorReport) → slice_get directory id ≡ Some e → slice_get report.actors.items id ≡ Some a
        → e.discipline ≡ control_first → IsControlsFirst a.left.items
    -- Only the mailbox of an actor that ended is cleaned up, and envelopes are left only for an actor that ended or is suspended.
    pub cleaned : (id : ℕ) (a : ActorReport) → slice_get report.actors.items id ≡ Some a → a.cleaned.items ≢ [] → a.phase ≡ EndedPhase
    pub left : (id : ℕ) (a : ActorReport) → slice_get report.actors.items id ≡ Some a → a.left.items ≢ [] → (a.phase ≡ EndedPhase) ⊎ (0 < a.count)
