-- When what is kept beside a cell agrees with its journal.
use Rattle.std.specs.Prelude.{◌≡◌, ℕ, ◌+◌, ◌%◌, ◌^◌, ◌<◌, ◌≤◌, true, false, if◌then◌else◌, List, [], ◌∷◌, ◌++◌, All, length, map, drop, slice_get}
use Rattle.std.specs.Prelude.{Some}
use Rattle.mb_msg.specs.Limits.{most_entries}
use Rattle.mb_msg.specs.declared.dead_letter.DeadLetter.{DeadLetter}
use Rattle.mb_msg.specs.declared.dead_letter.DeadLetterReason.{DeadLetterReason}
use Rattle.mb_msg.specs.declared.dead_letter.DeadLetterReason.TheVariants as why
use Rattle.mb_msg.specs.declared.system.SysMsg.{SysMsg}
use Rattle.mb_syslist.specs.MessageList.{numbered}
use Rattle.mb_actor.specs.Behaviour.{Moment, Reply}
use Rattle.mb_journal.specs.Acts.{Act}
use Rattle.mb_journal.specs.Aside.{aside, next_number}
use Rattle.mb_journal.specs.Entry.{Entry}
use Rattle.mb_journal.specs.Identity.{Identity, is_guardian}
use Rattle.mb_journal.specs.Lawful.{IsLawful}
use Rattle.mb_journal.specs.Life.{closed}
use Rattle.mb_queue.specs.Passes.{SendPassView}
use Rattle.mb_journal.specs.Accepted.{accepted, queued, dead_letters, to_actor}
use Rattle.mb_journal.specs.Fates.{begun}
use Rattle.mb_journal.specs.Tells.{AddressedBody, tells, told, envelopes_from}
use Rattle.mb_journal.specs.declared.sent_envelope.SentEnvelope.{SentEnvelope}
use Rattle.mb_home.specs.Contents.{Contents}
use Rattle.mb_home.specs.Directory.{DirectoryEntry, queues_of, IsBounded}

-- The home is of the actor that stands in the directory at the cell's number: the cell has its identity; the take pass is of its queue and takes by
-- its discipline; and the send passes push for it into the queues of the other actors, in order. Nobody pushes into the guardian's queue.
pub record IsOwn (h : Contents) : Type 0 where
  pub enrolled : slice_get h.directory h.cell.who.this.0 ≡ Some (record { who = h.cell.who; queue = h.take.queue; discipline = h.take.discipline })
  pub all_there : h.cell.who.actors ≡ length h.directory
  pub within_limit : h.cell.who.limit ≤ most_entries
  pub not_zero : is_guardian h.cell.who ≡ false → 0 < h.cell.who.this.0
  pub queues : map (λ (p : SendPassView). p.queue) h.sends ≡ drop 1 (queues_of h.directory)
  pub by : All (λ (p : SendPassView). p.by ≡ h.cell.who.this.0) h.sends
  pub receivers : (place : ℕ) (p : SendPassView) → slice_get h.sends place ≡ Some p → p.queue.to ≡ place + 1
  pub receiver : h.take.queue.to ≡ h.cell.who.this.0
  pub nobody : is_guardian h.cell.who ≡ true → h.take.queue.senders ≡ []

-- Each of what these acts tell goes to an actor that has a queue to push into, and there is room for all as dead letters.
pub record IsFit (pending : List Act) (h : Contents) : Type 0 where
  pub present : All (λ (t : AddressedBody). (0 < t.0.0) × (t.0.0 ≤ length h.sends)) (tells pending)
  pub room : length (tells pending) ≤ h.room

-- What an actor told agrees with what is kept of it, while these acts are still to be carried out. What it was answered, in the order of the numbers,
-- followed by what these acts tell, is all that its journal tells. What was queued was pushed, each to its receiver, in order; what is dead stands
-- among its dead letters, in order; and all are counted.
pub record IsPosted (pending : List Act) (h : Contents) : Type 0 where
  pub postings : List SentEnvelope
  pub told : accepted postings ++ envelopes_from h.cell.who.this.0 (length postings) (tells pending) ≡ told h.cell.who h.cell.journal
  pub sent : h.sent ≡ length postings % 2 ^ 64
  pub pushed : (place : ℕ) (p : SendPassView) → slice_get h.sends place ≡ Some p → p.pushed ≡ to_actor (place + 1) (queued postings)
  pub dead : h.dead ≡ dead_letters postings

-- The messages without their numbers.
abbrev pub messages_in : List (ℕ × SysMsg) → List SysMsg
messages_in = map (λ (m : ℕ × SysMsg). m.1)

-- How many messages were set aside when the actor ended, with its last entry.
abbrev pub aside_at_end : Identity → List Entry → ℕ
aside_at_end who [] = 0
aside_at_end who (e ∷ before) = if closed who (e ∷ before) then length (aside who before) else 0

-- The system messages that came are counted: those that have an entry, and those that were dropped once the actor ended. What is drained and not
-- applied is numbered on from these. All that were set aside when the actor ended are counted.
pub record CountsSystemMessages (h : Contents) : Type 0 where
  pub rest : h.rest ≡ numbered ((next_number h.cell.journal + h.dropped) % 2 ^ 64) (messages_in h.rest)
  pub aside : h.aside_dead ≡ aside_at_end h.cell.who h.cell.journal
  pub none : closed h.cell.who h.cell.journal ≡ false → h.dropped ≡ 0

-- Why a sent envelope may be a dead letter: as full only where its receiver's queue has a bound, and never as cleaned up.
abbrev pub IsReason : List DirectoryEntry → DeadLetterReason → ℕ → Type 0
IsReason directory why.Closed to = Unit {0}
IsReason directory why.Full to = IsBounded directory to
IsReason directory why.NoMemory to = Unit {0}
IsReason directory why.Cleaned to = ⊥

-- The home is the actor's own, the cell's journal is one that it can have, and what is kept beside the cell agrees with the journal but for these
-- acts, which are still to be carried out: what was taken was begun or cleaned up, in order; what was told was pushed or is a dead letter, for a
-- right reason; nothing is cleaned up unless the actor ended; and the system messages are counted.
pub record AgreesWithJournal (gives : Moment → Reply → Type 0) (pending : List Act) (h : Contents) : Type 0 where
  pub is_own : IsOwn h
  pub lawful : IsLawful h.cell.who gives h.cell.journal
  pub taken : h.take.taken ≡ begun h.cell.journal ++ h.cleaned
  pub open_keeps : closed h.cell.who h.cell.journal ≡ false → h.cleaned ≡ []
  pub fit : IsFit pending h
  pub posted : IsPosted pending h
  pub counted : CountsSystemMessages h
  pub reasons : All (λ (d : DeadLetter). IsReason h.directory d.why d.envelope.to.0) h.dead
