-- One run of an actor's mailbox (`akka.dispatch.Mailbox.run`, `processAllSystemMessages` and `processMailbox`).
use Rattle.std.specs.Prelude.{◌≡◌, ℕ, ◌<◌, ◌≤◌, max, suc, IsFalse, IsTrue, IfSome, true, List, ◌∷◌, None}
use Rattle.mb_msg.specs.declared.system.SysMsg.{SysMsg}
use Rattle.mb_status.specs.Mailbox.{mailbox_of, is_valid, should_process}
use Rattle.mb_journal.specs.Aside.{next_front}
use Rattle.mb_journal.specs.Entry.{Entry, Outcome}
use Rattle.mb_journal.specs.Entry.Entry.{Handled, System, Dropped}
use Rattle.mb_journal.specs.Identity.{Identity}
use Rattle.mb_journal.specs.Life.{closed}
use Rattle.mb_journal.specs.Reading.{IsOpen}
use Rattle.mb_journal.specs.Suspension.{count}

-- the second journal is the first with system messages added. Where a message that was set aside is due, it is the next
-- (`Mailbox.processAllSystemMessages`; setting aside is this project's own profile)
pub data IsBlock (who : Identity) (from : List Entry) : List Entry → Type 0 where
  no_more : IsBlock who from from
  one_more : (to : List Entry) (number : ℕ) (m : SysMsg) (outcome : Outcome) →
      IsBlock who from to → IfSome (next_front who to) (λ front. front ≡ (number, m)) → IsBlock who from (System number m outcome ∷ to)

-- the entry is that of an envelope
abbrev pub IsOfEnvelope : Entry → Type 0
IsOfEnvelope (Handled envelope reading outcome) = Unit {0}
IsOfEnvelope (System number m outcome) = ⊥
IsOfEnvelope (Dropped envelope) = Unit {0}

-- the second journal is the first with a block of system messages added, and then, this many times, an envelope and a
-- block. Before an envelope no system message that was set aside is due
pub data AreBlocks (who : Identity) (from : List Entry) : ℕ → List Entry → Type 0 where
  first_block : (to : List Entry) → IsBlock who from to → AreBlocks who from 0 to
  next_block : (n : ℕ) (middle to : List Entry) (e : Entry) →
      AreBlocks who from n middle → next_front who middle ≡ None → IsOfEnvelope e → IsBlock who (e ∷ middle) to → AreBlocks who from (suc n) to

-- why a run stopped: the throughput was used up; the status word that was read was not open; the word that was read was
-- open, but there was no envelope; the mailbox was closed; or there was no room for a message, in the journal or in memory
pub data Stopped : Type 0 where
  UsedUp : Stopped
  NotOpen : ℕ → Stopped
  NoEnvelope : ℕ → Stopped
  AtClosing : Stopped
  NoRoom : Stopped

-- the word is a valid one that was not open, but closed or suspended, and it is the one of the journal
pub record IsShut (who : Identity) (journal : List Entry) (word : ℕ) : Type 0 where
  pub valid : IsTrue (is_valid word)
  pub not_open : IsFalse (should_process (mailbox_of word))
  pub same_count : (mailbox_of word).count ≡ count who journal
  pub same_closing : (mailbox_of word).closed ≡ closed who journal

-- how many envelopes a run handles at most: a throughput of 0 counts as 1
abbrev pub most_envelopes : ℕ → ℕ
most_envelopes throughput = max throughput 1

-- the reason is true of a run that handled this many envelopes and left this journal. Unless the mailbox was closed or
-- there was no room, no system message that was set aside is due at the end
abbrev pub IsReason : Identity → ℕ → ℕ → List Entry → Stopped → Type 0
IsReason who throughput n to UsedUp = (n ≡ most_envelopes throughput) × (next_front who to ≡ None)
IsReason who throughput n to (NotOpen word) = (n < most_envelopes throughput) × IsShut who to word × (next_front who to ≡ None)
IsReason who throughput n to (NoEnvelope word) = (n < most_envelopes throughput) × IsOpen who to word × (next_front who to ≡ None)
IsReason who throughput n to AtClosing = closed who to ≡ true
IsReason who throughput n to NoRoom = Unit {0}

-- a run from one journal to another, and why it stopped: a block, then at most as many envelopes as the throughput
-- allows, each with a block after it; fewer only for a reason
pub record IsRun (who : Identity) (throughput : ℕ) (from to : List Entry) (stopped : Stopped) : Type 0 where
  pub envelopes : ℕ
  pub blocks : AreBlocks who from envelopes to
  pub at_most : envelopes ≤ most_envelopes throughput
  pub reason : IsReason who throughput envelopes to stopped
