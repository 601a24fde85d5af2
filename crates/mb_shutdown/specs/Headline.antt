-- The headline of this project, in five parts. A state is what all threads share between any two of their atomic steps.
use Rattle.std.specs.Prelude.{◌≡◌, ℕ, ◌+◌, ◌<◌, ℤ, false, Bool, List, ◌∷◌, ◌++◌, Contains, Some, count_by, length, map, slice_get}
use Rattle.std.specs.Global.{Box}
use Rattle.mb_status.specs.Mailbox.{word_of}
use Rattle.mb_msg.specs.declared.envelope.Envelope.{Envelope}
use Rattle.mb_actor.specs.Behaviour.{Moment, Reply}
use Rattle.mb_actor.specs.declared.message.Message.{Message}
use Rattle.mb_journal.specs.Accepted.{accepted, envelopes_of, is_same_name, sent_by, to_actor, without_named}
use Rattle.mb_journal.specs.Entry.{Entry}
use Rattle.mb_journal.specs.Entry.Entry.{Handled, System, Dropped}
use Rattle.mb_journal.specs.Identity.{Identity}
use Rattle.mb_journal.specs.Lawful.{IsLawful}
use Rattle.mb_journal.specs.Life.{closed}
use Rattle.mb_journal.specs.Reading.{IsOpen}
use Rattle.mb_journal.specs.Suspension.{count}
use Rattle.mb_journal.specs.declared.sent_envelope.SentEnvelope.{SentEnvelope}
use Rattle.mb_home.specs.AtHome.{mailbox_at}
use Rattle.mb_home.specs.Contents.{Contents}
use Rattle.mb_home.specs.Directory.{DirectoryEntry}
use Rattle.mb_report.specs.declared.report.ActorReport.{ActorReport}
use Rattle.mb_report.specs.declared.report.Report.{Report}
use Rattle.mb_report.specs.declared.report.SenderReport.{SenderReport}
use Rattle.mb_system.specs.declared.built.Built.{Built}
use Rattle.mb_shutdown.specs.Belonging.{AreAnswers, IsFifoIn, directory_of}
use Rattle.mb_shutdown.specs.CompleteReport.{IsReportOf, fates_in, sender_number, told_by_each}
use Rattle.mb_shutdown.specs.GateStates.{GatesState, Holds, IsFree, IsInSlot, IsStateOf, status_word}
use Rattle.mb_shutdown.specs.NothingToRun.{NobodyHasToRun}

-- After these entries the envelope was begun at a status that is neither closed nor suspended. The entries say so, and so does the status word that the
-- entry keeps, which is theirs.
abbrev pub IsBegunOpen : Identity → List Entry → Entry → Type 0
IsBegunOpen who before (Handled envelope reading outcome) = IsOpen who before reading
IsBegunOpen who before (Dropped envelope) = (closed who before ≡ false) × (count who before ≡ 0)
IsBegunOpen who before (System number message outcome) = Unit {0}

-- Each envelope that this sender sent to this receiver stands exactly once among the receiver's fates (begun, cleaned up or left) or the dead letters.
-- Nothing else of the sender's does. The fates have the sender's order, where the mailbox is first in, first out.
pub record HasOneFate (by to : ℕ) (sent dead fates : List Envelope) (IsFifo : Type 0) : Type 0 where
  pub once : (e : Envelope) → Contains sent e → e.to.0 ≡ to → count_by (is_same_name e) fates + count_by (is_same_name e) (to_actor to dead) ≡ 1
  pub alone : (test : Envelope → Bool) → count_by test (to_actor to sent) ≡ count_by test (sent_by by fates) + count_by test (to_actor to dead)
  pub in_order : IsFifo → sent_by by fates ≡ to_actor to (without_named dead sent)

module _ (actors : List Identity) (report : Report) where
  -- So each envelope was begun that the report shows as handled or dropped by one of these actors.
  abbrev pub BegunOpen : Type 0
  BegunOpen = (id : ℕ) (who : Identity) (a : ActorReport) (newer before : List Entry) (entry : Entry) → slice_get actors id ≡ Some who
      → slice_get report.actors.items id ≡ Some a → a.journal.entries ≡ newer ++ entry ∷ before → IsBegunOpen who before entry

  -- The same of each sender and each receiver but the guardian. The actors sent what their journals tell, and the senders outside sent this.
  pub record OneFate (IsFifo : ℕ → Type 0) (outside : List (List Envelope)) : Type 0 where
    pub same_count : (length report.actors.items ≡ length actors) × (length report.senders.items ≡ length actors + length outside)
    pub each : (place id : ℕ) (sent : List Envelope) (s : SenderReport) (a : ActorReport)
        → slice_get (told_by_each actors report.actors.items ++ outside) place ≡ Some sent → slice_get report.senders.items place ≡ Some s → 0 < id
        → slice_get report.actors.items id ≡ Some a
        → HasOneFate (sender_number (length actors) place) id sent (envelopes_of s.dead.items) (fates_in a) (IsFifo id)

module _ {A K : Type 0} (after : ℕ → List Message → ℤ) (gives : ℕ → Moment → Reply → Type 0) (built : Built A K) (report : Report) where
  abbrev actors : List Identity
  actors = map (λ (e : DirectoryEntry). e.who) (directory_of built)

  -- The headline, of the gates of this system and of the report with which it ended.
  pub record Headline : Type 0 where
    -- In no state do two parties hold the same actor.
    pub one_holder : (state : GatesState) (actor p q : ℕ) → IsStateOf gives built.system.gates state → actor < length actors
        → Holds state p actor → Holds state q actor → p ≡ q
    -- Nobody holds an actor exactly if a home lies in its slot. The home's journal is one that the actor can have, and says the status word, which is not
    -- scheduled. What is reported of an actor is what its journal says: its content is that of the actor handed in after the messages since its last start.
    pub free_is_fold : ((state : GatesState) (actor : ℕ) → IsStateOf gives built.system.gates state → actor < length actors
        → (IsFree state actor → (home : Box Contents) × IsInSlot state actor home)
        × ((home : Box Contents) → IsInSlot state actor home → IsFree state actor × IsLawful home.value.cell.who (gives actor) home.value.cell.journal
        × (status_word state actor ≡ word_of (mailbox_at home.value.cell.who home.value.cell.journal))))
        × ((id : ℕ) (who : Identity) (a : ActorReport) → slice_get actors id ≡ Some who → slice_get report.actors.items id ≡ Some a → IsReportOf after gives who a)
    -- Each envelope that a journal shows as begun was begun at a status that is neither closed nor suspended, and that is the one of the entries before it.
    pub begun_open : BegunOpen actors report
    -- Each accepted envelope has one fate, in its sender's order where the mailbox is first in, first out.
    pub one_fate : (outside : List (List SentEnvelope)) → AreAnswers built.system.senders built.senders.items outside
        → OneFate actors report (IsFifoIn (directory_of built)) (map accepted outside)
    -- The system is at rest: no actor of the report has anything to run.
    pub at_rest : NobodyHasToRun report
