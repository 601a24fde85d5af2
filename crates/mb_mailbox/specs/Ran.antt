-- What a run of a mailbox comes to.
use Rattle.std.specs.Prelude.{◌≡◌, ◌≤◌, ◌<◌, ◌⊎◌, ℕ, ◌+◌, ◌==◌, if◌then◌else◌, Bool, true, false, List, [], ◌∷◌, ◌++◌, None}
use Rattle.std.specs.Prelude.{length, reverse, Result, MatchResult, IsErrOf}
use Rattle.std.specs.Global.{Box}
use Rattle.mb_msg.specs.declared.envelope.Envelope.{Envelope}
use Rattle.mb_journal.specs.declared.error.ReadyError.{ReadyError}
use Rattle.mb_journal.specs.declared.error.ReadyError.TheVariants.{JournalFull, NoMemory}
use Rattle.mb_journal.specs.Aside.{next_front}
use Rattle.mb_journal.specs.Entry.{Entry}
use Rattle.mb_journal.specs.Entry.Entry.{Handled, System, Dropped}
use Rattle.mb_journal.specs.Identity.{Identity}
use Rattle.mb_journal.specs.Life.{closed}
use Rattle.mb_journal.specs.Run.{IsReason, IsRun, AreBlocks, Stopped}
use Rattle.mb_journal.specs.Run.Stopped.{UsedUp, NotOpen, NoEnvelope, AtClosing, NoRoom}
use Rattle.mb_queue.specs.Passes.{TakePassView}
use Rattle.mb_journal.specs.Fates.{begun}
use Rattle.mb_ghost.specs.Summed.{total}
use Rattle.mb_gate.specs.declared.claim.Claim.{Claim}
use Rattle.mb_gate.specs.Accessors.{held_actor}
use Rattle.mb_gate.specs.Returned.{GoesOn}
use Rattle.mb_ghost.specs.Seen.{Each}
use Rattle.mb_gate.specs.Rule.{IsAmong}
use Rattle.mb_gate.specs.View.{View, Observation, Release, SentSystem, Saw, Took}
use Rattle.mb_gate.specs.Waiting.{counted_off}
use Rattle.mb_home.specs.Contents.{Contents}
use Rattle.mb_mailbox.specs.declared.turn.Turn.{Turn}
use Rattle.mb_register.specs.Caller.{Caller, IsDischargedOrOwed, TakesOver}
use Rattle.mb_register.specs.Due.{GotDue}
use Rattle.mb_register.specs.Registering.{LosesNoClaim}
use Rattle.mb_register.specs.Views.{IsUnchanged}
use Rattle.mb_mailbox.specs.Loaded.{loaded_words, BeginsAt}
use Rattle.mb_mailbox.specs.OnlyDrained.{DrainedLast, LoadedLast, TakesOnlyDrained}
use Rattle.mb_mailbox.specs.Emptied.{FindsNoMore, IsEmptied}
use Rattle.mb_mailbox.specs.RunState.{RunState}
use Rattle.mb_mailbox.specs.RunSends.{IsSentByRun, ended_in, given_by, listed_by, listed_of, refused_of}

-- How many envelopes of this actor an observation took.
abbrev pub taken_of : ℕ → Observation → ℕ
taken_of actor (Took a n) = if a == actor then n else 0
taken_of actor _ = 0

-- How many of these entries are of system messages.
abbrev pub systems_in : List Entry → ℕ
systems_in [] = 0
systems_in (System number m outcome ∷ before) = systems_in before + 1
systems_in (Handled envelope reading outcome ∷ before) = systems_in before
systems_in (Dropped envelope ∷ before) = systems_in before

-- A run in progress: the journal was extended by blocks of system messages, with an envelope before each but the first, and the run counts both. The
-- envelopes were begun at the status words that were loaded right before they were taken.
pub record CountsRun (hold : RunState) (turn : Turn) : Type 0 where
  pub blocks : AreBlocks hold.home.cell.who hold.before turn.envelopes hold.home.cell.journal
  pub system : turn.system + systems_in hold.before ≡ systems_in hold.home.cell.journal
  pub actor : turn.actor.0 ≡ hold.actor
  pub begins : BeginsAt (loaded_words hold.log) hold.before hold.home.cell.journal

-- A block is at its end: the last drain gave nothing, and no message that was set aside goes before others.
pub record IsDrained (hold : RunState) : Type 0 where
  pub last : DrainedLast hold.actor hold.log
  pub none : next_front hold.home.cell.who hold.home.cell.journal ≡ None

-- There was room for all that the run took.
abbrev pub HadRoom : Stopped → Type 0
HadRoom UsedUp = Unit {0}
HadRoom (NotOpen word) = Unit {0}
HadRoom (NoEnvelope word) = Unit {0}
HadRoom AtClosing = Unit {0}
HadRoom NoRoom = ⊥

-- Unless it was closed or had no room, the run's last step at the actor's list was a drain that gave nothing. If it stopped at a status word or since
-- no envelope was there, it loaded that word right after this drain, and that is its last step at the gates.
abbrev pub EndsDrained : ℕ → List Observation → Stopped → Type 0
EndsDrained actor log UsedUp = DrainedLast actor log
EndsDrained actor log (NotOpen word) = LoadedLast actor word log
EndsDrained actor log (NoEnvelope word) = LoadedLast actor word log
EndsDrained actor log AtClosing = Unit {0}
EndsDrained actor log NoRoom = Unit {0}

-- If it stopped since no envelope was there, its last take found none.
abbrev pub LastTakeFoundNone : TakePassView → TakePassView → Stopped → Type 0
LastTakeFoundNone old new UsedUp = Unit {0}
LastTakeFoundNone old new (NotOpen word) = Unit {0}
LastTakeFoundNone old new (NoEnvelope word) = FindsNoMore old new
LastTakeFoundNone old new AtClosing = Unit {0}
LastTakeFoundNone old new NoRoom = Unit {0}

-- If it stopped since no envelope was there, it had room for one when it asked.
abbrev pub LastTakeHadRoom : Identity → List Entry → Stopped → Type 0
LastTakeHadRoom who journal UsedUp = Unit {0}
LastTakeHadRoom who journal (NotOpen word) = Unit {0}
LastTakeHadRoom who journal (NoEnvelope word) = length journal < who.limit
LastTakeHadRoom who journal AtClosing = Unit {0}
LastTakeHadRoom who journal NoRoom = Unit {0}

-- a block is at its end, or the mailbox is closed
abbrev pub EndsBlock : RunState → Type 0
EndsBlock hold = (hold.status.closed ≡ true) ⊎ IsDrained hold

-- the run stopped for this reason, with so many envelopes
abbrev pub HasStopped : TakePassView → RunState → ℕ → ℕ → Type 0
HasStopped from hold throughput envelopes = (stopped : Stopped) × HadRoom stopped × EndsDrained hold.actor hold.log stopped
    × LastTakeFoundNone from hold.home.take stopped × IsReason hold.home.cell.who throughput envelopes hold.home.cell.journal stopped
    × LastTakeHadRoom hold.home.cell.who hold.home.cell.journal stopped

-- memory can have been refused: the journal has room for an entry, so that one was asked for, or the actor ended, and its envelopes need places
abbrev pub IsShortOfMemory : Identity → List Entry → Type 0
IsShortOfMemory who journal = (length journal < who.limit) ⊎ (closed who journal ≡ true)

-- The run ends with an empty queue, by why it stopped and whether the actor ended: no envelope was there, or all were cleaned up.
abbrev pub EndsEmpty : Stopped → Bool → Type 0
EndsEmpty UsedUp ended = ended ≡ true
EndsEmpty (NotOpen word) ended = ended ≡ true
EndsEmpty (NoEnvelope word) ended = Unit {0}
EndsEmpty AtClosing ended = Unit {0}
EndsEmpty NoRoom ended = ⊥

-- It gave this cell back, and before and after that only cells with the journals with which they were taken.
pub record GivesBackOne (own : Release) (old new : View) : Type 0 where
  pub earlier : List Release
  pub earlier_unchanged : Each IsUnchanged earlier
  pub later : List Release
  pub later_unchanged : Each IsUnchanged later
  pub releases : new.releases ≡ later ++ own ∷ (earlier ++ old.releases)

-- The view, as if it had known these steps before.
abbrev pub with_steps : List Observation → View → View
with_steps steps v = record v { log = v.log ++ steps }

-- No claim is lost but this actor's own, which goes home: of each actor, the pass got as many besides as went into the run queue and as the queue
-- refused, and gave back as many as the queue refused.
abbrev pub LosesNoClaimBut : {H : Type 0} → ℕ → Caller H → Caller H → Type 0
LosesNoClaimBut actor old new = LosesNoClaim old.account new.account (record old.view { returned = actor ∷ old.view.returned }) new.view

-- The claim's actor ran from the journal with which the claim was taken to this one, which the pass has seen. The result names the actor and counts
-- the entries of either kind. The journal with which the claim was taken goes on from each that the pass had seen of the actor. The pass kept its
-- share, and gave the cell back with the new journal, and each other cell as it was taken. It took over the steps of the claim's seat. Among them each
-- that took an envelope, if it was not cleaned up, came right after a load of a status word that was open and not suspended, when no system message was
-- left to be drained. The envelopes of the new entries were begun at these words, one at each. The steps count as many envelopes as taken as were begun
-- and cleaned up. None is cleaned up unless the actor ended. If the run stopped since no envelope was there, or the actor ended and there was room for
-- all, these are all envelopes that the takes gave, and the last take found none; in the first case the journal has room for one more. The system
-- messages that the pass sent are those that the new entries have to send, each that found its list ended answered at once, and, if the actor ended, the
-- answers to what was dropped then; and no others. Those of them that a list took, in their order, are all that was put into lists; and the pass knows
-- of the list of each of the others that it was ended. What the pass knows
-- that lists gave went on by what the actor's list gave in these steps. Each claim that the pass got is of an actor that was due then, by what the
-- pass did and saw itself in the run.
pub record LeavesRun (throughput : ℕ) (claim : Claim (Box Contents)) (old pass : View) (journal : List Entry) (turn : Turn) (stopped : Stopped)
    : Type 0 where
  pub run : IsRun claim.home.value.cell.who throughput claim.home.value.cell.journal journal stopped
  pub actor : turn.actor.0 ≡ held_actor claim
  pub envelopes : run.envelopes ≡ turn.envelopes
  pub system : turn.system + systems_in claim.home.value.cell.journal ≡ systems_in journal
  pub seen : IsAmong (Saw (held_actor claim) journal) pass.log
  pub goes_on : Each (GoesOn (held_actor claim) claim.home.value.cell.journal) old.log
  pub share : pass.share ≡ old.share
  pub gives_back : GivesBackOne (record { actor = held_actor claim; taken = claim.home.value.cell.journal; back = journal }) old pass
  pub steps : List Observation
  pub taken_over : TakesOver old pass steps
  pub got_due : GotDue (with_steps steps old) pass
  pub told : List SentSystem
  pub told_is : IsSentByRun claim.home.value.cell.who (held_actor claim) journal claim.home.value.cell.journal claim.home.value.rest steps told
  pub sent_system : pass.sent_system ≡ reverse told ++ old.sent_system
  pub puts : listed_by pass.log ≡ listed_of (reverse told) ++ listed_by old.log
  pub refused : (to : ℕ) → total (refused_of to) told + total (ended_in to) old.log ≤ total (ended_in to) pass.log
  pub given : given_by pass.log ≡ given_by steps ++ given_by old.log
  pub only_drained : TakesOnlyDrained (held_actor claim) steps
  pub begins : BeginsAt (loaded_words steps) claim.home.value.cell.journal journal
  pub last : EndsDrained (held_actor claim) steps stopped
  pub room : LastTakeHadRoom claim.home.value.cell.who journal stopped
  pub started : List Envelope
  pub started_is : begun journal ≡ begun claim.home.value.cell.journal ++ started
  pub cleaned : List Envelope
  pub none_cleaned : closed claim.home.value.cell.who journal ≡ false → cleaned ≡ []
  pub counted : total (counted_off (held_actor claim)) steps ≡ turn.envelopes + length cleaned
  pub counts : total (taken_of (held_actor claim)) pass.log
      ≡ total (taken_of (held_actor claim)) old.log + turn.envelopes + length cleaned
  pub emptied : EndsEmpty stopped (closed claim.home.value.cell.who journal) → IsEmptied claim.home.value.take (started ++ cleaned)

-- What becomes of the run's own actor: no claim is lost but this actor's own, which goes home, and the caller owes the actor nothing then, or the actor
-- is in its set.
pub record GivesActorBack {H : Type 0} (actor : ℕ) (old new : Caller H) : Type 0 where
  pub claims : LosesNoClaimBut actor old new
  pub discharged : IsDischargedOrOwed actor new

-- What the answer of a run says. If it answers well, it stopped for a reason with room for all that it took; else there was no room. It answers that the
-- journal is full only where it is, and that memory was refused only where that can have been.
pub record AnswersRun (throughput : ℕ) (claim : Claim (Box Contents)) (old new : View) (result : Result Turn ReadyError) : Type 0 where
  pub ran : (journal : List Entry) × MatchResult result
      (λ turn. (stopped : Stopped) × HadRoom stopped × LeavesRun throughput claim old new journal turn stopped)
      (λ _. (turn : Turn) × LeavesRun throughput claim old new journal turn NoRoom
      × (IsErrOf result JournalFull → claim.home.value.cell.who.limit ≤ length journal))
  pub out_of_memory : IsErrOf result NoMemory → (journal : List Entry) × (turn : Turn)
      × LeavesRun throughput claim old new journal turn NoRoom × IsShortOfMemory claim.home.value.cell.who journal
