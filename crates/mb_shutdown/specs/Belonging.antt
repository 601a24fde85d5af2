-- What belongs to a system, and whether all of it is there at the end.
use Rattle.std.specs.Prelude.{◌≡◌, ℕ, ◌-◌, ◌<◌, ◌∷◌, List, All, Contains, length, slice_get, Some}
use Rattle.mb_msg.specs.Limits.{most_actors}
use Rattle.mb_journal.specs.declared.sent_envelope.SentEnvelope.{SentEnvelope}
use Rattle.mb_gate.specs.Accessors.{actors_of, first_home, pass_view, pass_id}
use Rattle.mb_gate.specs.Rule.{IsPart}
use Rattle.mb_gate.specs.View.{Observation, View}
use Rattle.mb_home.specs.Directory.{DirectoryEntry}
use Rattle.mb_queue.specs.Passes.{SendPassView, first_in_first_out}
use Rattle.mb_send.specs.declared.send_log.SendLog.{SendLog}
use Rattle.mb_shutdown.specs.Idle.{WereReadIdle}
use Rattle.mb_shutdown.specs.declared.finished_sender.FinishedSender.{FinishedSender}
use Rattle.mb_system.specs.declared.built.Built.{Built}
use Rattle.mb_system.specs.declared.handle.WorkerHandle.{WorkerHandle}
use Rattle.mb_system.specs.Members.{OutsideSender}

-- The directory of a system's actors.
abbrev pub directory_of : {A K : Type 0} → Built A K → List DirectoryEntry
directory_of built = (first_home built.system.gates).value.directory

-- The mailbox of this actor in the directory is first in, first out.
abbrev pub IsFifoIn : List DirectoryEntry → ℕ → Type 0
IsFifoIn directory id = (e : DirectoryEntry) × (slice_get directory id ≡ Some e) × (e.discipline ≡ first_in_first_out)

-- All numbers below this one stand in the list.
abbrev pub AreThere : ℕ → List ℕ → Type 0
AreThere many there = (n : ℕ) → n < many → Contains there n

-- Of so many numbers this one is the least that is missing.
pub record IsLeastMissing (many : ℕ) (there : List ℕ) (number : ℕ) : Type 0 where
  pub within : number < many
  pub missing : Contains there number → ⊥
  pub least : AreThere number there

-- What came of a sender: its passes and its log.
abbrev pub brought : FinishedSender → List SendPassView × SendLog
brought o = (o.sends.items, o.send_log)

-- What a sender has at the end: its passes and its log.
abbrev pub brings : OutsideSender → List SendPassView × SendLog
brings s = (s.sends.items, s.send_log)

-- What the senders were answered, in the order of their numbers, each for all that it sent.
pub record AreAnswers (many : ℕ) (senders : List OutsideSender) (answers : List (List SentEnvelope)) : Type 0 where
  pub length_is : length answers ≡ many
  pub each : All (λ (s : OutsideSender). slice_get answers (s.send_log.by.0 - most_actors) ≡ Some s.send_log.posted) senders

-- The passes of the senders, in the order of their numbers.
pub record AreSendPasses (many : ℕ) (senders : List OutsideSender) (send_passes : List (List SendPassView)) : Type 0 where
  pub length_is : length send_passes ≡ many
  pub each : All (λ (s : OutsideSender). slice_get send_passes (s.send_log.by.0 - most_actors) ≡ Some s.sends.items) senders

module _ {A K : Type 0} where
  -- All that workers' handles and senders saw is among this.
  abbrev pub HasAllSeen : Built A K → List Observation → Type 0
  HasAllSeen built log = All (λ (e : WorkerHandle A K). IsPart (pass_view e.registrar.pass).log log) built.handles.items
      × All (λ (s : OutsideSender). IsPart (pass_view s.registrar.pass).log log) built.senders.items

  -- All is as it was, but that the first handle has read more.
  pub record OnlyFirstHandleRead (old new : Built A K) (before after : View) : Type 0 where
    pub system : new.system ≡ old.system
    pub senders : new.senders.items ≡ old.senders.items
    pub first : WorkerHandle A K
    pub first' : WorkerHandle A K
    pub rest : List (WorkerHandle A K)
    pub was : old.handles.items ≡ (first ∷ rest)
    pub is : new.handles.items ≡ (first' ∷ rest)
    pub others : (first'.number ≡ first.number) × (first'.registrar.run_queue ≡ first.registrar.run_queue) × (first'.registrar.owed ≡ first.registrar.owed)
        × (first'.taken ≡ first.taken)
    pub same_gates : pass_id first'.registrar.pass ≡ pass_id first.registrar.pass
    pub knew : pass_view first.registrar.pass ≡ before
    pub knows : pass_view first'.registrar.pass ≡ after

  -- The first handle has read more, what its view was before and after it is so related, and all else is as it was.
  abbrev pub HasRead : (View → View → Type 0) → Built A K → Built A K → Type 0
  HasRead Reads old new = (before : View) × (after : View) × OnlyFirstHandleRead old new before after × Reads before after

  -- The first handle read of each actor that it had nothing to run, and what it read is among this.
  pub record WasFoundIdle (built : Built A K) (log : List Observation) : Type 0 where
    pub first : WorkerHandle A K
    pub rest : List (WorkerHandle A K)
    pub are : built.handles.items ≡ (first ∷ rest)
    pub read : View
    pub settled : WereReadIdle 0 (actors_of built.system.gates) (pass_view first.registrar.pass) read
    pub among : IsPart read.log log

  -- Each actor could be read as having nothing to run, and these readings are among all that handles and senders saw.
  abbrev pub AllFoundIdle : Built A K → Type 0
  AllFoundIdle built = (log : List Observation) × HasAllSeen built log × WasFoundIdle built log
