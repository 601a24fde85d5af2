-- What holds of a claim between two steps of its run (`akka.dispatch.Mailbox.run`; what is kept beside a cell is this project's own profile).
use Rattle.std.specs.Prelude.{◌≡◌, ◌<◌, ◌+◌, ℕ, false, MatchBool, List, [], ◌++◌, ◌⊎◌, length}
use Rattle.std.specs.Global.{Box}
use Rattle.mb_msg.specs.declared.system.SysMsg.{SysMsg}
use Rattle.mb_actor.specs.Behaviour.{Moment, Reply}
use Rattle.mb_journal.specs.Acts.{Act}
use Rattle.mb_ghost.specs.Seen.{Each}
use Rattle.mb_ghost.specs.Summed.{total}
use Rattle.mb_gate.specs.Rule.{IsAmong}
use Rattle.mb_gate.specs.View.{Observation, Read}
use Rattle.mb_gate.specs.Waiting.{counted_off}
use Rattle.mb_home.specs.AtHome.{closed_receivers, given_of, mailbox_at, system_entries}
use Rattle.mb_home.specs.Carried.{Leads}
use Rattle.mb_home.specs.Contents.{Contents}
use Rattle.mb_home.specs.NamedActors.{NamesActors, SendsBelow}
use Rattle.mb_home.specs.AgreesWithJournal.{AgreesWithJournal}
use Rattle.mb_home.specs.Steps.{HasNoBacklog}
use Rattle.mb_gate.specs.Untouched.{Origin}
use Rattle.mb_mailbox.specs.Loaded.{loaded_words}
use Rattle.mb_mailbox.specs.OnlyDrained.{TakesOnlyDrained}
use Rattle.mb_mailbox.specs.Emptied.{TakesOn}
use Rattle.mb_mailbox.specs.RunSends.{given_by, listed_by}
use Rattle.mb_mailbox.specs.RunState.{RunState}
use Rattle.mb_mailbox.specs.SentDue.{HasSentDueExcept}

-- The actor is known to be closed: the home said so when the claim was taken, or the pass or the claim read it.
abbrev pub IsKnownClosedTo : List Observation → RunState → ℕ → Type 0
IsKnownClosedTo seen hold other = IsAmong other hold.closed_to ⊎ IsAmong (Read other 1) (seen ++ hold.log)

-- The claim knows that the list gave each of these messages.
abbrev pub WereDrained : RunState → List (ℕ × SysMsg) → Type 0
WereDrained hold messages = Each (λ m. IsAmong m hold.drained) messages

-- The claim is of one of the actors of these gates, and what lies at its home is that actor's own, with the same directory of actors as the gates'
-- first home. The home agrees with its journal, and the status and the system messages that were sent are what the journal says, but for these acts,
-- which are still to be carried out. The home and these acts name only actors of these gates. Each actor that the home says is closed is known to be.
-- The claim knows that the list gave each system message that has an entry, is left beside the cell, or was drained by the claim's own seat. Each
-- envelope was taken right after a load of an open status word, when no system message was left to be drained, or cleaned up. The claim's seat put
-- nothing into a list, owes nothing, has no share, gave no cell back, and got no claim.
pub record IsRunning (gives : ℕ → Moment → Reply → Type 0) (origin : Origin (Box Contents)) (pending : List Act) (seen : List Observation) (hold : RunState)
    : Type 0 where
  pub same_gates : hold.gates ≡ origin.gates
  pub present : hold.actor < origin.actors
  pub directory : hold.home.directory ≡ origin.first.value.directory
  pub number : hold.home.cell.who.this.0 ≡ hold.actor
  pub settled : AgreesWithJournal (gives hold.actor) pending hold.home
  pub leads : Leads hold.status pending (mailbox_at hold.home.cell.who hold.home.cell.journal)
  pub told : HasSentDueExcept hold.home.cell.who hold.actor hold.status.closed hold.home.cell.journal hold.before pending hold.recorded
  pub known_closed : Each (IsKnownClosedTo seen hold) (closed_receivers hold.home.dead)
  pub entered : WereDrained hold (system_entries hold.home.cell.journal)
  pub left : WereDrained hold hold.home.rest
  pub logged : WereDrained hold (given_by hold.log)
  pub same_count : hold.home.cell.who.actors ≡ origin.actors
  pub named : NamesActors hold.home
  pub sends : SendsBelow origin.actors pending
  pub only_drained : TakesOnlyDrained hold.actor hold.log
  pub puts_nothing : listed_by hold.log ≡ []
  pub owes_nothing : hold.obligations ≡ []
  pub bare : hold.share ≡ []
  pub none_released : hold.releases ≡ []
  pub none_got : hold.got ≡ []
  pub none_returned : hold.returned ≡ []

-- What was drained and not applied agrees with what the claim knows: the home knows how many messages the list gave. Beside the cell of an open actor
-- something is left only if the last drain gave something; beside that of a closed one nothing is.
pub record BacklogAgrees (hold : RunState) : Type 0 where
  pub count : given_of hold.home ≡ hold.given
  pub rest : MatchBool hold.status.closed (hold.home.rest ≡ []) (hold.gave ≡ false → HasNoBacklog hold.home)

-- How many envelopes of its actor the claim's own seat counted as taken.
abbrev pub counted_by : RunState → ℕ
counted_by hold = total (counted_off hold.actor) hold.log

-- The run is of the same actor and started from the same journal. Its pass took envelopes, if any, and as many were counted as taken as came out of
-- the queue.
pub record SameRun (old new : RunState) : Type 0 where
  pub actor : new.actor ≡ old.actor
  pub who : new.home.cell.who ≡ old.home.cell.who
  pub before : new.before ≡ old.before
  pub takes : TakesOn old.home.take new.home.take
  pub counted : length new.home.take.taken + counted_by old ≡ length old.home.take.taken + counted_by new

-- The run is the same, nothing was added to the journal, and no envelope was taken to begin it.
pub record KeepsJournal (old new : RunState) : Type 0 where
  pub same : SameRun old new
  pub journal : new.home.cell.journal ≡ old.home.cell.journal
  pub loaded : loaded_words new.log ≡ loaded_words old.log
