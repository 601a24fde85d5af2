-- What ties a cell's fields, which are changed in place, to its journal.
use Rattle.std.specs.Prelude.{◌≡◌, ℕ, ◌≤◌, ℤ, Bool, false, List, [], length}
use Rattle.mb_msg.specs.Limits.{most_actors, most_entries}
use Rattle.mb_msg.specs.declared.id.ActorId.{ActorId}
use Rattle.mb_actor.specs.Behaviour.{Moment, Reply, AllowsSame}
use Rattle.mb_actor.specs.OutboxView.{OutboxView}
use Rattle.mb_actor.specs.declared.call.Call.{Call}
use Rattle.mb_actor.specs.declared.message.Message.{Message}
use Rattle.mb_actor.specs.declared.phase.Phase.TheVariants.{Fresh}
use Rattle.mb_journal.specs.Acts.{Act}
use Rattle.mb_journal.specs.Aside.{aside}
use Rattle.mb_journal.specs.Entry.{Entry}
use Rattle.mb_journal.specs.Failure.{failed}
use Rattle.mb_journal.specs.declared.failed_by.FailedBy.TheVariants.{Nobody}
use Rattle.mb_journal.specs.Identity.{Identity, is_guardian}
use Rattle.mb_journal.specs.Incarnation.{messages}
use Rattle.mb_journal.specs.Lawful.{IsLawful, calls, unspawned, was_live}
use Rattle.mb_journal.specs.Life.{phase, children}
use Rattle.mb_journal.specs.Retries.{retry_count}
use Rattle.mb_journal.specs.Suspension.{count}
use Rattle.mb_journal.specs.Watching.{watchers, watching, due}
use Rattle.mb_supervision.specs.CellStateRecord.{CellState}
use Rattle.mb_supervision.specs.RetryCounts.{retry_count_of}

-- the cell's state that a journal says, with these acts
abbrev pub cell_state_at : Identity → List Entry → List (ActorId × ℕ) → List Act → ℕ → Bool → CellState
cell_state_at who journal retries acts fanout is_ready = record {
  phase = phase who journal;
  count = count who journal;
  failed = failed who journal;
  children = children who journal;
  watchers = watchers journal;
  watching = watching who journal;
  due = due who journal;
  aside = aside who journal;
  was_live = was_live who journal;
  retries = retries;
  acts = acts;
  fanout = fanout;
  is_ready = is_ready;
}

-- an actor that was not started has no children, watches nobody and has not failed
pub record IsNotStarted (who : Identity) (journal : List Entry) : Type 0 where
  pub no_children : children who journal ≡ []
  pub none_watched : watching who journal ≡ []
  pub none_due : due who journal ≡ []
  pub not_failed : failed who journal ≡ Nobody

-- the journal is one that the actor can have, the state is what the journal says, and the outbox is ready for the next
-- call: empty, with the children that are left to spawn (`akka.actor.ActorCell` keeps such fields; that they are queries of
-- a journal is this project's own profile)
pub record Agrees (who : Identity) (journal : List Entry) (gives : Moment → Reply → Type 0) (cell_state : CellState) (tray : OutboxView) : Type 0 where
  pub lawful : IsLawful who gives journal
  pub booked : cell_state ≡ cell_state_at who journal cell_state.retries cell_state.acts cell_state.fanout cell_state.is_ready
  pub outbox : tray ≡ record { effects = []; actors = who.actors; unspawned = unspawned who journal }
  pub fresh : phase who journal ≡ Fresh → IsNotStarted who journal
  pub small_limit : who.limit ≤ most_entries
  pub few_prepared : length who.prepared ≤ most_actors
  pub fanout : cell_state.fanout ≡ length who.prepared
  pub counted : (y : ActorId) → retry_count_of cell_state.retries y ≡ retry_count who journal y

-- the actor behaves as that of its number, its content is that of the messages since it last began, and the calls that were
-- made of it are those that the journal records
pub record FollowsBehaviour (who : Identity) (journal : List Entry) (after : List Message → ℤ) (gives : Moment → Reply → Type 0)
    (own_after : List Message → ℤ) (own_gives : Moment → Reply → Type 0) (content : ℤ) (made : List Call) : Type 0 where
  pub no_guardian : is_guardian who ≡ false
  pub same_after : own_after ≡ after
  pub same_gives : AllowsSame own_gives gives
  pub same_content : content ≡ after (messages who journal)
  pub same_calls : made ≡ calls who journal
