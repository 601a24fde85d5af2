-- Who is told of an actor's end, and how often (`akka.actor.dungeon.DeathWatch`).
use Rattle.std.specs.Prelude.{◌≡◌, ◌⊎◌, ◌+◌, ◌≤◌, ◌<◌, ℕ, Bool, true, false, if◌then◌else◌, Contains, List, [], ◌∷◌, Some, count_by, length, slice_get}
use Rattle.mb_actor.specs.ActorList.{has, is_same}
use Rattle.mb_actor.specs.declared.effect.Effect.{Effect}
use Rattle.mb_actor.specs.declared.effect.Effect.TheVariants as effect
use Rattle.mb_actor.specs.declared.message.Message.{Message}
use Rattle.mb_actor.specs.declared.message.Message.TheVariants as message
use Rattle.mb_actor.specs.declared.phase.Phase.TheVariants.{Ended}
use Rattle.mb_build.specs.Planned.{actors_in}
use Rattle.mb_ghost.specs.Summed.{total}
use Rattle.mb_journal.specs.Aside.{ever_aside}
use Rattle.mb_journal.specs.Effects.{lasting_effects}
use Rattle.mb_journal.specs.Entry.{Entry}
use Rattle.mb_journal.specs.Identity.{Identity}
use Rattle.mb_journal.specs.Life.{has_ending}
use Rattle.mb_journal.specs.Watching.{watchers}
use Rattle.mb_msg.specs.declared.id.ActorId.{ActorId}
use Rattle.mb_msg.specs.declared.plan.Plan.{Plan}
use Rattle.mb_msg.specs.declared.system.SysMsg.{SysMsg}
use Rattle.mb_msg.specs.declared.system.SysMsg.TheVariants.{Died, Watch}
use Rattle.mb_report.specs.declared.report.ActorReport.{ActorReport}
use Rattle.mb_report.specs.declared.report.Report.{Report}
use Rattle.heddleorange.specs.Answered.{end_of}
use Rattle.heddleorange.specs.Arrived.{entered}
use Rattle.heddleorange.specs.Reading.{handled_messages}

-- The end of the actor with this journal is to be told to this one: it is the actor's parent, or one of those that watch it.
abbrev pub IsToBeTold : Identity → List Entry → ActorId → Type 0
IsToBeTold who journal other = (who.parent ≡ Some other) ⊎ (has (watchers journal) other ≡ true)

-- The end of each actor was told to its parent and to each that watched it when it ended: the notice has an entry in the other's journal, unless the
-- other has ended. An actor that has ended handles no more messages, so that its watchers are those at its end.
abbrev pub EachWatcherIsTold : Plan → Report → Type 0
EachWatcherIsTold plan report = (id : ℕ) (who : Identity) (a : ActorReport) (other : ActorId) (b : ActorReport)
    → slice_get (actors_in plan) id ≡ Some who → slice_get report.actors.items id ≡ Some a → a.phase ≡ Ended
    → IsToBeTold who a.journal.entries other → slice_get report.actors.items other.0 ≡ Some b
    → (b.phase ≡ Ended) ⊎ Contains (entered b.journal.entries) (Died who.this)

-- The message tells of the end of this actor.
abbrev pub is_end_of : ActorId → Message → Bool
is_end_of x (message.Terminated y) = is_same x y
is_end_of x _ = false

-- How often the actor with this journal handled a Terminated of this one.
abbrev pub times_told : ActorId → List Entry → ℕ
times_told x journal = count_by (is_end_of x) (handled_messages journal)

-- How many of these effects watch this actor.
abbrev pub watches_in : ActorId → List Effect → ℕ
watches_in x [] = 0
watches_in x (effect.Watch y ∷ effects) = (if is_same x y then 1 else 0) + watches_in x effects
watches_in x (_ ∷ effects) = watches_in x effects

-- How often the actor with this journal asked to watch this one.
abbrev pub times_watched : ActorId → List Entry → ℕ
times_watched x [] = 0
times_watched x (e ∷ before) = times_watched x before + watches_in x (lasting_effects e)

-- No actor of the report handled more Terminated of another than it asked to watch that one. So whoever asked once is told once at most.
abbrev pub EachTerminatedIsAskedFor : Report → Type 0
EachTerminatedIsAskedFor report = (id : ℕ) (a : ActorReport) (x : ActorId) → slice_get report.actors.items id ≡ Some a
    → times_told x a.journal.entries ≤ times_watched x a.journal.entries

-- How many of these effects stop watching this actor.
abbrev pub unwatches_in : ActorId → List Effect → ℕ
unwatches_in x [] = 0
unwatches_in x (effect.Unwatch y ∷ effects) = (if is_same x y then 1 else 0) + unwatches_in x effects
unwatches_in x (_ ∷ effects) = unwatches_in x effects

-- How often the actor with this journal asked to stop watching this one.
abbrev pub times_unwatched : ActorId → List Entry → ℕ
times_unwatched x [] = 0
times_unwatched x (e ∷ before) = times_unwatched x before + unwatches_in x (lasting_effects e)

-- The message may have come into the actor's list, and the actor ended before its turn: it has no entry, and the report counts more dead system messages
-- of the actor than were set aside.
abbrev pub MayBeLeftOver : ActorReport → SysMsg → Type 0
MayBeLeftOver a message = (length (ever_aside a.journal.entries) < a.dead_system) × (Contains (entered a.journal.entries) message → ⊥)

-- Whoever asked to watch an actor that has ended, and never to stop watching it, is told of that end, whether it asked before the end or after it: the
-- notice has an entry in its journal. That is so unless it is ending or has ended itself, or its Watch may have been left over in the other's list.
abbrev pub EachThatAsksIsTold : Report → Type 0
EachThatAsksIsTold report = (watcher x : ActorId) (b a : ActorReport) → slice_get report.actors.items watcher.0 ≡ Some b
    → slice_get report.actors.items x.0 ≡ Some a → a.phase ≡ Ended → 0 < times_watched x b.journal.entries → times_unwatched x b.journal.entries ≡ 0
    → (has_ending b.journal.entries ≡ true) ⊎ (Contains (entered b.journal.entries) (Died x) ⊎ MayBeLeftOver a (Watch watcher))

-- How often the notice that this actor has ended has an entry in the journal.
abbrev pub times_noticed : ActorId → List Entry → ℕ
times_noticed x journal = total (end_of x.0) (entered journal)

-- The parent of an actor that has ended is told of the end in any case. If it asked to watch the actor, and its Watch did not come to it before the end, it
-- is told twice. That is so unless the parent has ended, or its Watch may have been left over in the other's list.
abbrev pub EachParentThatAsksIsToldAgain : Plan → Report → Type 0
EachParentThatAsksIsToldAgain plan report = (watcher x : ActorId) (who : Identity) (b a : ActorReport) → slice_get (actors_in plan) x.0 ≡ Some who
    → who.parent ≡ Some watcher → slice_get report.actors.items watcher.0 ≡ Some b → slice_get report.actors.items x.0 ≡ Some a → a.phase ≡ Ended
    → 0 < times_watched x b.journal.entries → (Contains (entered a.journal.entries) (Watch watcher) → ⊥)
    → (b.phase ≡ Ended) ⊎ ((2 ≤ times_noticed x b.journal.entries) ⊎ MayBeLeftOver a (Watch watcher))
