-- What was asked for arrives: the system messages of a run, in the journals of the actors that have not ended (this project's own profile: Akka keeps
-- no record of system messages).
use Rattle.std.specs.Prelude.{◌≡◌, ◌⊎◌, ◌+◌, ◌==◌, if◌then◌else◌, ℕ, true, Contains, List, [], ◌∷◌, ◌++◌, Some, map, slice_get}
use Rattle.mb_actor.specs.declared.phase.Phase.TheVariants.{Ended}
use Rattle.mb_build.specs.Planned.{actors_in}
use Rattle.mb_ghost.specs.Summed.{total}
use Rattle.mb_home.specs.AtHome.{system_entries}
use Rattle.mb_journal.specs.Aside.{next_number}
use Rattle.mb_journal.specs.Entry.{Entry}
use Rattle.mb_journal.specs.Entry.Entry.{Handled, System, Dropped}
use Rattle.mb_journal.specs.Identity.{Identity}
use Rattle.mb_journal.specs.Life.{has_ending, has_start, spawned}
use Rattle.mb_msg.specs.declared.actor_plan.ActorPlan.{ActorPlan}
use Rattle.mb_msg.specs.declared.id.ActorId.{ActorId}
use Rattle.mb_msg.specs.declared.order.Order.{Order}
use Rattle.mb_msg.specs.declared.plan.Plan.{Plan}
use Rattle.mb_msg.specs.declared.system.SysMsg.{SysMsg}
use Rattle.mb_msg.specs.declared.system.SysMsg.TheVariants.{Died, Terminate}
use Rattle.mb_report.specs.declared.report.ActorReport.{ActorReport}
use Rattle.mb_report.specs.declared.report.Report.{Report}
use Rattle.heddleorange.specs.Asked.{IsAskedFor, asked_for, measure_to}

-- The system messages that have an entry in this journal, the newest first. One that was set aside and applied later stands twice.
abbrev pub entered : List Entry → List SysMsg
entered journal = map (λ (m : ℕ × SysMsg). m.1) (system_entries journal)

-- The system messages that came to the actor, each once, in order: those whose number is the next new one.
abbrev pub came : List Entry → List SysMsg
came [] = []
came (System number message outcome ∷ before) = if number == next_number before then came before ++ message ∷ [] else came before
came (Handled envelope reading outcome ∷ before) = came before
came (Dropped envelope ∷ before) = came before

-- All children that the entries of this journal added, in order.
abbrev pub all_spawned : Identity → List Entry → List ActorId
all_spawned who [] = []
all_spawned who (e ∷ before) = all_spawned who before ++ spawned who e before

-- The actor was started, or has ended.
abbrev pub IsStartedOrEnded : ActorReport → Type 0
IsStartedOrEnded a = (a.phase ≡ Ended) ⊎ (has_start a.journal.entries ≡ true)

-- Each system message that was asked for has an entry in the journal of the actor that it was for, unless that actor has ended.
abbrev pub EachAskedForArrives : Plan → List (List Order) → Report → Type 0
EachAskedForArrives plan orders report = (m : ℕ × SysMsg) (a : ActorReport) → IsAskedFor plan orders report m → slice_get report.actors.items m.0 ≡ Some a
    → (a.phase ≡ Ended) ⊎ Contains (entered a.journal.entries) m.1

-- By each measure of messages, the system messages that came to an actor come to exactly what was asked for to it, unless the actor has ended. Notices
-- of an end have no measure here.
abbrev pub EachGetsWhatIsAskedFor : Plan → List (List Order) → Report → Type 0
EachGetsWhatIsAskedFor plan orders report = (id : ℕ) (a : ActorReport) → slice_get report.actors.items id ≡ Some a
    → (a.phase ≡ Ended) ⊎ ((measure : SysMsg → ℕ) → ((ended : ActorId) → measure (Died ended) ≡ 0)
    → total measure (came a.journal.entries) ≡ total (measure_to id measure) (asked_for plan orders report))

-- The guardian was started, or has ended.
abbrev pub GuardianIsStarted : Report → Type 0
GuardianIsStarted report = (guardian : ActorReport) → slice_get report.actors.items 0 ≡ Some guardian → IsStartedOrEnded guardian

-- Each actor that a sender outside or an actor was to stop applied a Terminate: it is ending, or has ended.
abbrev pub EachStopArrives : Plan → List (List Order) → Report → Type 0
EachStopArrives plan orders report = (to : ℕ) (a : ActorReport) → IsAskedFor plan orders report (to, Terminate)
    → slice_get report.actors.items to ≡ Some a → has_ending a.journal.entries ≡ true

-- Each child that an entry of an actor's journal added was started, or has ended.
abbrev pub EachSpawnedIsStarted : Plan → Report → Type 0
EachSpawnedIsStarted plan report = (id : ℕ) (who : Identity) (parent : ActorReport) (child : ActorId) (a : ActorReport)
    → slice_get (actors_in plan) id ≡ Some who → slice_get report.actors.items id ≡ Some parent → Contains (all_spawned who parent.journal.entries) child
    → slice_get report.actors.items child.0 ≡ Some a → IsStartedOrEnded a

-- Each actor whose parent is the guardian was started, or has ended, unless the guardian has ended. The first actor of the plan has number 1.
abbrev pub EachOfTheGuardianIsStarted : Plan → Report → Type 0
EachOfTheGuardianIsStarted plan report = (place : ℕ) (planned : ActorPlan) (guardian a : ActorReport)
    → slice_get plan.actors.items place ≡ Some planned → planned.parent.0 ≡ 0 → slice_get report.actors.items 0 ≡ Some guardian
    → slice_get report.actors.items (1 + place) ≡ Some a → (guardian.phase ≡ Ended) ⊎ IsStartedOrEnded a
