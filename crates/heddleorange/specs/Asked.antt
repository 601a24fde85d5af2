-- Who asked for the system messages of a run (this project's own profile: Akka keeps no record of system messages that were sent).
use Rattle.std.specs.Prelude.{◌≡◌, ◌≤◌, ◌==◌, ◌⊎◌, if◌then◌else◌, ℕ, false, Contains, List, [], ◌∷◌, ◌++◌, Some, slice_get}
use Rattle.std.specs.List.{flat_map}
use Rattle.mb_build.specs.Planned.{actors_in}
use Rattle.mb_dispatch.specs.Orders.{terminates_of}
use Rattle.mb_gate.specs.SentSystem.{due_since}
use Rattle.mb_ghost.specs.Seen.{Each}
use Rattle.mb_ghost.specs.Summed.{total}
use Rattle.mb_home.specs.AtHome.{system_entries}
use Rattle.mb_journal.specs.Entry.{Entry}
use Rattle.mb_journal.specs.Identity.{Identity}
use Rattle.mb_journal.specs.Life.{closed}
use Rattle.mb_msg.specs.declared.id.ActorId.{ActorId}
use Rattle.mb_msg.specs.declared.order.Order.{Order}
use Rattle.mb_msg.specs.declared.plan.Plan.{Plan}
use Rattle.mb_msg.specs.declared.system.SysMsg.{SysMsg}
use Rattle.mb_msg.specs.declared.system.SysMsg.TheVariants.{Create, Died}
use Rattle.mb_report.specs.declared.report.ActorReport.{ActorReport}
use Rattle.mb_report.specs.declared.report.Report.{Report}
use Rattle.mb_shutdown.specs.CompleteReport.{CountsSystems}

-- The system messages that an actor with this journal has to send, each with its receiver, the earliest first.
abbrev pub due_in : Identity → List Entry → List (ℕ × SysMsg)
due_in who journal = due_since who journal []

-- The system messages that these actors have to send, as their journals say, each with its receiver.
abbrev pub due_by : List Identity → List ActorReport → List (ℕ × SysMsg)
due_by [] reports = []
due_by (who ∷ actors) [] = []
due_by (who ∷ actors) (a ∷ reports) = due_in who a.journal.entries ++ due_by actors reports

-- All system messages that are asked for in a run, each with its receiver: the guardian's Create, the Terminates that the senders outside are to send,
-- and those that the actors have to send.
abbrev pub asked_for : Plan → List (List Order) → Report → List (ℕ × SysMsg)
asked_for plan orders report = (0, Create) ∷ (flat_map terminates_of orders ++ due_by (actors_in plan) report.actors.items)

-- The measure of a message to this actor; 0 for a message to another.
abbrev pub measure_to : ℕ → (SysMsg → ℕ) → ℕ × SysMsg → ℕ
measure_to to measure m = if m.0 == to then measure m.1 else 0

-- What was put into the actor's list is what is asked for to it. No more was put there: each message that was put there is one of those that are asked
-- for, and none was put there more often. By any measure of messages, those that were put there come to at most as much as those that are asked for to
-- this actor. Notices of an end have no measure here: such a notice also answers a message that found its receiver's list ended, and no journal asks for
-- that answer. No less was put there, unless the actor has ended: each message that is asked for to it was put there, as often as it is asked for; so
-- was each notice of an end that a journal has to send. Of what was put there the report counts all, and each message that has an entry is among it,
-- under the entry's number.
pub record GetsAskedFor (asked : List (ℕ × SysMsg)) (who : Identity) (a : ActorReport) : Type 0 where
  pub counts : CountsSystems [] who a
  pub at_most : (measure : SysMsg → ℕ) → ((ended : ActorId) → measure (Died ended) ≡ 0)
      → total measure counts.pushed ≤ total (measure_to who.this.0 measure) asked
  pub at_least : closed who a.journal.entries ≡ false → (measure : SysMsg → ℕ)
      → total (measure_to who.this.0 measure) asked ≤ total measure counts.pushed

-- This is so of each actor of the report of a run of this plan with these orders.
abbrev pub AllGetAskedFor : Plan → List (List Order) → Report → Type 0
AllGetAskedFor plan orders report = (id : ℕ) (who : Identity) (a : ActorReport) → slice_get (actors_in plan) id ≡ Some who
    → slice_get report.actors.items id ≡ Some a → GetsAskedFor (asked_for plan orders report) who a

-- One of the senders outside is to send this message to this actor.
abbrev pub IsOrdered : List (List Order) → ℕ × SysMsg → Type 0
IsOrdered orders m = (place : ℕ) × (of : List Order) × (slice_get orders place ≡ Some of) × Contains (terminates_of of) m

-- An actor of the report has to send this message to this actor, as its journal says.
abbrev pub IsDue : Plan → Report → ℕ × SysMsg → Type 0
IsDue plan report m = (id : ℕ) × (who : Identity) × (a : ActorReport) × (slice_get (actors_in plan) id ≡ Some who)
    × (slice_get report.actors.items id ≡ Some a) × Contains (due_in who a.journal.entries) m

-- This message to this actor is the guardian's Create, or one that is ordered or due.
abbrev pub IsAskedFor : Plan → List (List Order) → Report → ℕ × SysMsg → Type 0
IsAskedFor plan orders report m = ((m.0 ≡ 0) × (m.1 ≡ Create)) ⊎ (IsOrdered orders m ⊎ IsDue plan report m)

-- This is the notice that an actor has ended.
abbrev pub IsNotice : SysMsg → Type 0
IsNotice message = (ended : ActorId) × (message ≡ Died ended)

-- Each system message that has an entry in the journal of an actor of the report was asked for, or is the notice of an end.
abbrev pub EachIsAskedFor : Plan → List (List Order) → Report → Type 0
EachIsAskedFor plan orders report = (id : ℕ) (a : ActorReport) → slice_get report.actors.items id ≡ Some a
    → Each (λ (m : ℕ × SysMsg). IsNotice m.1 ⊎ IsAskedFor plan orders report (id, m.1)) (system_entries a.journal.entries)
