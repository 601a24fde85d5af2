-- Who is said to have ended has ended (Akka's `DeathWatchNotification`, and `akka.actor.Terminated`).
use Rattle.std.specs.Prelude.{◌≡◌, ℕ, All, Some, slice_get}
use Rattle.mb_actor.specs.declared.message.Message.{Message}
use Rattle.mb_actor.specs.declared.message.Message.TheVariants as message
use Rattle.mb_actor.specs.declared.phase.Phase.TheVariants.{Ended}
use Rattle.mb_ghost.specs.Seen.{Each}
use Rattle.mb_home.specs.AtHome.{system_entries}
use Rattle.mb_msg.specs.declared.id.ActorId.{ActorId}
use Rattle.mb_msg.specs.declared.system.SysMsg.{SysMsg}
use Rattle.mb_msg.specs.declared.system.SysMsg.TheVariants.{Died}
use Rattle.mb_report.specs.declared.report.ActorReport.{ActorReport}
use Rattle.mb_report.specs.declared.report.Report.{Report}
use Rattle.heddleorange.specs.Reading.{handled_messages}

-- The report shows this actor as ended.
abbrev pub HasEnded : Report → ActorId → Type 0
HasEnded report ended = (x : ActorReport) → slice_get report.actors.items ended.0 ≡ Some x → x.phase ≡ Ended

-- If this system message is the notice that an actor has ended, that actor has ended.
abbrev pub IsTrueNotice : Report → SysMsg → Type 0
IsTrueNotice report message = (ended : ActorId) → message ≡ Died ended → HasEnded report ended

-- So it is of each notice that has an entry in the journal of an actor of the report.
abbrev pub EachNoticeIsTrue : Report → Type 0
EachNoticeIsTrue report = (id : ℕ) (a : ActorReport) → slice_get report.actors.items id ≡ Some a
    → Each (λ (m : ℕ × SysMsg). IsTrueNotice report m.1) (system_entries a.journal.entries)

-- If this message is a Terminated, the actor that it names has ended.
abbrev pub IsTrueMessage : Report → Message → Type 0
IsTrueMessage report (message.Terminated ended) = HasEnded report ended
IsTrueMessage report _ = Unit {0}

-- So it is of each message that an actor of the report handled.
abbrev pub EachTerminatedIsTrue : Report → Type 0
EachTerminatedIsTrue report = (id : ℕ) (a : ActorReport) → slice_get report.actors.items id ≡ Some a
    → All (IsTrueMessage report) (handled_messages a.journal.entries)
