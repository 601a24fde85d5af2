-- What a report keeps of its run (this project's own profile: Akka keeps neither journals nor dead letters).
use Rattle.std.specs.Prelude.{◌≡◌, All, Bool}
use Rattle.mb_msg.specs.JournalMode.{Retention}
use Rattle.mb_report.specs.declared.report.ActorReport.{ActorReport}
use Rattle.mb_report.specs.declared.report.Report.{Report}
use Rattle.mb_report.specs.declared.report.SenderReport.{SenderReport}

-- If this is true, the report keeps all entries of each journal, all envelopes that were cleaned up when an actor ended, and all dead letters of each
-- sender, so that they can be read. If it is false, no journal keeps all its entries, and no list all its items.
pub record KeepsAllIf (all : Bool) (report : Report) : Type 0 where
  pub journals : All (λ (a : ActorReport). a.journal.retention.keeps_all ≡ all) report.actors.items
  pub cleaned : All (λ (a : ActorReport). a.cleaned.retention.keeps_all ≡ all) report.actors.items
  pub letters : All (λ (s : SenderReport). s.dead.retention.keeps_all ≡ all) report.senders.items

-- The report keeps so much of each journal, of the envelopes that were cleaned up when an actor ended, and of the dead letters of each sender: all, or at
-- least so many of the newest.
pub record Keeps (retention : Retention) (report : Report) : Type 0 where
  pub all : KeepsAllIf retention.keeps_all report
  pub journals : All (λ (a : ActorReport). a.journal.retention ≡ retention) report.actors.items
  pub cleaned : All (λ (a : ActorReport). a.cleaned.retention ≡ retention) report.actors.items
  pub letters : All (λ (s : SenderReport). s.dead.retention ≡ retention) report.senders.items
