-- What a report keeps of dead letters (this project's own profile: Akka keeps none).
use Rattle.std.specs.Prelude.{◌≡◌, ℕ, ◌+◌, ◌-◌, All, Some, length, slice_get}
use Rattle.mb_msg.specs.Limits.{most_actors}
use Rattle.mb_home.specs.Directory.{DirectoryEntry}
use Rattle.mb_report.specs.declared.report.Report.{Report}
use Rattle.mb_report.specs.declared.report.SenderReport.{SenderReport}
use Rattle.mb_shutdown.specs.Belonging.{directory_of}
use Rattle.mb_system.specs.declared.built.Built.{Built}
use Rattle.mb_system.specs.Members.{OutsideSender}

-- The report keeps all dead letters of an actor exactly if the actor's journal keeps all entries, and those of a sender outside exactly if that sender kept
-- them.
pub record KeepsLetters {A K : Type 0} (built : Built A K) (report : Report) : Type 0 where
  pub actors : (id : ℕ) (e : DirectoryEntry) (s : SenderReport) → slice_get (directory_of built) id ≡ Some e → slice_get report.senders.items id ≡ Some s
      → s.dead.retention ≡ e.who.retention
  pub outside : All (λ (o : OutsideSender). (s : SenderReport)
      → slice_get report.senders.items (length (directory_of built) + (o.send_log.by.0 - most_actors)) ≡ Some s
      → s.dead.retention ≡ o.send_log.dead.retention) built.senders.items
