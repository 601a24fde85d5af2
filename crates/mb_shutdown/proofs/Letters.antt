-- What a report keeps of dead letters, from what the homes and the senders kept.
use Rattle.std.proofs.Common.{◌≡◌, ℕ, ◌+◌, ◌-◌, List, ◌++◌, length, map, refl, sym, ap, ◌∙◌, Some}
use Rattle.std.specs.Global.{Box}
use Rattle.std.specs.Prelude.{All, slice_get}
use Rattle.std.proofs.lemmas.List.Elements.{All-weaker}
use Rattle.std.proofs.lemmas.Option.{same_Some}
use Rattle.mb_msg.specs.JournalMode.{Retention}
use Rattle.mb_gate.specs.Accessors.{first_home}
use Rattle.mb_gate.specs.View.{Observation}
use Rattle.mb_gate.specs.declared.gates.Gates.{Gates}
use Rattle.mb_home.specs.Contents.{Contents}
use Rattle.mb_home.specs.Directory.{DirectoryEntry}
use Rattle.mb_report.specs.declared.report.Report.{Report}
use Rattle.mb_report.specs.declared.report.SenderReport.{SenderReport}
use Rattle.mb_shutdown.specs.Belonging.{directory_of}
use Rattle.mb_shutdown.specs.Letters.{KeepsLetters}
use Rattle.mb_shutdown.specs.Refused.{IsComplete}
use Rattle.mb_shutdown.specs.declared.finished_sender.FinishedSender.{FinishedSender}
use Rattle.mb_shutdown.proofs.Closing.{IsGathered, came-kept}
use Rattle.mb_shutdown.proofs.Lists.{in-first, in-second, length-mapped, mapped}
use Rattle.mb_system.specs.Belonging.{BelongsTogether}
use Rattle.mb_system.specs.declared.built.Built.{Built}
use Rattle.mb_system.specs.Members.{OutsideSender}

module _ {A K : Type 0} (built : Built A K) (gates : Gates (Box Contents)) (log : List Observation) (outside : List FinishedSender)
    (together : BelongsTogether built) (complete : IsComplete built) (came : IsGathered built gates log outside) (report : Report)
    (are : map (λ (s : SenderReport). s.dead.retention) report.senders.items
    ≡ map (λ (e : DirectoryEntry). e.who.retention) (first_home gates).value.directory ++ map (λ (o : FinishedSender). o.send_log.dead.retention) outside) where
  abbrev of_actors : List Retention
  of_actors = map (λ (e : DirectoryEntry). e.who.retention) (directory_of built)

  abbrev of_outside : List Retention
  of_outside = map (λ (o : FinishedSender). o.send_log.dead.retention) outside

  all-are : map (λ (s : SenderReport). s.dead.retention) report.senders.items ≡ of_actors ++ of_outside
  all-are =
      are
      ∙ ap (λ (g : Gates (Box Contents)). map (λ (e : DirectoryEntry). e.who.retention) (first_home g).value.directory ++ of_outside) came.gates_are

  at-sender : (i : ℕ) (s : SenderReport) (kept : Retention) → slice_get report.senders.items i ≡ Some s → slice_get (of_actors ++ of_outside) i ≡ Some kept
      → s.dead.retention ≡ kept
  at-sender i s kept found is =
      same_Some s.dead.retention kept
      (sym (mapped (λ (s : SenderReport). s.dead.retention) report.senders.items i s found) ∙ ap (λ l. slice_get l i) all-are ∙ is)

  pub keeps-letters : KeepsLetters built report
  keeps-letters = record {
    actors = λ id e s is found.
        at-sender id s e.who.retention found
        (in-first of_actors of_outside id e.who.retention (mapped (λ (e : DirectoryEntry). e.who.retention) (directory_of built) id e is));
    outside = All-weaker
        (λ (o : OutsideSender). slice_get of_outside (o.send_log.by.0 - 64) ≡ Some o.send_log.dead.retention)
        (λ (o : OutsideSender). (s : SenderReport)
        → slice_get report.senders.items (length (directory_of built) + (o.send_log.by.0 - 64)) ≡ Some s
        → s.dead.retention ≡ o.send_log.dead.retention)
        (λ o listed s found.
        at-sender (length (directory_of built) + (o.send_log.by.0 - 64)) s o.send_log.dead.retention found
        (in-second of_actors of_outside (length (directory_of built) + (o.send_log.by.0 - 64)) (o.send_log.by.0 - 64)
        o.send_log.dead.retention
        (ap (λ n. n + (o.send_log.by.0 - 64)) (sym (length-mapped (λ (e : DirectoryEntry). e.who.retention) (directory_of built)))) listed))
        built.senders.items (came-kept built gates log outside together complete came);
  }
