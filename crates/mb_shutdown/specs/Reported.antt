-- What the report on a system says, as all was gathered for it, and as it comes of the system that ended.
use Rattle.std.specs.Prelude.{◌≡◌, ℕ, ◌≤◌, ℤ, ◌++◌, List, All, length, map}
use Rattle.std.specs.Global.{Box}
use Rattle.mb_actor.specs.Behaviour.{Moment, Reply}
use Rattle.mb_actor.specs.declared.message.Message.{Message}
use Rattle.mb_journal.specs.declared.sent_envelope.SentEnvelope.{SentEnvelope}
use Rattle.mb_gate.specs.Accessors.{actors_of, first_home, gates_id, pass_id, pass_view}
use Rattle.mb_gate.specs.View.{Observation, View}
use Rattle.mb_gate.specs.declared.gates.Gates.{Gates}
use Rattle.mb_gate.specs.declared.pass.Pass.{Pass}
use Rattle.mb_home.specs.Contents.{Contents}
use Rattle.mb_home.specs.Directory.{DirectoryEntry}
use Rattle.mb_report.specs.declared.report.Report.{Report}
use Rattle.mb_report.specs.declared.report.SenderReport.{SenderReport}
use Rattle.mb_system.specs.Members.{OutsideSender}
use Rattle.mb_system.specs.declared.built.Built.{Built}
use Rattle.mb_system.specs.declared.handle.WorkerHandle.{WorkerHandle}
use Rattle.mb_shutdown.specs.Belonging.{AreAnswers, HasAllSeen, directory_of}
use Rattle.mb_shutdown.specs.CompleteReport.{IsCompleteReport}
use Rattle.mb_shutdown.specs.Letters.{KeepsLetters}
use Rattle.mb_shutdown.specs.OutsideSenders.{AreFinishedSenders, HasKnownSenders}
use Rattle.mb_shutdown.specs.Refused.{HasHomesReturned, PutAddsUpTo, ReleasesAddUpTo}
use Rattle.mb_shutdown.specs.Seen.{ReportExtendsAll}
use Rattle.mb_shutdown.specs.declared.finished_sender.FinishedSender.{FinishedSender}

-- All that a report needs was gathered: the pass is of these gates, of at most 64 actors, and these are the finished senders, at most 16, in the order of
-- their numbers. The gates' directory has all actors, and only these senders send to them.
pub record IsGathered (gates : Gates (Box Contents)) (pass : Pass (Box Contents)) (finished : List FinishedSender) : Type 0 where
  pub same_gates : pass_id pass ≡ gates_id gates
  pub within_limit : (actors_of gates ≤ 64) × (length finished ≤ 16)
  pub directory : length (first_home gates).value.directory ≡ actors_of gates
  pub senders : HasKnownSenders (first_home gates).value.directory (length finished)
  pub outside : AreFinishedSenders (first_home gates).value.directory (pass_view pass).log 64 finished

module _ (after : ℕ → List Message → ℤ) (gives : ℕ → Moment → Reply → Type 0) where
  -- The report on the actors in this directory, of all that the view saw and of what these senders were answered, is whole. It keeps as many dead letters as
  -- each of them keeps, and its journals extend those that were seen.
  pub record IsReportOnAll (directory : List DirectoryEntry) (view : View) (finished : List FinishedSender) (report : Report) : Type 0 where
    pub whole : IsCompleteReport after gives directory view.log (map (λ (o : FinishedSender). o.send_log.posted) finished) report
    pub letters : map (λ (s : SenderReport). s.dead.retention) report.senders.items
        ≡ map (λ (e : DirectoryEntry). e.who.retention) directory ++ map (λ (o : FinishedSender). o.send_log.dead.retention) finished
    pub seen : ReportExtendsAll report view

  -- The report on a system is whole, of all that its handles and senders saw and of what its senders were answered. It keeps the dead letters that they kept,
  -- and its journals extend those that each handle and each sender saw.
  pub record IsReportOnSystem {A K : Type 0} (built : Built A K) (report : Report) : Type 0 where
    pub whole : (log : List Observation) × HasAllSeen built log × ((answers : List (List SentEnvelope))
        × AreAnswers built.system.senders built.senders.items answers × IsCompleteReport after gives (directory_of built) log answers report)
    pub letters : KeepsLetters built report
    pub seen : All (λ (e : WorkerHandle A K). ReportExtendsAll report (pass_view e.registrar.pass)) built.handles.items
        × All (λ (s : OutsideSender). ReportExtendsAll report (pass_view s.registrar.pass)) built.senders.items

-- What all parties of the system did adds up to what the report shows: each home came back, each journal is what came of all releases, and each system
-- message that was put into a list is counted once.
pub record AddsUp {A K : Type 0} (gives : ℕ → Moment → Reply → Type 0) (built : Built A K) (report : Report) : Type 0 where
  pub home : HasHomesReturned gives built report
  pub releases : ReleasesAddUpTo built report
  pub put : PutAddsUpTo built report
