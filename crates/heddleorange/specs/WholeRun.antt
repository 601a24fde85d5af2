-- A whole run, from the plan and the actors to the report.
use Rattle.std.specs.Prelude.{◌≡◌, ℕ, zero, suc, ℤ, pos, List, [], ◌∷◌, ◌++◌, All, Option, Some, None, length, reverse, slice_get}
use Rattle.std.specs.Global.{Box}
use Rattle.std.specs.List.{AllZip}
use Rattle.mb_actor.specs.Behaviour.{Moment, Reply}
use Rattle.mb_actor.specs.declared.message.Message.{Message}
use Rattle.mb_journal.specs.Accepted.{accepted}
use Rattle.mb_journal.specs.Identity.{Identity}
use Rattle.mb_journal.specs.declared.sent_envelope.SentEnvelope.{SentEnvelope}
use Rattle.mb_gate.specs.PutIn.{IsAllPut}
use Rattle.mb_gate.specs.Releases.{ReleasesAddUp}
use Rattle.mb_gate.specs.Rule.{IsPart}
use Rattle.mb_gate.specs.Untouched.{Origin}
use Rattle.mb_gate.specs.View.{Pushed, Observation, View}
use Rattle.mb_home.specs.Contents.{Contents}
use Rattle.mb_home.specs.Directory.{DirectoryEntry}
use Rattle.mb_msg.specs.JournalMode.{retention_of}
use Rattle.mb_msg.specs.declared.system.SysMsg.TheVariants.{Create}
use Rattle.mb_msg.specs.declared.plan.Plan.{Plan}
use Rattle.mb_shutdown.specs.Seen.{ReportExtendsAll}
use Rattle.mb_shutdown.specs.CompleteReport.{CountsSystems, IsCompleteReport}
use Rattle.mb_report.specs.declared.report.ActorReport.{ActorReport}
use Rattle.mb_report.specs.declared.report.Report.{Report}
use Rattle.mb_report.specs.declared.report.SenderReport.{SenderReport}
use Rattle.mb_dispatch.specs.Orders.{addressed, addressed_system, terminates_of, envelopes_of}
use Rattle.mb_build.specs.Planned.{IsDirectoryOf, actors_in}
use Rattle.mb_msg.specs.declared.order.Order.{Order}
use Rattle.mb_shutdown.specs.ReportedHomes.{IsOfHomes}
use Rattle.mb_dispatch.specs.Runs.{OnlyRuns}
use Rattle.heddleorange.specs.Answered.{AnswersWatches}
use Rattle.heddleorange.specs.Asked.{AllGetAskedFor}
use Rattle.heddleorange.specs.Notices.{EachNoticeIsTrue}
use Rattle.heddleorange.specs.Workers.{AreNewViews}

-- The actor that was handed in for this number: the first for number 1, since 0 is the guardian's.
abbrev pub handed_in : {A : Type 0} → List A → ℕ → Option A
handed_in actors zero = None
handed_in actors (suc place) = slice_get actors place

-- The content of the actor that was handed in after these messages; 0 where there is none.
abbrev pub after_of : {A : Type 0} → (A → List Message → ℤ) → Option A → List Message → ℤ
after_of after None messages = pos 0
after_of after (Some actor) messages = after actor messages

-- What a call of the actor that was handed in may give; anything where there is none.
abbrev pub gives_of : {A : Type 0} → (A → Moment → Reply → Type 0) → Option A → Moment → Reply → Type 0
gives_of gives None moment reply = Unit {0}
gives_of gives (Some actor) moment reply = gives actor moment reply

-- The content of the actor of this number after these messages.
abbrev pub after_at : {A : Type 0} → List A → (A → List Message → ℤ) → ℕ → List Message → ℤ
after_at actors after number messages = after_of after (handed_in actors number) messages

-- What a call of the actor of this number may give.
abbrev pub gives_at : {A : Type 0} → List A → (A → Moment → Reply → Type 0) → ℕ → Moment → Reply → Type 0
gives_at actors gives number moment reply = gives_of gives (handed_in actors number) moment reply

-- The sender was answered for the envelopes of these orders, and sent their Terminates, each in order; it was answered for nothing else, and sent no
-- other system message. These stand newest first.
pub record DidOrders (orders : List Order) (postings : List SentEnvelope) (knew : View) : Type 0 where
  pub accepted_are : addressed (accepted postings) ≡ envelopes_of orders
  pub sent_system : addressed_system knew.sent_system ≡ reverse (terminates_of orders)

-- What came into an actor's list of system messages, of which the report counts all, is what these seats put there.
abbrev pub CountsAllPutBy : Plan → Report → List View → Type 0
CountsAllPutBy plan report vs = (id : ℕ) (who : Identity) (a : ActorReport) → slice_get (actors_in plan) id ≡ Some who
    → slice_get report.actors.items id ≡ Some a → (counts : CountsSystems [] who a) × IsAllPut id counts.pushed vs

-- The report of a whole run. It tells of all actors of this plan, and of the plan's senders outside, each of which carried out the orders of its
-- place. It tells of all that the senders and the workers' handles saw, and extends that; and they saw that a Create went into the guardian's list. It
-- is made of what gates with this directory gave back. From what it knew in the new system to what it saw, each handle only made runs of mailboxes of
-- these gates, by the plan's throughput. The journal of each actor is what came of an empty one in the cells that these handles and senders gave back, so
-- what these runs added. What came into an actor's list of system messages is what these handles and senders put there, the answers for lists that had ended
-- too. But for such answers it is what orders, entries of journals and the start of the guardian asked for; into the list of an actor which has ended came
-- no more than that. Each notice of an end that came to an actor is of an actor that has ended. Each Watch that an actor has to send came into the list
-- that it was for, or was answered by such a notice. As much is kept of each sender's dead letters as the plan says of journals.
pub record IsReportOfRun (after : ℕ → List Message → ℤ) (gives : ℕ → Moment → Reply → Type 0) (plan : Plan) (orders : List (List Order)) (report : Report)
    : Type 0 where
  pub directory : List DirectoryEntry
  pub planned : IsDirectoryOf plan directory
  pub log : List Observation
  pub outside : List (List SentEnvelope)
  pub same_count : length outside ≡ plan.senders
  pub whole : IsCompleteReport after gives directory log outside report
  pub homes : IsOfHomes gives directory report
  pub knew : List View
  pub all_knew : length knew ≡ plan.senders
  pub handles : List View
  pub all_handles : length handles ≡ plan.workers
  pub seen : All (λ (v : View). IsPart v.log log × ReportExtendsAll report v) knew × All (λ (v : View). IsPart v.log log × ReportExtendsAll report v) handles
  pub origin : Origin (Box Contents)
  pub same_gates : (origin.first.value ≡ homes.first) × (origin.actors ≡ length directory)
  pub began : List View
  pub began_new : AreNewViews began
  pub runs : AllZip (OnlyRuns gives origin plan.throughput) began handles
  pub releases : (id : ℕ) (a : ActorReport) → slice_get report.actors.items id ≡ Some a → ReleasesAddUp id a.journal.entries (handles ++ knew)
  pub put : CountsAllPutBy plan report (handles ++ knew)
  pub created : (number : ℕ) × IsPart (Pushed 0 number Create ∷ []) log
  pub asked : AllGetAskedFor plan orders report
  pub notices : EachNoticeIsTrue report
  pub answers : AnswersWatches plan report (handles ++ knew)
  pub keep_letters : All (λ (s : SenderReport). s.dead.retention ≡ retention_of plan.journal) report.senders.items
  pub did : (place : ℕ) (of : List Order) (postings : List SentEnvelope) (view : View) → slice_get orders place ≡ Some of
      → slice_get outside place ≡ Some postings → slice_get knew place ≡ Some view → DidOrders of postings view
