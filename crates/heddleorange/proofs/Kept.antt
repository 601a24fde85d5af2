-- What a report keeps of its run, from its story.
use Rattle.std.proofs.Common.{◌≡◌, ℕ, zero, suc, ◌+◌, ℤ, List, [], ◌∷◌, sym, ap, ◌∙◌, arith, Some}
use Rattle.std.specs.Prelude.{All, slice_get}
use Rattle.std.proofs.lemmas.Option.{none-some, same_Some}
use Rattle.mb_actor.specs.Behaviour.{Moment, Reply}
use Rattle.mb_actor.specs.declared.message.Message.{Message}
use Rattle.mb_build.specs.Identities.{planned_from}
use Rattle.mb_build.specs.Planned.{actors_in}
use Rattle.mb_home.specs.Directory.{DirectoryEntry}
use Rattle.mb_journal.specs.Identity.{Identity}
use Rattle.mb_msg.specs.JournalMode.{Retention, retention_of}
use Rattle.mb_msg.specs.declared.id.ActorId.{ActorId}
use Rattle.mb_msg.specs.declared.journal_mode.JournalMode.{JournalMode}
use Rattle.mb_msg.specs.declared.order.Order.{Order}
use Rattle.mb_msg.specs.declared.plan.Plan.{Plan}
use Rattle.mb_msg.specs.declared.strategy.Strategy.{Strategy}
use Rattle.mb_report.specs.declared.report.ActorReport.{ActorReport}
use Rattle.mb_report.specs.declared.report.Report.{Report}
use Rattle.mb_report.specs.declared.report.SenderReport.{SenderReport}
use Rattle.mb_shutdown.proofs.Lists.{at-place, each-place, mapped-to, there, within}
use Rattle.heddleorange.specs.Kept.{KeepsAsPlanned}
use Rattle.heddleorange.specs.WholeRun.{IsReportOfRun}

-- each actor keeps what the plan says
keeps-of : (actors : ℕ) (mode : JournalMode) (limit : ℕ) (all : List ActorId) (number : ℕ) (parents : List ActorId) (strategies : List Strategy) (place : ℕ)
    (who : Identity) → slice_get (planned_from actors mode limit all number parents strategies) place ≡ Some who → who.retention ≡ retention_of mode
keeps-of actors mode limit all number [] [] place who is = absurd (none-some who is)
keeps-of actors mode limit all number [] (s ∷ strategies) place who is = absurd (none-some who is)
keeps-of actors mode limit all number (p ∷ parents) [] place who is = absurd (none-some who is)
keeps-of actors mode limit all number (p ∷ parents) (s ∷ strategies) zero who is = ap (λ (w : Identity). w.retention) (sym (same_Some _ who is))
keeps-of actors mode limit all number (p ∷ parents) (s ∷ strategies) (suc place) who is =
    keeps-of actors mode limit all (number + 1) parents strategies place who is

pub keeps-planned : (plan : Plan) (place : ℕ) (who : Identity) → slice_get (actors_in plan) place ≡ Some who → who.retention ≡ retention_of plan.journal
keeps-planned plan zero who is = ap (λ (w : Identity). w.retention) (sym (same_Some _ who is))
keeps-planned plan (suc place) who is = keeps-of _ plan.journal plan.journal_limit _ 1 _ _ place who is

-- so does the report
pub keeps : (after : ℕ → List Message → ℤ) (gives : ℕ → Moment → Reply → Type 0) (plan : Plan) (orders : List (List Order)) (report : Report)
    → IsReportOfRun after gives plan orders report → KeepsAsPlanned plan report
keeps after gives plan orders report story = record {
  all = record {
    journals = all-kept (λ (a : ActorReport). a.journal.retention) report.actors.items journals;
    cleaned = all-kept (λ (a : ActorReport). a.cleaned.retention) report.actors.items cleaned;
    letters = all-kept (λ (s : SenderReport). s.dead.retention) report.senders.items story.keep_letters;
  };
  journals = journals;
  cleaned = cleaned;
  letters = story.keep_letters;
}
  where
    all-kept : {X : Type 0} (f : X → Retention) (xs : List X) → All (λ x. f x ≡ retention_of plan.journal) xs
        → All (λ x. (f x).keeps_all ≡ (retention_of plan.journal).keeps_all) xs
    all-kept f xs each =
        each-place (λ x. (f x).keeps_all ≡ (retention_of plan.journal).keeps_all) xs
        (λ i x at. ap (λ (r : Retention). r.keeps_all) (at-place (λ x. f x ≡ retention_of plan.journal) xs i x each at))

    row-of : (id : ℕ) (a : ActorReport) → slice_get report.actors.items id ≡ Some a
        → (e : DirectoryEntry) × (slice_get story.directory id ≡ Some e)
    row-of id a at =
        let lt = within report.actors.items id a at in let same = story.whole.same_count.0 in there story.directory id (omega (arith, lt, same))

    of-row : (id : ℕ) (e : DirectoryEntry) → slice_get story.directory id ≡ Some e → e.who.retention ≡ retention_of plan.journal
    of-row id e is =
        keeps-planned plan id e.who (mapped-to (λ (d : DirectoryEntry). d.who) story.directory (actors_in plan) id e story.planned.who is)

    journals : All (λ (a : ActorReport). a.journal.retention ≡ retention_of plan.journal) report.actors.items
    journals =
        each-place (λ (a : ActorReport). a.journal.retention ≡ retention_of plan.journal) report.actors.items
        (λ id a at. (let row = row-of id a at in (story.whole.actors id row.0 a row.1 at).0.kept_is ∙ of-row id row.0 row.1))

    cleaned : All (λ (a : ActorReport). a.cleaned.retention ≡ retention_of plan.journal) report.actors.items
    cleaned =
        each-place (λ (a : ActorReport). a.cleaned.retention ≡ retention_of plan.journal) report.actors.items
        (λ id a at. (let row = row-of id a at in (story.whole.actors id row.0 a row.1 at).0.cleaned_kept ∙ of-row id row.0 row.1))
