-- What the story of a run says to whoever reads its report.
use Rattle.std.proofs.Common.{◌≡◌, ℕ, suc, ◌+◌, ℤ, List, length, sym, ap, ◌∙◌, Some, None, arith, if◌then◌else◌, Bool}
use Rattle.std.specs.Prelude.{Option, slice_get}
use Rattle.mb_actor.specs.Behaviour.{Moment, Reply}
use Rattle.mb_actor.specs.declared.message.Message.{Message}
use Rattle.mb_build.specs.Planned.{actors_in}
use Rattle.mb_home.specs.Directory.{DirectoryEntry}
use Rattle.mb_journal.specs.Entry.{Entry}
use Rattle.mb_journal.specs.Identity.{Identity}
use Rattle.mb_journal.specs.Incarnation.{messages}
use Rattle.mb_msg.specs.declared.order.Order.{Order}
use Rattle.mb_msg.specs.declared.plan.Plan.{Plan}
use Rattle.mb_report.specs.declared.report.Report.{Report}
use Rattle.mb_shutdown.proofs.Lists.{mapped-to, there, within}
use Rattle.heddleorange.specs.NoReport.{IsRight}
use Rattle.heddleorange.specs.Reading.{entries_in, entries_of, journal_of, state_of}
use Rattle.heddleorange.specs.States.{ShowsStates}
use Rattle.heddleorange.specs.WholeRun.{IsReportOfRun, after_at, after_of}
use Rattle.heddleorange.proofs.Identified.{actor-at}
use Rattle.heddleorange.proofs.Ledger.{line-count}

module _ {A : Type 0} (actors : List A) (after : A → List Message → ℤ) (gives : ℕ → Moment → Reply → Type 0) (plan : Plan) (orders : List (List Order))
  where
    module _ (report : Report) (right : IsRight plan (length actors) orders) (story : IsReportOfRun (after_at actors after) gives plan orders report) where
      pub lines : length report.actors.items ≡ length actors + 1
      lines = line-count (after_at actors after) gives plan (length actors) orders report right story

      pub states : ShowsStates after actors plan report
      states place actor handed =
          let many = lines in let directory = story.whole.same_count.0 in let lt = within actors place actor handed in
          let a = there report.actors.items (suc place) (omega (arith, many, lt)) in
          let e = there story.directory (suc place) (omega (arith, many, lt, directory)) in
          let who : Identity = (e.0).who in
          let at : slice_get (actors_in plan) (suc place) ≡ Some who =
          mapped-to (λ (d : DirectoryEntry). d.who) story.directory (actors_in plan) (suc place) e.0 story.planned.who e.1 in
          let of = actor-at plan place who at in
          let entries : entries_in report (suc place) ≡ (a.0).journal.entries = ap (λ o. entries_of (journal_of o)) a.1 in
          let reported = (story.whole.actors (suc place) e.0 a.0 e.1 a.1).0 in
          let all : List Message = messages who (a.0).journal.entries in (
            who,
            at,
            ap state_of a.1 ∙ reported.state_is ∙ ap (λ (b : Bool). if b then None else Some (after_at actors after who.this.0 all)) of.1
                ∙ ap (λ n. Some (after_at actors after n all)) of.0 ∙ ap (λ (o : Option A). Some (after_of after o all)) handed
                ∙ ap (λ (j : List Entry). Some (after actor (messages who j))) (sym entries),
          )
