-- What a whole run says of the headline, from its story.
use Rattle.std.proofs.Common.{◌≡◌, ℕ, zero, suc, ◌+◌, ◌<◌, ℤ, List, [], ◌∷◌, ◌++◌, length, map, refl, sym, ap, ◌∙◌, subst, arith, Some}
use Rattle.std.specs.Prelude.{All, slice_get}
use Rattle.std.proofs.lemmas.List.{length-append}
use Rattle.mb_actor.specs.Behaviour.{Moment, Reply}
use Rattle.mb_actor.specs.declared.message.Message.{Message}
use Rattle.mb_build.specs.Planned.{actors_in}
use Rattle.mb_dispatch.specs.Orders.{envelopes_of as ordered_bodies}
use Rattle.mb_home.specs.Directory.{DirectoryEntry}
use Rattle.mb_journal.specs.Accepted.{accepted}
use Rattle.mb_journal.specs.Identity.{Identity}
use Rattle.mb_journal.specs.declared.sent_envelope.SentEnvelope.{SentEnvelope}
use Rattle.mb_msg.specs.Limits.{most_actors}
use Rattle.mb_msg.specs.declared.envelope.Envelope.{Envelope}
use Rattle.mb_msg.specs.declared.order.Order.{Order}
use Rattle.mb_msg.specs.declared.plan.Plan.{Plan}
use Rattle.mb_report.specs.declared.report.Report.{Report}
use Rattle.mb_shutdown.specs.Belonging.{IsFifoIn}
use Rattle.mb_shutdown.specs.CompleteReport.{told_by_each}
use Rattle.mb_shutdown.specs.Headline.{BegunOpen}
use Rattle.mb_shutdown.proofs.HeadlineLaw.{begun-open, one-fate, sent-is, told-count}
use Rattle.mb_shutdown.proofs.Lists.{length-mapped, there, within}
use Rattle.mb_shutdown.proofs.NothingToRun.{nobody-has-to-run}
use Rattle.heddleorange.specs.Ledger.{numbered_from}
use Rattle.heddleorange.specs.NoReport.{IsRight}
use Rattle.heddleorange.specs.RunHeadline.{IsPlannedFifo, RunHeadline, ordered_by_each}
use Rattle.heddleorange.specs.WholeRun.{IsReportOfRun}
use Rattle.heddleorange.proofs.Identified.{as-planned}
use Rattle.heddleorange.proofs.Ledger.{goes, line-count, outside-as}

-- what each sender outside was answered for is what it was to send
ordered-each : (by : ℕ) (orders : List (List Order)) (answers : List (List SentEnvelope)) → length answers ≡ length orders
    → ((k : ℕ) (of : List Order) (p : List SentEnvelope) → slice_get orders k ≡ Some of → slice_get answers k ≡ Some p
    → accepted p ≡ numbered_from (by + k) 0 (ordered_bodies of))
    → map accepted answers ≡ ordered_by_each by orders
ordered-each by [] [] same each = refl
ordered-each by [] (p ∷ answers) same each = absurd (omega (arith, same))
ordered-each by (of ∷ orders) [] same each = absurd (omega (arith, same))
ordered-each by (of ∷ orders) (p ∷ answers) same each =
    let first = each zero of p refl refl ∙ ap (λ n. numbered_from n 0 (ordered_bodies of)) (let e : by + 0 ≡ by = omega arith in e) in
    let rest = ordered-each (by + 1) orders answers (omega (arith, same)) (λ k l q is at.
    (each (suc k) l q is at ∙ ap (λ n. numbered_from n 0 (ordered_bodies l)) (let e : by + suc k ≡ by + 1 + k = omega arith in e))) in
    ap (λ l. l ∷ map accepted answers) first ∙ ap (λ l. numbered_from by 0 (ordered_bodies of) ∷ l) rest

module _ (after : ℕ → List Message → ℤ) (gives : ℕ → Moment → Reply → Type 0) (plan : Plan) (actors : ℕ) (orders : List (List Order)) (report : Report)
    (right : IsRight plan actors orders) (story : IsReportOfRun after gives plan orders report) where
  -- the mailbox of an actor is the one that is planned
  as-in-plan : (id : ℕ) → IsPlannedFifo plan id → IsFifoIn story.directory id
  as-in-plan zero fifo = absurd fifo
  as-in-plan (suc place) fifo =
      let lt = within plan.actors.items place fifo.0 fifo.1 in let planned = as-planned plan actors right.0 in
      let lines = line-count after gives plan actors orders report right story in let rows = story.whole.same_count.0 in
      let e = there story.directory (suc place) (omega (arith, lt, planned, lines, rows)) in
      let at : slice_get story.directory (place + 1) ≡ Some e.0 =
      subst (λ n. slice_get story.directory n ≡ Some e.0) (let same : suc place ≡ place + 1 = omega arith in same) e.1 in
      (e.0, e.1, (story.planned.mailboxes place fifo.0 e.0 fifo.1 at).discipline ∙ fifo.2)

  outside-sent : map accepted story.outside ≡ ordered_by_each most_actors orders
  outside-sent =
      ordered-each most_actors orders story.outside (story.same_count ∙ sym right.1)
      (λ k of p is at.
      let lt = within story.outside k p at in let senders = story.whole.same_count.1 in
      ap accepted (sym (story.whole.sent_all k p at))
      ∙ (outside-as after gives plan actors orders report right story k of is (omega (arith, lt, senders))).0)

  -- all that was sent was sent to an actor
  sent-there : (place : ℕ) (sent : List Envelope)
      → slice_get (told_by_each (actors_in plan) report.actors.items ++ ordered_by_each most_actors orders) place ≡ Some sent
      → All (λ (e : Envelope). (0 < e.to.0) × (e.to.0 < length report.actors.items)) sent
  sent-there place sent is =
      let whos = map (λ (e : DirectoryEntry). e.who) story.directory in let told = told_by_each whos report.actors.items in
      let at : slice_get (told ++ map accepted story.outside) place ≡ Some sent =
      (λ i. slice_get (told_by_each (story.planned.who i) report.actors.items ++ outside-sent i) place) ∙ is in
      let lt = within (told ++ map accepted story.outside) place sent at in
      let both = length-append told (map accepted story.outside) in
      let named = length-mapped (λ (e : DirectoryEntry). e.who) story.directory in let reported = story.whole.same_count in
      let actors_told = told-count whos report.actors.items (named ∙ sym reported.0) in let outside = length-mapped accepted story.outside in
      let first = reported.0 in let second = reported.1 in
      let same = sent-is after gives story.directory story.log story.outside report story.whole place sent at in
      subst (λ n. All (λ (e : Envelope). (0 < e.to.0) × (e.to.0 < n)) sent) (sym (line-count after gives plan actors orders report right story))
      (subst (λ l. All (λ (e : Envelope). (0 < e.to.0) × (e.to.0 < actors + 1)) l) same
      (goes after gives plan actors orders report right story place (omega (arith, lt, both, actors_told, outside, first, second))))

  pub run-headline : RunHeadline plan orders report
  run-headline = record {
    begun_open = subst (λ (w : List Identity). BegunOpen w report) story.planned.who
        (begun-open after gives story.directory story.log story.outside report story.whole);
    one_fate = one-fate after gives story.directory story.log story.outside report story.whole (actors_in plan) story.planned.who
        (ordered_by_each most_actors orders) outside-sent (IsPlannedFifo plan) as-in-plan;
    to_an_actor = sent-there;
    at_rest = nobody-has-to-run after gives story.directory story.log story.outside report story.whole;
  }
