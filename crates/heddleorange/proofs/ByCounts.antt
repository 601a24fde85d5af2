-- The ledger of a run in numbers alone, from its story.
use Rattle.std.proofs.Common.{◌≡◌, ℕ, zero, suc, ◌<◌, ◌≤◌, ℤ, List, [], ◌∷◌, length, cond, refl, sym, ◌∙◌, arith, count_by}
use Rattle.std.specs.Prelude.{sum_by}
use Rattle.std.proofs.lemmas.List.{length-append, length-map}
use Rattle.std.proofs.lemmas.List.Sums.{sum_by-cons}
use Rattle.mb_actor.specs.Behaviour.{Moment, Reply}
use Rattle.mb_actor.specs.declared.message.Message.{Message}
use Rattle.mb_journal.specs.Accepted.{accepted, envelopes_of}
use Rattle.mb_journal.specs.Counts.{tells_of_envelope}
use Rattle.mb_journal.specs.Entry.{Entry}
use Rattle.mb_journal.specs.Entry.Entry.{Handled, System, Dropped}
use Rattle.mb_journal.specs.Fates.{begun}
use Rattle.mb_journal.specs.declared.sent_envelope.SentEnvelope.{SentEnvelope}
use Rattle.mb_msg.specs.declared.dead_letter.DeadLetter.{DeadLetter}
use Rattle.mb_msg.specs.declared.envelope.Envelope.{Envelope}
use Rattle.mb_msg.specs.declared.order.Order.{Order}
use Rattle.mb_msg.specs.declared.plan.Plan.{Plan}
use Rattle.mb_report.specs.Counts.{handled_of, left_of}
use Rattle.mb_report.specs.declared.report.ActorReport.{ActorReport}
use Rattle.mb_report.specs.declared.report.Report.{Report}
use Rattle.mb_report.specs.declared.report.SenderReport.{SenderReport}
use Rattle.mb_shutdown.proofs.Lists.{within}
use Rattle.heddleorange.specs.Ledger.{AddsUpByCounts, all_sent, settled_count}
use Rattle.heddleorange.specs.NoReport.{IsRight}
use Rattle.heddleorange.specs.WholeRun.{IsReportOfRun}
use Rattle.heddleorange.proofs.Ledger.{adds-up, sent-list}
use Rattle.heddleorange.proofs.Sums.{sum-flat, sum-same, total, total-list, total-same}

-- where each weighs 1, a list weighs its length
ones : (es : List Envelope) → sum_by (λ (e : Envelope). 1) es ≡ length es
ones [] = refl
ones (e ∷ es) = let first = sum_by-cons (λ (x : Envelope). 1) e es in let rest = ones es in omega (arith, first, rest)

-- the envelopes that were begun are counted by the entries
begun-count : (journal : List Entry) → length (begun journal) ≡ count_by tells_of_envelope journal
begun-count [] = refl
begun-count (Handled e reading outcome ∷ before) =
    let both = length-append (begun before) (e ∷ []) in let rest = begun-count before in
    let count = sum_by-cons (λ x. cond (tells_of_envelope x) 1 0) (Handled e reading outcome) before in omega (arith, both, rest, count)
begun-count (System number message outcome ∷ before) =
    let rest = begun-count before in
    let count = sum_by-cons (λ x. cond (tells_of_envelope x) 1 0) (System number message outcome) before in omega (arith, rest, count)
begun-count (Dropped e ∷ before) =
    let both = length-append (begun before) (e ∷ []) in let rest = begun-count before in
    let count = sum_by-cons (λ x. cond (tells_of_envelope x) 1 0) (Dropped e) before in omega (arith, both, rest, count)

-- no place has more than all together
one-of-total : (n : ℕ) (at : ℕ → ℕ) (k : ℕ) → k < n → at k ≤ total n at
one-of-total zero at k lt = absurd (omega (arith, lt))
one-of-total (suc n) at zero lt = omega arith
one-of-total (suc n) at (suc k) lt = let rest = one-of-total n (λ j. at (suc j)) k (omega (arith, lt)) in omega (arith, rest)

module _ (after : ℕ → List Message → ℤ) (gives : ℕ → Moment → Reply → Type 0) (plan : Plan) (actors : ℕ) (orders : List (List Order)) (report : Report)
    (right : IsRight plan actors orders) (story : IsReportOfRun after gives plan orders report) where
  abbrev answered : ℕ → ℕ
  answered place = length (story.whole.answers place)

  -- all that was sent, by what the senders were answered
  answered-all : total (length report.senders.items) answered ≡ length (all_sent plan orders report)
  answered-all =
      let each = total-same (length report.senders.items) answered (λ place. sum_by (λ (e : Envelope). 1) (accepted (story.whole.answers place)))
      (λ place lt. sym (ones (accepted (story.whole.answers place)) ∙ length-map (story.whole.answers place) (λ (p : SentEnvelope). p.envelope))) in
      each ∙ sent-list after gives plan actors orders report right story (λ e. 1) ∙ ones (all_sent plan orders report)

  -- all of it has an end
  settled-all : length (all_sent plan orders report) ≡ settled_count report
  settled-all =
      let all = adds-up after gives plan actors orders report right story (λ e. 1) in
      let sent = ones (all_sent plan orders report) in
      let taken = sum-flat (λ (e : Envelope). 1) (λ (a : ActorReport). begun a.journal.entries) report.actors.items
      ∙ sum-same (λ (a : ActorReport). sum_by (λ (e : Envelope). 1) (begun a.journal.entries)) handled_of
      (λ a. (ones (begun a.journal.entries) ∙ begun-count a.journal.entries)) report.actors.items in
      let cleaned = sum-flat (λ (e : Envelope). 1) (λ (a : ActorReport). a.cleaned.items) report.actors.items
      ∙ sum-same (λ (a : ActorReport). sum_by (λ (e : Envelope). 1) a.cleaned.items) (λ (a : ActorReport). length a.cleaned.items)
      (λ a. ones a.cleaned.items) report.actors.items in
      let left = sum-flat (λ (e : Envelope). 1) (λ (a : ActorReport). a.left.items) report.actors.items
      ∙ sum-same (λ (a : ActorReport). sum_by (λ (e : Envelope). 1) a.left.items) left_of (λ a. ones a.left.items) report.actors.items in
      let refused = sum-flat (λ (e : Envelope). 1) (λ (s : SenderReport). envelopes_of s.dead.items) report.senders.items
      ∙ sum-same (λ (s : SenderReport). sum_by (λ (e : Envelope). 1) (envelopes_of s.dead.items)) (λ (s : SenderReport). length s.dead.items)
      (λ s. (ones (envelopes_of s.dead.items) ∙ length-map s.dead.items (λ (d : DeadLetter). d.envelope))) report.senders.items in
      omega (arith, all, sent, taken, cleaned, left, refused)

  pub adds-up-by-counts : AddsUpByCounts report
  adds-up-by-counts few =
      let most = answered-all in let settled = settled-all in
      sym (total-list (λ (s : SenderReport). s.sent) report.senders.items answered
      (λ place s at.
      (let one = one-of-total (length report.senders.items) answered place (within report.senders.items place s at) in
      let own = (story.whole.sent place s at).0 in omega (arith, one, most, settled, few, own))))
      ∙ most ∙ settled
