use Rattle.std.proofs.Common.{List, ap, subst}
use Rattle.mb_causal_order.specs.Answer.{IsAnswer}
use Rattle.mb_causal_order.specs.declared.outcome.MergedOrder.TheVariants as answer
use Rattle.mb_causal_order.specs.declared.place.Place.{Place}
use Rattle.mb_report.specs.declared.report.ActorReport.{ActorReport}
use Rattle.mb_trace.specs.Whole.{journals_text, not_found, not_ordered, order_text}
use Rattle.mb_trace.specs.Whole.HasEntries.{by_actor, in_order, without_order}
use Rattle.mb_trace.proofs.Written.{begins-none, err-written, written-same}
use Rattle.mb_trace.proofs.on_threads.write_on_threads.Goals as goal

pub returns-in_err-order : goal.returns-in_err-order
returns-in_err-order g c = (
  journals_text c.args.trace.now c.args.filter.now not_found,
  by_actor,
  err-written _ _ _ c.from_residual.result _ c.from_residual.ensures.1 (begins-none (g.W.Write.contents c.args.out.now) _),
)

pub returns-in-Found : goal.returns-in-Found
returns-in-Found g c =
    let trace = c.args.trace.now in
    let f = c.args.filter.now in
    let places = c.in-Found.order.items in
    let right : IsAnswer trace.plan.now trace.sends.now trace.report.now.actors.items (answer.Found c.in-Found.order) =
    subst (λ (l : List ActorReport). IsAnswer trace.plan.now trace.sends.now l (answer.Found c.in-Found.order)) c.deref.ensures.value
    (rw c.in-Found.is at c.in_ok-order.ensures) in (
      order_text trace f places,
      in_order places right.0 right.1,
      written-same _ _ c.write_in_order.result _ _ (ap (λ (l : List Place). order_text trace f l) c.deref-in-Found.ensures.value) c.write_in_order.ensures,
    )

pub returns-in-NoOrder : goal.returns-in-NoOrder
returns-in-NoOrder g c =
    let trace = c.args.trace.now in (
      journals_text trace c.args.filter.now not_ordered,
      without_order (subst (λ (l : List ActorReport). IsAnswer trace.plan.now trace.sends.now l answer.NoOrder) c.deref.ensures.value
          (rw c.in-NoOrder.is at c.in_ok-order.ensures)),
      c.write_by_actor.ensures,
    )

pub returns-in-NotKept : goal.returns-in-NotKept
returns-in-NotKept g c = (journals_text c.args.trace.now c.args.filter.now not_found, by_actor, c.write_by_actor-in-NotKept.ensures)
