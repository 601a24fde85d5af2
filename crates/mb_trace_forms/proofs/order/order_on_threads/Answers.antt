use Rattle.std.proofs.Common.{◌≡◌, ◌∙◌, List, [], ap, arith, length, map, refl, subst, sym}
use Rattle.std.specs.Prelude.{filter}
use Rattle.mb_causal_order.specs.Answer.{IsAnswer}
use Rattle.mb_causal_order.specs.declared.outcome.MergedOrder.TheVariants as answer
use Rattle.mb_causal_order.specs.declared.place.Place.{Place}
use Rattle.mb_diagram.specs.declared.order.EntryOrder.TheVariants.{Actors, Causes, Unordered}
use Rattle.mb_report.specs.declared.report.ActorReport.{ActorReport}
use Rattle.mb_trace.specs.Steps.{steps_in}
use Rattle.mb_trace.specs.Text.{steps_at}
use Rattle.mb_trace.proofs.Left.{steps-past}
use Rattle.mb_trace_forms.specs.Order.{HasOrder, is_among, journal_lengths, part_steps, single}
use Rattle.mb_trace_forms.specs.Order.HasOrder.{by_actor, in_order, without_order}
use Rattle.mb_trace_forms.proofs.OrderSteps.{journals-all, singles}
use Rattle.mb_trace_forms.proofs.order.order_on_threads.Goals as goal

pub returns-in_ok-entries_at-in-Found : goal.returns-in_ok-entries_at-in-Found
returns-in_ok-entries_at-in-Found c =
    let trace = c.args.trace.now in
    let places = c.in-Found.places.items in
    let n = length c.deref-actors.result.now in
    let as_many = ap length c.deref-actors.ensures.value in
    let same : part_steps trace c.in_ok-entries_at-in-Found.field-0.items ≡ steps_at (steps_in trace) [] places =
    ap (part_steps trace) c.in_ok-entries_at-in-Found.ensures
    ∙ (ap (λ (l : List Place). part_steps trace (map single (filter (is_among n) l))) c.deref.ensures.value
    ∙ singles (steps_in trace) n (λ a past. steps-past trace a (omega (arith, past, as_many))) [] [] places (λ a within. refl)) in
    let right : IsAnswer trace.plan.now trace.sends.now trace.report.now.actors.items (answer.Found c.in-Found.places) =
    subst (λ (l : List ActorReport). IsAnswer trace.plan.now trace.sends.now l (answer.Found c.in-Found.places)) c.deref-actors.ensures.value
    (rw c.in-Found.is at c.in_ok-places.ensures) in
    subst (HasOrder trace Causes) (sym same) (in_order places right.0 right.1)

pub returns-in_ok-journals_of-in-NoOrder : goal.returns-in_ok-journals_of-in-NoOrder
returns-in_ok-journals_of-in-NoOrder c =
    let trace = c.args.trace.now in
    subst (HasOrder trace Unordered)
    (sym (ap (part_steps trace) c.in_ok-journals_of-in-NoOrder.ensures
    ∙ (ap (λ (l : List ActorReport). part_steps trace (journal_lengths 0 l)) c.deref-actors.ensures.value ∙ journals-all trace)))
    (without_order (subst (λ (l : List ActorReport). IsAnswer trace.plan.now trace.sends.now l answer.NoOrder) c.deref-actors.ensures.value
    (rw c.in-NoOrder.is at c.in_ok-places.ensures)))

pub returns-in_ok-journals_of-in-NotKept : goal.returns-in_ok-journals_of-in-NotKept
returns-in_ok-journals_of-in-NotKept c =
    let trace = c.args.trace.now in
    subst (HasOrder trace Actors)
    (sym (ap (part_steps trace) c.in_ok-journals_of-in-NotKept.ensures
    ∙ (ap (λ (l : List ActorReport). part_steps trace (journal_lengths 0 l)) c.deref-actors.ensures.value ∙ journals-all trace)))
    by_actor
