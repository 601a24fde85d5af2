use Rattle.std.proofs.Common.{List, subst, sym}
use Rattle.mb_diagram.specs.declared.order.EntryOrder.TheVariants.{Turns}
use Rattle.mb_trace.specs.Coverage.{CoverJournals}
use Rattle.mb_trace.specs.declared.trace.TurnLength.{TurnLength}
use Rattle.mb_trace_forms.specs.Order.{HasTurnOrder, part_steps}
use Rattle.mb_trace_forms.specs.Order.HasTurnOrder.{by_turn}
use Rattle.mb_trace_forms.proofs.TurnOrder.{by-journals, not-covered}
use Rattle.mb_trace_forms.proofs.order.order_of_turns.Goals as goal

pub returns-then-cover_journals : goal.returns-then-cover_journals
returns-then-cover_journals c =
    let trace = c.args.trace.now in
    let turns = c.args.turns.now in
    subst (λ (l : List TurnLength). HasTurnOrder trace turns Turns (part_steps trace l)) (sym c.in_ok-from_slice.ensures.items)
    (by_turn (subst (CoverJournals turns) c.deref-actors.ensures.value (c.cover_journals.ensures.0 c.if-cover_journals.true)))

pub returns : goal.returns
returns c =
    by-journals c.args.trace.now c.args.turns.now _ _ c.deref-actors.ensures.value c.in_ok-journals_of.ensures
    (not-covered c.args.turns.now _ _ _ c.deref-actors.ensures.value c.if-cover_journals.false c.cover_journals.ensures.1)
