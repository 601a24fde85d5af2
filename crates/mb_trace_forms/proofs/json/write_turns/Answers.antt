use Rattle.std.proofs.Common.{List, ap, subst}
use Rattle.mb_diagram.specs.declared.order.EntryOrder.TheVariants.{Turns, Uncovered}
use Rattle.mb_trace.specs.Coverage.{CoverJournals}
use Rattle.mb_trace.specs.Whole.{names_in}
use Rattle.mb_trace.specs.declared.trace.TurnLength.{TurnLength}
use Rattle.mb_trace.proofs.Written.{begins-none, err-written, written-same}
use Rattle.mb_trace_forms.specs.Json.{entries_json}
use Rattle.mb_trace_forms.specs.Order.{part_steps}
use Rattle.mb_trace_forms.specs.Order.HasTurnOrder.{by_actor, by_turn}
use Rattle.mb_trace_forms.proofs.TurnOrder.{by-journals, not-covered}
use Rattle.mb_trace_forms.proofs.json.write_turns.Goals as goal

pub returns-then-cover_journals : goal.returns-then-cover_journals
returns-then-cover_journals g c =
    let turns = c.args.turns.now in (
      Turns,
      part_steps c.args.trace.now turns,
      by_turn (subst (CoverJournals turns) c.deref-actors.ensures.value (c.cover_journals.ensures.0 c.if-cover_journals.true)),
      c.write_parts.ensures,
    )

pub returns-in_err-journals : goal.returns-in_err-journals
returns-in_err-journals g c = (
  Uncovered,
  _,
  by_actor (not-covered c.args.turns.now _ _ _ c.deref-actors.ensures.value c.if-cover_journals.false c.cover_journals.ensures.1),
  err-written _ _ _ c.from_residual.result _ c.from_residual.ensures.1 (begins-none (g.W.Write.contents c.args.out.now) _),
)

pub returns : goal.returns
returns g c =
    let trace = c.args.trace.now in
    let f = c.args.filter.now in (
      Uncovered,
      part_steps trace c.in_ok-journals.journals.items,
      by-journals trace c.args.turns.now _ _ c.deref-actors.ensures.value c.in_ok-journals.ensures
          (not-covered c.args.turns.now _ _ _ c.deref-actors.ensures.value c.if-cover_journals.false c.cover_journals.ensures.1),
      written-same _ _ c.write_parts-2.result _ _
          (ap (λ (l : List TurnLength). entries_json (names_in trace) f f.limit (part_steps trace l)) c.deref.ensures.value) c.write_parts-2.ensures,
    )
