use Rattle.std.proofs.Common.{List, ap}
use Rattle.mb_diagram.specs.declared.order.EntryOrder.TheVariants.{Actors}
use Rattle.mb_trace.specs.Whole.{names_in}
use Rattle.mb_trace.specs.declared.trace.TurnLength.{TurnLength}
use Rattle.mb_trace.proofs.Written.{begins-none, err-written, written-same}
use Rattle.mb_trace_forms.specs.Json.{entries_json}
use Rattle.mb_trace_forms.specs.Order.{part_steps}
use Rattle.mb_trace_forms.specs.Order.HasOrder.{by_actor}
use Rattle.mb_trace_forms.proofs.json.write_on_threads.Goals as goal

pub returns-in_err-order : goal.returns-in_err-order
returns-in_err-order g c =
    (Actors, _, by_actor, err-written _ _ _ c.from_residual.result _ c.from_residual.ensures.1 (begins-none (g.W.Write.contents c.args.out.now) _))

pub returns : goal.returns
returns g c =
    let trace = c.args.trace.now in
    let f = c.args.filter.now in (
      c.in_ok-order.order.kind,
      part_steps trace c.in_ok-order.order.parts.items,
      c.in_ok-order.ensures,
      written-same _ _ c.write_parts.result _ _
          (ap (λ (l : List TurnLength). entries_json (names_in trace) f f.limit (part_steps trace l)) c.deref.ensures.value) c.write_parts.ensures,
    )
