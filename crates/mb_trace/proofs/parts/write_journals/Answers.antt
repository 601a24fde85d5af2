use Rattle.std.proofs.Common.{◌≡◌, ◌+◌, ◌-◌, ◌++◌, ◌≤◌, ◌∙◌, List, [], ap, arith, drop, length, map, refl, string_bytes, sym, take}
use Rattle.std.specs.Prelude.{codes, filter}
use Rattle.mb_trace.specs.Cursors.{left_of}
use Rattle.mb_trace.specs.Steps.{Step, steps_in}
use Rattle.mb_trace.specs.Text.{is_shown, journal_parts, parts_text, shown, titled}
use Rattle.mb_trace.proofs.At.{journal-all}
use Rattle.mb_trace.proofs.TurnLines.{journal-left, journal-next, journals-end}
use Rattle.mb_trace.proofs.Written.{appends-both, appends-none, appends-same, begins-none, begins-same, begins-within, err-written}
use Rattle.mb_trace.proofs.parts.write_journals.Goals as goal

pub returns-in_err-steps : goal.returns-in_err-steps
returns-in_err-steps g c = err-written _ _ _ c.from_residual.result _ c.from_residual.ensures.1 (begins-none (g.W.Write.contents c.args.out.now) _)

pub loop-actor-init : goal.loop-actor-init
loop-actor-init g c = record {
  number = refl;
  steps = λ a behind. c.in_ok-steps.ensures a;
  so_far = [];
  written = appends-none (g.W.Write.contents c.args.out.now);
  whole = refl;
}

pub loop-actor-preserved : goal.loop-actor-preserved
loop-actor-preserved g c =
    let trace = c.args.trace.now in
    let names = map string_bytes trace.names.now in
    let f = c.args.filter.now in
    let actors = c.args.actors.now in
    let i = c.loop-actor.actor-index in
    let n = c.loop-actor.number in
    let inv = c.loop-actor.invariant in
    let behind : i ≤ n = omega (arith, inv.number) in
    let all : take c.len.result (left_of c.loop-actor.steps n) ≡ steps_in trace n =
    journal-all trace actors i n c.len.result c.actor-item.result c.requires.all inv.number c.loop-actor-test.true c.actor-item.is c.len.ensures.value
    _ (inv.steps n behind) in
    let piece = titled names (codes "actor") n (shown f c.loop-actor.left (steps_in trace n)) in
    record {
      number = ap (λ m. m + 1) inv.number;
      steps = λ a past. journal-left a n i c.len.result (steps_in trace a) _ _ inv.number past (λ le. inv.steps a le) (c.in_ok-left.ensures.steps a);
      so_far = inv.so_far ++ piece;
      written =
          appends-both _ _ _ inv.so_far piece inv.written
          (appends-same _ _ _ piece (ap (λ (l : List Step). titled names (codes "actor") n (shown f c.loop-actor.left l)) all) c.in_ok-left.ensures.text);
      whole =
          journal-next names (codes "actor") f (steps_in trace) c.loop-actor.left i n actors c.actor-item.result inv.number c.loop-actor-test.true
          c.actor-item.is inv.so_far _ inv.whole
          ∙ ap (λ m. inv.so_far ++ piece ++ parts_text names (codes "actor") f m (journal_parts (steps_in trace) (i + 1) (drop (i + 1) actors)))
          (sym (c.in_ok-left.ensures.may_show ∙ ap (λ (l : List Step). c.loop-actor.left - length (filter (is_shown f) l)) all));
    }

pub returns-in_err-left : goal.returns-in_err-left
returns-in_err-left g c =
    let trace = c.args.trace.now in
    let names = map string_bytes trace.names.now in
    let f = c.args.filter.now in
    let actors = c.args.actors.now in
    let i = c.loop-actor.actor-index in
    let n = c.loop-actor.number in
    let inv = c.loop-actor.invariant in
    let behind : i ≤ n = omega (arith, inv.number) in
    let all : take c.len.result (left_of c.loop-actor.steps n) ≡ steps_in trace n =
    journal-all trace actors i n c.len.result c.actor-item.result c.requires.all inv.number c.loop-actor-test.true c.actor-item.is c.len.ensures.value
    _ (inv.steps n behind) in
    let piece = titled names (codes "actor") n (shown f c.loop-actor.left (steps_in trace n)) in
    let rest = parts_text names (codes "actor") f (c.loop-actor.left - length (filter (is_shown f) (steps_in trace n)))
    (journal_parts (steps_in trace) (i + 1) (drop (i + 1) actors)) in
    err-written _ _ _ c.from_residual-in_err-left.result _ c.from_residual-in_err-left.ensures.1
    (begins-within _ _ _ inv.so_far piece rest _ inv.written
    (begins-same _ _ _ piece (ap (λ (l : List Step). titled names (codes "actor") n (shown f c.loop-actor.left l)) all) c.in_err-left.ensures.text)
    (journal-next names (codes "actor") f (steps_in trace) c.loop-actor.left i n actors c.actor-item.result inv.number c.loop-actor-test.true
    c.actor-item.is inv.so_far _ inv.whole))

pub returns : goal.returns
returns g c =
    let trace = c.args.trace.now in
    let inv = c.loop-actor.invariant in
    appends-same _ _ _ _
    (journals-end (map string_bytes trace.names.now) (codes "actor") c.args.filter.now (steps_in trace) c.loop-actor.left c.loop-actor.actor-index
    c.args.actors.now c.loop-actor-test.false inv.so_far _ inv.whole)
    inv.written
