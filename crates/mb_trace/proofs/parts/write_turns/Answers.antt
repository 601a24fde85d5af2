use Rattle.std.proofs.Common.{◌+◌, ◌-◌, ◌++◌, ◌∙◌, List, [], ap, drop, get_or, length, map, refl, string_bytes, sym, take}
use Rattle.std.specs.Prelude.{codes, filter}
use Rattle.mb_trace.specs.Steps.{Step, steps_in}
use Rattle.mb_trace.specs.Text.{entries_in, is_shown, parts_text, shown, titled, turn_parts}
use Rattle.mb_trace.specs.declared.trace.TurnLength.{TurnLength}
use Rattle.mb_trace.proofs.TurnLines.{turn-left, turn-next, turns-end}
use Rattle.mb_trace.proofs.Written.{appends-both, appends-none, appends-same, begins-none, begins-same, begins-within, err-written}
use Rattle.mb_trace.proofs.parts.write_turns.Goals as goal

abbrev none : TurnLength
none = record { actor = record { 0 = 0 }; entries = 0 }

pub returns-in_err-steps : goal.returns-in_err-steps
returns-in_err-steps g c = err-written _ _ _ c.from_residual.result _ c.from_residual.ensures.1 (begins-none (g.W.Write.contents c.args.out.now) _)

pub loop-turn-init : goal.loop-turn-init
loop-turn-init g c = record {
  steps = c.in_ok-steps.ensures;
  so_far = [];
  written = appends-none (g.W.Write.contents c.args.out.now);
  whole = refl;
}

pub loop-turn-preserved : goal.loop-turn-preserved
loop-turn-preserved g c =
    let trace = c.args.trace.now in
    let names = map string_bytes trace.names.now in
    let f = c.args.filter.now in
    let turns = c.args.turns.now in
    let i = c.loop-turn.turn-index in
    let inv = c.loop-turn.invariant in
    let t : TurnLength = get_or turns i none in
    let here = inv.steps t.actor.0 in
    let piece = titled names (codes "turn") t.actor.0 (shown f c.loop-turn.left (take t.entries (drop (entries_in t.actor.0 (take i turns)) (steps_in trace t.actor.0)))) in
    let piece_is = appends-same _ _ _ piece (ap (λ (l : List Step). titled names (codes "turn") t.actor.0 (shown f c.loop-turn.left (take t.entries l))) here)
    c.in_ok-left.ensures.text in
    record {
      steps = λ a. turn-left a i turns none (steps_in trace a) _ _ c.loop-turn-test.true (inv.steps a) (c.in_ok-left.ensures.steps a);
      so_far = inv.so_far ++ piece;
      written = appends-both _ _ _ inv.so_far piece inv.written piece_is;
      whole =
          turn-next names (codes "turn") f (steps_in trace) c.loop-turn.left i turns none c.loop-turn-test.true inv.so_far _ inv.whole
          ∙ ap (λ n. inv.so_far ++ piece ++ parts_text names (codes "turn") f n (turn_parts (steps_in trace) (take (i + 1) turns) (drop (i + 1) turns)))
          (sym (c.in_ok-left.ensures.may_show
          ∙ ap (λ (l : List Step). c.loop-turn.left - length (filter (is_shown f) (take t.entries l))) here));
    }

pub returns-in_err-left : goal.returns-in_err-left
returns-in_err-left g c =
    let trace = c.args.trace.now in
    let names = map string_bytes trace.names.now in
    let f = c.args.filter.now in
    let turns = c.args.turns.now in
    let i = c.loop-turn.turn-index in
    let inv = c.loop-turn.invariant in
    let t : TurnLength = get_or turns i none in
    let here = inv.steps t.actor.0 in
    let part = take t.entries (drop (entries_in t.actor.0 (take i turns)) (steps_in trace t.actor.0)) in
    let piece = titled names (codes "turn") t.actor.0 (shown f c.loop-turn.left part) in
    let rest = parts_text names (codes "turn") f (c.loop-turn.left - length (filter (is_shown f) part))
    (turn_parts (steps_in trace) (take (i + 1) turns) (drop (i + 1) turns)) in
    let cut = begins-same _ _ _ piece (ap (λ (l : List Step). titled names (codes "turn") t.actor.0 (shown f c.loop-turn.left (take t.entries l))) here)
    c.in_err-left.ensures.text in
    err-written _ _ _ c.from_residual-in_err-left.result _ c.from_residual-in_err-left.ensures.1
    (begins-within _ _ _ inv.so_far piece rest _ inv.written cut
    (turn-next names (codes "turn") f (steps_in trace) c.loop-turn.left i turns none c.loop-turn-test.true inv.so_far _ inv.whole))

pub returns : goal.returns
returns g c =
    let trace = c.args.trace.now in
    let inv = c.loop-turn.invariant in
    appends-same _ _ _ _
    (turns-end (map string_bytes trace.names.now) (codes "turn") c.args.filter.now (steps_in trace) c.loop-turn.left c.loop-turn.turn-index
    c.args.turns.now c.loop-turn-test.false inv.so_far _ inv.whole)
    inv.written
