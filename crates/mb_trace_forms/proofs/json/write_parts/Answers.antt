use Rattle.std.proofs.Common.{◌≡◌, ◌+◌, ◌-◌, ◌++◌, ◌∙◌, List, [], ap, arith, drop, get_or, length, sym, take}
use Rattle.std.specs.Prelude.{filter}
use Rattle.std.proofs.lemmas.List.{take_all}
use Rattle.mb_trace.specs.Cursors.{left_of}
use Rattle.mb_trace.specs.Steps.{Step, steps_in}
use Rattle.mb_trace.specs.Text.{entries_in, is_shown, turn_parts}
use Rattle.mb_trace.specs.Whole.{names_in}
use Rattle.mb_trace.specs.declared.trace.TurnLength.{TurnLength}
use Rattle.mb_trace.proofs.TurnLines.{turn-left}
use Rattle.mb_trace.proofs.Written.{appends-both, appends-none, appends-same, begins-none, begins-within, err-written}
use Rattle.mb_trace_forms.specs.Json.{entries_json}
use Rattle.mb_trace_forms.specs.Order.{all_steps, part_steps}
use Rattle.mb_trace_forms.proofs.Lines.{left-append, lines-append, lines-none}
use Rattle.mb_trace_forms.proofs.Parts.{lines-rest, steps-more}
use Rattle.mb_trace_forms.proofs.json.write_parts.Goals as goal

abbrev none : TurnLength
none = record { actor = record { 0 = 0 }; entries = 0 }

pub returns-in_err-shown : goal.returns-in_err-shown
returns-in_err-shown g c =
    err-written _ _ _ c.from_residual.result _ c.from_residual.ensures.1 (begins-none (g.W.Write.contents c.args.out.now) _)

pub loop-part-init : goal.loop-part-init
loop-part-init g c =
    let f = c.args.filter.now in
    let all : f.limit ≡ f.limit - 0 = omega arith in
    record {
      steps = c.in_ok-shown.ensures.steps;
      same_filter = c.in_ok-shown.ensures.filter;
      left = c.in_ok-shown.ensures.left ∙ all;
      written = appends-same _ _ [] _ (sym (lines-none (names_in c.args.trace.now) f f.limit)) (appends-none (g.W.Write.contents c.args.out.now));
    }

pub loop-part-preserved : goal.loop-part-preserved
loop-part-preserved g c =
    let trace = c.args.trace.now in
    let names = names_in trace in
    let f = c.args.filter.now in
    let parts = c.args.parts.now in
    let i = c.loop-part.part-index in
    let within = c.loop-part-test.true in
    let inv = c.loop-part.invariant in
    let past = c.in_ok-write_part.ensures.past in
    let t : TurnLength = get_or parts i none in
    let before : List Step = part_steps trace (take i parts) in
    let piece : List Step = take t.entries (drop (entries_in t.actor.0 (take i parts)) (steps_in trace t.actor.0)) in
    let more = steps-more trace parts i none within in
    let lines = entries_json names f f.limit before in
    let next = entries_json names c.loop-part.shown.filter c.loop-part.shown.left (take t.entries (left_of c.loop-part.shown.steps t.actor.0)) in
    record {
      steps = λ a. turn-left a i parts none (steps_in trace a) _ _ within (inv.steps a) (past.steps a);
      same_filter = past.same_filter ∙ inv.same_filter;
      left =
          past.left
          ∙ ((λ j. inv.left j - length (filter (is_shown (inv.same_filter j)) (take t.entries (inv.steps t.actor.0 j))))
          ∙ (sym (left-append f f.limit before piece) ∙ ap (λ (l : List Step). f.limit - length (filter (is_shown f) l)) (sym more)));
      written = appends-same _ _ (lines ++ next) _
          ((λ j. lines ++ entries_json names (inv.same_filter j) (inv.left j) (take t.entries (inv.steps t.actor.0 j)))
          ∙ (sym (lines-append names f f.limit before piece) ∙ ap (λ (l : List Step). entries_json names f f.limit l) (sym more)))
          (appends-both _ _ _ lines next inv.written c.in_ok-write_part.ensures.text);
    }

pub returns-in_err-write_part : goal.returns-in_err-write_part
returns-in_err-write_part g c =
    let trace = c.args.trace.now in
    let names = names_in trace in
    let f = c.args.filter.now in
    let parts = c.args.parts.now in
    let i = c.loop-part.part-index in
    let within = c.loop-part-test.true in
    let inv = c.loop-part.invariant in
    let t : TurnLength = get_or parts i none in
    let before : List Step = part_steps trace (take i parts) in
    let piece : List Step = take t.entries (drop (entries_in t.actor.0 (take i parts)) (steps_in trace t.actor.0)) in
    let more = steps-more trace parts i none within in
    let so_far = entries_json names f f.limit before in
    let next = entries_json names c.loop-part.shown.filter c.loop-part.shown.left (take t.entries (left_of c.loop-part.shown.steps t.actor.0)) in
    let lines = (λ j. entries_json names f f.limit before ++ entries_json names (inv.same_filter j) (inv.left j) (take t.entries (inv.steps t.actor.0 j)))
    ∙ (sym (lines-append names f f.limit before piece) ∙ ap (λ (l : List Step). entries_json names f f.limit l) (sym more)) in
    let rest = entries_json names f (f.limit - length (filter (is_shown f) (part_steps trace (take (i + 1) parts))))
    (all_steps (turn_parts (steps_in trace) (take (i + 1) parts) (drop (i + 1) parts))) in
    err-written _ _ _ c.from_residual-in_err-write_part.result _ c.from_residual-in_err-write_part.ensures.1
    (begins-within _ _ _ so_far next rest _ inv.written c.in_err-write_part.ensures.text
    (lines-rest trace parts (i + 1) names f f.limit ∙ ap (λ l. l ++ rest) (sym lines)))

pub returns : goal.returns
returns g c =
    let trace = c.args.trace.now in
    let f = c.args.filter.now in
    let all = take_all c.loop-part.part-index c.args.parts.now c.loop-part-test.false in
    appends-same _ _ _ _ (ap (λ l. entries_json (names_in trace) f f.limit (part_steps trace l)) all) c.loop-part.invariant.written
