use Rattle.std.proofs.Common.{◌≡◌, ℕ, ◌++◌, ◌<◌, ◌≤◌, ◌∙◌, List, [], None, Some, ap, arith, drop, false, get_or, length, map, refl, reverse, slice_get, string_bytes, sym, take, true}
use Rattle.std.specs.Prelude.{codes, if◌then◌else◌}
use Rattle.mb_causal_order.specs.Places.{entries_placed}
use Rattle.mb_causal_order.specs.declared.place.Place.{Place}
use Rattle.mb_trace.specs.Steps.{Step, step_data, steps_in}
use Rattle.mb_trace.specs.Text.{is_above, is_shown, step_text, title_text}
use Rattle.mb_trace.proofs.Left.{steps-past}
use Rattle.mb_trace.proofs.OrderLines.{grown, next-found, next-full, next-left_out, next-none, next-shown, order-end, placed-left, placed-none}
use Rattle.mb_trace.proofs.Written.{appends-both, appends-same, begins-first, begins-same, begins-whole, begins-within, err-written}
use Rattle.mb_trace.proofs.on_threads.write_in_order.Goals as goal

abbrev none : Place
none = record { actor = 0; index = 0 }

abbrev header : List ℕ
header = codes "on threads: one order that agrees with what caused what, not that of the clock\n"

pub returns-in_err-write_whole : goal.returns-in_err-write_whole
returns-in_err-write_whole g c =
    err-written _ _ _ c.from_residual.result _ c.from_residual.ensures.1
    (begins-first _ _ header _ (begins-same _ _ _ header c.as_bytes.ensures.value c.in_err-write_whole.ensures))

pub returns-in_err-steps : goal.returns-in_err-steps
returns-in_err-steps g c =
    err-written _ _ _ c.from_residual-in_err-steps.result _ c.from_residual-in_err-steps.ensures.1
    (begins-whole _ _ header _ _ (appends-same _ _ _ header c.as_bytes.ensures.value c.in_ok-write_whole.ensures) refl)

pub loop-place-init : goal.loop-place-init
loop-place-init g c = record {
  steps = c.in_ok-steps.ensures;
  so_far = header;
  written = appends-same _ _ _ header c.as_bytes.ensures.value c.in_ok-write_whole.ensures;
  whole = refl;
}

pub loop-place-preserved-then-place-len : goal.loop-place-preserved-then-place-len
loop-place-preserved-then-place-len g c =
    let trace = c.args.trace.now in
    let names = map string_bytes trace.names.now in
    let f = c.args.filter.now in
    let order = c.args.order.now in
    let i = c.loop-place.place-index in
    let inv = c.loop-place.invariant in
    let p : Place = get_or order i none in
    let before = reverse (take i order) in
    let past : length trace.report.now.actors.items ≤ p.actor = omega (arith, c.if-place-len.true, c.len.ensures) in
    let nobody = steps-past trace p.actor past in
    record {
      steps = λ a.
          placed-none a p before (steps_in trace) _ nobody (inv.steps a)
          ∙ ap (λ b. drop (entries_placed a b) (steps_in trace a)) (sym (grown order i none c.loop-place-test.true));
      so_far = inv.so_far;
      written = inv.written;
      whole = next-none names f (steps_in trace) order i none c.loop-place-test.true c.loop-place.above c.loop-place.left inv.so_far _ inv.whole
          (ap (λ (l : List Step). slice_get l (entries_placed p.actor before)) nobody);
    }

pub returns-in_err-step : goal.returns-in_err-step
returns-in_err-step g c =
    let inv = c.loop-place.invariant in
    err-written _ _ _ c.from_residual-in_err-step.result _ c.from_residual-in_err-step.ensures.1
    (begins-whole _ _ inv.so_far _ _ inv.written inv.whole)

pub loop-place-preserved-in_default : goal.loop-place-preserved-in_default
loop-place-preserved-in_default g c =
    let trace = c.args.trace.now in
    let names = map string_bytes trace.names.now in
    let f = c.args.filter.now in
    let order = c.args.order.now in
    let i = c.loop-place.place-index in
    let inv = c.loop-place.invariant in
    let p : Place = get_or order i none in
    let before = reverse (take i order) in
    let found = next-found _ (steps_in trace p.actor) (entries_placed p.actor before) _ None (inv.steps p.actor) c.in_default.is
    c.in_ok-step.ensures.found in
    record {
      steps = λ a.
          placed-left a p before (steps_in trace a) _ _ (inv.steps a) (c.in_ok-step.ensures.left a)
          ∙ ap (λ b. drop (entries_placed a b) (steps_in trace a)) (sym (grown order i none c.loop-place-test.true));
      so_far = inv.so_far;
      written = inv.written;
      whole = next-none names f (steps_in trace) order i none c.loop-place-test.true c.loop-place.above c.loop-place.left inv.so_far _ inv.whole found;
    }

pub loop-place-preserved-then-left-eq0 : goal.loop-place-preserved-then-left-eq0
loop-place-preserved-then-left-eq0 g c =
    let trace = c.args.trace.now in
    let names = map string_bytes trace.names.now in
    let f = c.args.filter.now in
    let order = c.args.order.now in
    let i = c.loop-place.place-index in
    let inv = c.loop-place.invariant in
    let p : Place = get_or order i none in
    let before = reverse (take i order) in
    record {
      steps = λ a.
          placed-left a p before (steps_in trace a) _ _ (inv.steps a) (c.in_ok-step.ensures.left a)
          ∙ ap (λ b. drop (entries_placed a b) (steps_in trace a)) (sym (grown order i none c.loop-place-test.true));
      so_far = inv.so_far;
      written = inv.written;
      whole = next-full names f (steps_in trace) order i none c.loop-place-test.true c.loop-place.above c.loop-place.left inv.so_far _ inv.whole c.if-left-eq0.true;
    }

pub loop-place-preserved-then-not-passes : goal.loop-place-preserved-then-not-passes
loop-place-preserved-then-not-passes g c =
    let trace = c.args.trace.now in
    let names = map string_bytes trace.names.now in
    let f = c.args.filter.now in
    let order = c.args.order.now in
    let i = c.loop-place.place-index in
    let inv = c.loop-place.invariant in
    let p : Place = get_or order i none in
    let before = reverse (take i order) in
    let found = next-found _ (steps_in trace p.actor) (entries_placed p.actor before) _ (Some c.in-Some.step) (inv.steps p.actor) c.in-Some.is
    c.in_ok-step.ensures.found in
    let out : is_shown f (step_data c.in-Some.step) ≡ false = sym c.passes.ensures ∙ c.if-not-passes.true in
    record {
      steps = λ a.
          placed-left a p before (steps_in trace a) _ _ (inv.steps a) (c.in_ok-step.ensures.left a)
          ∙ ap (λ b. drop (entries_placed a b) (steps_in trace a)) (sym (grown order i none c.loop-place-test.true));
      so_far = inv.so_far;
      written = inv.written;
      whole = next-left_out names f (steps_in trace) order i none c.loop-place-test.true c.loop-place.above c.loop-place.left inv.so_far _ inv.whole (step_data c.in-Some.step) found out;
    }

pub loop-place-preserved : goal.loop-place-preserved
loop-place-preserved g c =
    let trace = c.args.trace.now in
    let names = map string_bytes trace.names.now in
    let f = c.args.filter.now in
    let order = c.args.order.now in
    let i = c.loop-place.place-index in
    let inv = c.loop-place.invariant in
    let p : Place = get_or order i none in
    let before = reverse (take i order) in
    let found = next-found _ (steps_in trace p.actor) (entries_placed p.actor before) _ (Some c.in-Some.step) (inv.steps p.actor) c.in-Some.is
    c.in_ok-step.ensures.found in
    let s = step_data c.in-Some.step in
    let passes : is_shown f s ≡ true = sym c.passes.ensures ∙ c.if-not-passes.false in
    let some : 0 < c.loop-place.left = omega (arith, c.if-left-eq0.false) in
    let piece = (if is_above c.loop-place.above s.actor then [] else title_text names (codes "actor") s.actor) ++ step_text names s in
    record {
      steps = λ a.
          placed-left a p before (steps_in trace a) _ _ (inv.steps a) (c.in_ok-step.ensures.left a)
          ∙ ap (λ b. drop (entries_placed a b) (steps_in trace a)) (sym (grown order i none c.loop-place-test.true));
      so_far = inv.so_far ++ piece;
      written = appends-both _ _ _ inv.so_far piece inv.written c.in_ok-write_next.ensures;
      whole = next-shown names f (steps_in trace) order i none c.loop-place-test.true c.loop-place.above c.loop-place.left inv.so_far _ inv.whole s found passes some;
    }

pub returns-in_err-write_next : goal.returns-in_err-write_next
returns-in_err-write_next g c =
    let trace = c.args.trace.now in
    let names = map string_bytes trace.names.now in
    let f = c.args.filter.now in
    let order = c.args.order.now in
    let i = c.loop-place.place-index in
    let inv = c.loop-place.invariant in
    let p : Place = get_or order i none in
    let before = reverse (take i order) in
    let found = next-found _ (steps_in trace p.actor) (entries_placed p.actor before) _ (Some c.in-Some.step) (inv.steps p.actor) c.in-Some.is
    c.in_ok-step.ensures.found in
    let s = step_data c.in-Some.step in
    let passes : is_shown f s ≡ true = sym c.passes.ensures ∙ c.if-not-passes.false in
    let some : 0 < c.loop-place.left = omega (arith, c.if-left-eq0.false) in
    let piece = (if is_above c.loop-place.above s.actor then [] else title_text names (codes "actor") s.actor) ++ step_text names s in
    err-written _ _ _ c.from_residual-in_err-write_next.result _ c.from_residual-in_err-write_next.ensures.1
    (begins-within _ _ _ inv.so_far piece _ _ inv.written c.in_err-write_next.ensures
    (next-shown names f (steps_in trace) order i none c.loop-place-test.true c.loop-place.above c.loop-place.left inv.so_far _ inv.whole s found passes some))

pub returns : goal.returns
returns g c =
    let trace = c.args.trace.now in
    let inv = c.loop-place.invariant in
    appends-same _ _ _ _
    (order-end (map string_bytes trace.names.now) c.args.filter.now (steps_in trace) c.args.order.now c.loop-place.place-index c.loop-place.above
    c.loop-place.left inv.so_far _ c.loop-place-test.false inv.whole)
    inv.written
