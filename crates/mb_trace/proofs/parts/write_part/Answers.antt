use Rattle.std.proofs.Common.{◌≡◌, ℕ, ◌<◌, ◌≤◌, ◌∙◌, ◌-◌, Bool, List, [], zero, suc, length, ap, arith, drop, map, refl, string_bytes, sym, take, false, true}
use Rattle.std.specs.Prelude.{◌==◌, filter, if◌then◌else◌}
use Rattle.mb_trace.specs.Cursors.{left_of}
use Rattle.mb_trace.specs.Steps.{Step, step_data}
use Rattle.mb_trace.specs.Text.{is_shown, titled}
use Rattle.mb_trace.proofs.PartLines.{at_end, full, kept-end, left-more, left_out, lines-begin, lines-cut, lines-more, passed, past-end, there}
use Rattle.mb_trace.proofs.Shown.{any-more, has_any, seen}
use Rattle.mb_trace.proofs.Written.{appends-both, appends-none, appends-same, err-written}
use Rattle.mb_trace.proofs.parts.write_part.Given as given
use Rattle.mb_trace.proofs.parts.write_part.Goals as goal

pub loop-entry-init : goal.loop-entry-init
loop-entry-init g c = record {
  steps = λ a. nothing (a == c.args.part.actor.0) (left_of c.args.steps.now a);
  may_show = omega arith;
  has_title = ap has_any (sym (empty c.args.left));
  written =
      appends-same _ _ _ _ (ap (titled (map string_bytes c.args.names.now) c.args.part.title.now c.args.part.actor.0) (sym (empty c.args.left)))
      (appends-none (g.W.Write.contents c.args.out.now));
}
  where
    nothing : (b : Bool) (l : List Step) → l ≡ drop (if b then 0 else 0) l
    nothing true l = refl
    nothing false l = refl

    empty : (n : ℕ) → take n (let none : List Step = [] in none) ≡ []
    empty zero = refl
    empty (suc n) = refl

pub loop-entry-preserved : goal.loop-entry-preserved
loop-entry-preserved g c =
    let p = is_shown c.args.filter.now in
    let n = c.args.part.actor.0 in
    let xs = left_of c.args.steps.now n in
    let i = c.loop-entry._entry in
    let inv = c.loop-entry.invariant in
    let names = map string_bytes c.args.names.now in
    let s = c.in-Some.step in
    let found = there n i xs _ _ s (inv.steps n) c.in-Some.is c.in_ok-step.ensures.found in
    let some : 0 < c.loop-entry.may_show = omega (arith, c.if-may_show-eq0.false) in
    let passes : p (step_data s) ≡ true = sym c.passes.ensures ∙ c.if-not-passes.false in
    let more = passed p c.args.left xs i (step_data s) found _ inv.may_show some passes in
    record {
      steps = λ a. left-more (a == n) i _ _ _ (inv.steps a) (c.in_ok-step.ensures.left a);
      may_show = more.1;
      has_title = sym (ap has_any more.0 ∙ any-more (seen p c.args.left (take i xs)) (step_data s));
      written =
          appends-same _ _ _ _
          (lines-more p c.args.left xs i (step_data s) found names c.args.part.title.now n c.loop-entry.has_title more.0 inv.has_title)
          (appends-both _ _ _ _ _ inv.written c.in_ok-write_below.ensures);
    }

pub returns-in_err-write_below-clause-text : goal.returns-in_err-write_below-clause-text
returns-in_err-write_below-clause-text g c =
    let p = is_shown c.args.filter.now in
    let n = c.args.part.actor.0 in
    let xs = left_of c.args.steps.now n in
    let i = c.loop-entry._entry in
    let inv = c.loop-entry.invariant in
    let names = map string_bytes c.args.names.now in
    let s = c.in-Some.step in
    let found = there n i xs _ _ s (inv.steps n) c.in-Some.is c.in_ok-step.ensures.found in
    let some : 0 < c.loop-entry.may_show = omega (arith, c.if-may_show-eq0.false) in
    let passes : p (step_data s) ≡ true = sym c.passes.ensures ∙ c.if-not-passes.false in
    let more = passed p c.args.left xs i (step_data s) found _ inv.may_show some passes in
    err-written _ _ _ c.from_residual-in_err-write_below.result _ c.from_residual-in_err-write_below.ensures.1
    (lines-cut p c.args.left xs i (step_data s) found names c.args.part.title.now n c.loop-entry.has_title c.args.part.entries _ _ _
    c.loop-entry-test.true more.0 inv.has_title inv.written c.in_err-write_below.ensures)

pub returns-in_err-step-clause-text : goal.returns-in_err-step-clause-text
returns-in_err-step-clause-text g c =
    let inv = c.loop-entry.invariant in
    err-written _ _ _ c.from_residual.result _ c.from_residual.ensures.1
    (lines-begin (is_shown c.args.filter.now) c.args.left (left_of c.args.steps.now c.args.part.actor.0) c.loop-entry._entry c.args.part.entries
    (map string_bytes c.args.names.now) c.args.part.title.now c.args.part.actor.0 _ _ (omega (arith, c.loop-entry-test.true)) inv.written)

pub loop-entry-preserved-then-may_show-eq0 : goal.loop-entry-preserved-then-may_show-eq0
loop-entry-preserved-then-may_show-eq0 g c =
    let p = is_shown c.args.filter.now in
    let n = c.args.part.actor.0 in
    let xs = left_of c.args.steps.now n in
    let i = c.loop-entry._entry in
    let inv = c.loop-entry.invariant in
    let names = map string_bytes c.args.names.now in
    let s = c.in-Some.step in
    let found = there n i xs _ _ s (inv.steps n) c.in-Some.is c.in_ok-step.ensures.found in
    let same = full p c.args.left xs i (step_data s) found _ inv.may_show c.if-may_show-eq0.true in
    record {
      steps = λ a. left-more (a == n) i _ _ _ (inv.steps a) (c.in_ok-step.ensures.left a);
      may_show = same.1;
      has_title = inv.has_title ∙ ap has_any (sym same.0);
      written = appends-same _ _ _ _ (ap (titled names c.args.part.title.now n) (sym same.0)) inv.written;
    }

pub loop-entry-preserved-then-not-passes : goal.loop-entry-preserved-then-not-passes
loop-entry-preserved-then-not-passes g c =
    let p = is_shown c.args.filter.now in
    let n = c.args.part.actor.0 in
    let xs = left_of c.args.steps.now n in
    let i = c.loop-entry._entry in
    let inv = c.loop-entry.invariant in
    let names = map string_bytes c.args.names.now in
    let s = c.in-Some.step in
    let found = there n i xs _ _ s (inv.steps n) c.in-Some.is c.in_ok-step.ensures.found in
    let out : p (step_data s) ≡ false = sym c.passes.ensures ∙ c.if-not-passes.true in
    let same = left_out p c.args.left xs i (step_data s) found _ inv.may_show out in
    record {
      steps = λ a. left-more (a == n) i _ _ _ (inv.steps a) (c.in_ok-step.ensures.left a);
      may_show = same.1;
      has_title = inv.has_title ∙ ap has_any (sym same.0);
      written = appends-same _ _ _ _ (ap (titled names c.args.part.title.now n) (sym same.0)) inv.written;
    }

pub returns : goal.returns
returns g c =
    let inv = c.loop-entry.invariant in
    let same : c.loop-entry._entry ≡ c.args.part.entries = omega (arith, c.loop-entry-test.false, c.loop-entry.auto._entry-end) in
    let xs = left_of c.args.steps.now c.args.part.actor.0 in
    record {
      text =
          appends-same _ _ _ _
          (ap (λ k. titled (map string_bytes c.args.names.now) c.args.part.title.now c.args.part.actor.0
          (seen (is_shown c.args.filter.now) c.args.left (take k xs))) same)
          inv.written;
      may_show = inv.may_show ∙ ap (λ k. c.args.left - length (filter (is_shown c.args.filter.now) (take k xs))) same;
      steps = λ a. inv.steps a ∙ ap (λ k. drop (if a == c.args.part.actor.0 then k else 0) (left_of c.args.steps.now a)) same;
    }

past : (g : given.Over) (c : goal.In_default g) →
    length (left_of c.args.steps.now c.args.part.actor.0) ≤ c.loop-entry._entry
past g c =
    at_end c.args.part.actor.0 c.loop-entry._entry (left_of c.args.steps.now c.args.part.actor.0) _ _ (c.loop-entry.invariant.steps c.args.part.actor.0)
    c.in_default.is c.in_ok-step.ensures.found

pub returns-in_default-clause-text : goal.returns-in_default-clause-text
returns-in_default-clause-text g c =
    let xs = left_of c.args.steps.now c.args.part.actor.0 in
    appends-same _ _ _ _
    (ap (λ (l : List Step). titled (map string_bytes c.args.names.now) c.args.part.title.now c.args.part.actor.0
    (seen (is_shown c.args.filter.now) c.args.left l))
    (past-end xs c.loop-entry._entry c.args.part.entries (past g c) (omega (arith, c.loop-entry-test.true))))
    c.loop-entry.invariant.written

pub returns-in_default-clause-may_show : goal.returns-in_default-clause-may_show
returns-in_default-clause-may_show g c =
    let xs = left_of c.args.steps.now c.args.part.actor.0 in
    c.loop-entry.invariant.may_show
    ∙ ap (λ (l : List Step). c.args.left - length (filter (is_shown c.args.filter.now) l))
    (past-end xs c.loop-entry._entry c.args.part.entries (past g c) (omega (arith, c.loop-entry-test.true)))

pub returns-in_default-clause-steps : goal.returns-in_default-clause-steps
returns-in_default-clause-steps g c = λ a.
    let n = c.args.part.actor.0 in
    let xs = left_of c.args.steps.now n in
    let le : c.loop-entry._entry ≤ c.args.part.entries = omega (arith, c.loop-entry-test.true) in
    kept-end a n c.loop-entry._entry c.args.part.entries (left_of c.args.steps.now a) (left_of c.loop-entry.steps a) (left_of c.next_of.new.self a) xs
    (λ (same : a ≡ n). ap (λ m. left_of c.args.steps.now m) same) (past g c) le (c.loop-entry.invariant.steps a) (c.in_ok-step.ensures.left a)
