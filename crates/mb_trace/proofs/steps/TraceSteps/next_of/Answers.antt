use Rattle.std.proofs.Common.{◌≡◌, ℕ, List, length, set, slice_get, true, ◌<◌, ◌≤◌, ◌∙◌, sym, ap, subst, arith}
use Rattle.std.specs.Prelude.{◌==◌, if◌then◌else◌, OnOk, OnErr, drop}
use Rattle.std.proofs.lemmas.List.Elements.{All-get_or}
use Rattle.mb_report.specs.declared.report.ActorReport.{ActorReport}
use Rattle.mb_trace.specs.Actors.{who_in}
use Rattle.mb_trace.specs.Cursors.{left_from, left_of}
use Rattle.mb_trace.specs.Steps.{Step, steps_in}
use Rattle.mb_trace.specs.declared.cursor.JournalCursor.{JournalCursor}
use Rattle.mb_trace.proofs.At.{IsIn, are-moved, at-all, at-own, found-in, journal-at}
use Rattle.mb_trace.proofs.Left.{first-left, left-at, left-kept, left-next, left-past, none-left}
use Rattle.mb_trace.proofs.steps.TraceSteps.next_of.Goals as goal

pub returns-then-number-len-clause-found : goal.returns-then-number-len-clause-found
returns-then-number-len-clause-found c =
    let cursors = c.self.inside.cursors.items in
    let past : length cursors ≤ c.args.actor.0 = omega (arith, c.if-number-len.true, c.len.ensures, c.self.invariant.as_many) in
    let none = ap (λ (l : List (List Step)). left_of l c.args.actor.0) (sym c.self.view_is) ∙ left-past c.self.inside.trace cursors c.args.actor.0 past in
    ap (λ (l : List Step). slice_get l 0) (sym none)

pub returns-then-number-len-clause-left : goal.returns-then-number-len-clause-left
returns-then-number-len-clause-left c =
    let cursors = c.self.inside.cursors.items in
    let past : length cursors ≤ c.args.actor.0 = omega (arith, c.if-number-len.true, c.len.ensures, c.self.invariant.as_many) in
    none-left c.args.self.now c.args.actor.0
    (ap (λ (l : List (List Step)). left_of l c.args.actor.0) (sym c.self.view_is) ∙ left-past c.self.inside.trace cursors c.args.actor.0 past)

pub pass-requires-clause-kept : goal.pass-requires-clause-kept
pass-requires-clause-kept c =
    let trace = c.self.inside.trace in
    let among : c.args.actor.0 < length trace.report.now.actors.items = omega (arith, c.if-number-len.false, c.len.ensures) in
    subst (λ (a : ActorReport). a.journal.retention.keeps_all ≡ true) (sym c.index.ensures)
    (All-get_or (λ (a : ActorReport). a.journal.retention.keeps_all ≡ true) trace.report.now.actors.items c.args.actor.0 c.index.result.now among trace.kept.journals)

pub invariant_of-self : goal.invariant_of-self
invariant_of-self c =
    let trace = c.self.inside.trace in
    let n = c.args.actor.0 in
    let kept = c.self.invariant in
    let among : n < length trace.report.now.actors.items = omega (arith, c.if-number-len.false, c.len.ensures) in
    let within : n < length c.self.inside.cursors.items = omega (arith, among, kept.as_many) in
    let old = c.index_mut.result.now in
    let journal = journal-at trace.report.now.actors.items n c.index.result.now among c.index.ensures in
    let script = c.rules_of-rules.ensures.script in
    let are = c.rules_of-rules.ensures.rules (c.deref.ensures.value ∙ kept.prepared_are) in
    let here = subst (λ (x : JournalCursor). IsIn trace n x) (sym c.index_mut.ensures.value) (kept.each n old within) in
    are-moved trace _ _ n c.pass.new.self kept within
    (at-all trace n _ _ c.pass.new.self script journal
    (c.pass.ensures.at (who_in trace.plan.now n) are (at-own trace n _ _ old script journal here)))

pub returns-clause-found : goal.returns-clause-found
returns-clause-found c =
    let trace = c.self.inside.trace in
    let n = c.args.actor.0 in
    let kept = c.self.invariant in
    let among : n < length trace.report.now.actors.items = omega (arith, c.if-number-len.false, c.len.ensures) in
    let within : n < length c.self.inside.cursors.items = omega (arith, among, kept.as_many) in
    let old = c.index_mut.result.now in
    let journal = journal-at trace.report.now.actors.items n c.index.result.now among c.index.ensures in
    let script = c.rules_of-rules.ensures.script in
    let are = c.rules_of-rules.ensures.rules (c.deref.ensures.value ∙ kept.prepared_are) in
    let here = subst (λ (x : JournalCursor). IsIn trace n x) (sym c.index_mut.ensures.value) (kept.each n old within) in
    let found = found-in c.pass.result trace n old.next _ _ script journal
    (c.pass.ensures.found (who_in trace.plan.now n) are (at-own trace n _ _ old script journal here)) in
    let left = ap (λ (l : List (List Step)). left_of l n) (sym c.self.view_is)
    ∙ (left-at trace c.self.inside.cursors.items n old within
    ∙ ap (λ (x : JournalCursor). drop x.next (steps_in trace n)) (sym c.index_mut.ensures.value)) in
    first-left c.pass.result (steps_in trace n) (left_of c.args.self.now n) old.next left found

pub returns-clause-left : goal.returns-clause-left
returns-clause-left c =
    let trace = c.self.inside.trace in
    let n = c.args.actor.0 in
    let kept = c.self.invariant in
    let among : n < length trace.report.now.actors.items = omega (arith, c.if-number-len.false, c.len.ensures) in
    let within : n < length c.self.inside.cursors.items = omega (arith, among, kept.as_many) in
    let old = c.index_mut.result.now in
    let journal = journal-at trace.report.now.actors.items n c.index.result.now among c.index.ensures in
    let script = c.rules_of-rules.ensures.script in
    let are = c.rules_of-rules.ensures.rules (c.deref.ensures.value ∙ kept.prepared_are) in
    let here = subst (λ (x : JournalCursor). IsIn trace n x) (sym c.index_mut.ensures.value) (kept.each n old within) in
    let found = found-in c.pass.result trace n old.next _ _ script journal
    (c.pass.ensures.found (who_in trace.plan.now n) are (at-own trace n _ _ old script journal here)) in
    subst (λ (l : List (List Step)). OnOk c.pass.result ((a : ℕ) → left_of (left_from trace 0 (set c.self.inside.cursors.items n c.pass.new.self)) a
    ≡ drop (if a == n then 1 else 0) (left_of l a))) c.self.view_is
    (left-next c.pass.result trace c.self.inside.cursors.items n old c.pass.new.self within c.index_mut.ensures.value found c.pass.ensures.next)

pub returns-clause-err : goal.returns-clause-err
returns-clause-err c =
    let trace = c.self.inside.trace in
    let n = c.args.actor.0 in
    let among : n < length trace.report.now.actors.items = omega (arith, c.if-number-len.false, c.len.ensures) in
    let within : n < length c.self.inside.cursors.items = omega (arith, among, c.self.invariant.as_many) in
    subst (λ (l : List (List Step)). OnErr c.pass.result ((a : ℕ) → left_of (left_from trace 0 (set c.self.inside.cursors.items n c.pass.new.self)) a
    ≡ left_of l a)) c.self.view_is
    (left-kept c.pass.result trace c.self.inside.cursors.items n c.index_mut.result.now c.pass.new.self within c.index_mut.ensures.value
    c.pass.ensures.err)
