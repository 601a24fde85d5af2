use Rattle.std.proofs.Common.{◌≡◌, ◌++◌, ap, subst, sym, true, ◌∙◌}
use Rattle.std.specs.List.{flat_map}
use Rattle.std.proofs.lemmas.List.{append-nil, take_all}
use Rattle.std.proofs.lemmas.List.Elements.{All-get_or}
use Rattle.std.proofs.lemmas.Result.{IfOk-from_err}
use Rattle.mb_report.specs.declared.report.ActorReport.{ActorReport}
use Rattle.mb_trace_forms.specs.Letters.{cleaned}
use Rattle.mb_trace_forms.proofs.Added.{given-more}
use Rattle.mb_trace_forms.proofs.letters.add_all_cleaned.Goals as goal

pub loop-actor-init : goal.loop-actor-init
loop-actor-init c = sym (append-nil c.args.letters.now.items)

pub loop-actor-preserved : goal.loop-actor-preserved
loop-actor-preserved c =
    let at = c.loop-actor in let f = c.args.filter.now in let x = c.actor-item.result in
    let all = All-get_or (λ (r : ActorReport). r.cleaned.retention.keeps_all ≡ true) c.args.actors.now at.actor-index x c.loop-actor-test.true c.requires.kept in
    let kept : x.cleaned.retention.keeps_all ≡ true = subst (λ (r : ActorReport). r.cleaned.retention.keeps_all ≡ true) (sym c.actor-item.is) all in
    given-more (λ (r : ActorReport). cleaned f r.cleaned.items) c.args.actors.now at.actor-index c.actor-item.result _ _ _ c.loop-actor-test.true
    c.actor-item.is at.invariant (c.in_ok-add_cleaned.ensures ∙ ap (λ l. at.letters.items ++ cleaned f l) (c.kept.ensures.value ∙ c.kept.ensures.all kept))

pub returns-in_err-add_cleaned : goal.returns-in_err-add_cleaned
returns-in_err-add_cleaned c = IfOk-from_err c.from_residual.result _ c.from_residual.ensures.0

pub returns : goal.returns
returns c =
    let actors = c.args.actors.now in let f = c.args.filter.now in
    c.loop-actor.invariant ∙ ap (λ l. c.args.letters.now.items ++ flat_map (λ (r : ActorReport). cleaned f r.cleaned.items) l)
    (take_all c.loop-actor.actor-index actors c.loop-actor-test.false)
