use Rattle.std.proofs.Common.{◌≡◌, ◌++◌, [], ap, subst, sym, true, ◌∙◌}
use Rattle.std.proofs.lemmas.List.Elements.{All-get_or}
use Rattle.mb_report.specs.declared.report.SenderReport.{SenderReport}
use Rattle.mb_trace_forms.specs.Letters.{refused}
use Rattle.mb_trace_forms.proofs.Added.{given-more}
use Rattle.mb_trace_forms.proofs.letters.refused_of.Goals as goal

pub loop-sender-preserved : goal.loop-sender-preserved
loop-sender-preserved c =
    let at = c.loop-sender in let f = c.args.filter.now in let x = c.sender-item.result in
    let all = All-get_or (λ (s : SenderReport). s.dead.retention.keeps_all ≡ true) c.args.senders.now at.sender-index x c.loop-sender-test.true c.requires.kept in
    let kept : x.dead.retention.keeps_all ≡ true = subst (λ (s : SenderReport). s.dead.retention.keeps_all ≡ true) (sym c.sender-item.is) all in
    given-more (λ (s : SenderReport). refused f s.dead.items) c.args.senders.now at.sender-index x [] _ _ c.loop-sender-test.true
    c.sender-item.is at.invariant
    (c.in_ok-add_refused.ensures ∙ ap (λ l. at.letters.items ++ refused f l) (c.kept.ensures.value ∙ c.kept.ensures.all kept))
