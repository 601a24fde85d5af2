use Rattle.std.proofs.Common.{◌≡◌, ◌∙◌, List, ap, length, map, string_bytes}
use Rattle.mb_report.specs.declared.report.ActorReport.{ActorReport}
use Rattle.mb_report.specs.declared.report.SenderReport.{SenderReport}
use Rattle.mb_trace.specs.GoneLetters.{all_gone_cleaned_text, all_gone_letters_text}
use Rattle.mb_trace.proofs.Written.{appends-same, begins-first, begins-same, err-written, written-same, written-second}
use Rattle.mb_trace.proofs.gone_letters.write_of_each.Goals as goal

pub returns-in_err-write_of_senders : goal.returns-in_err-write_of_senders
returns-in_err-write_of_senders g c =
    let names = map string_bytes c.args.names.now in
    let actors : c.len.result ≡ length c.args.report.now.actors.items = c.len.ensures ∙ c.args.report.now.actors.ok.0 in
    let letters = all_gone_letters_text names (length c.args.report.now.actors.items) 0 in
    err-written _ _ _ c.from_residual.result _ c.from_residual.ensures.1
    (begins-first _ _ (letters c.args.report.now.senders.items) _
    (begins-same _ _ _ _ (λ i. all_gone_letters_text names (actors i) 0 (c.deref.ensures.value i)) c.in_err-write_of_senders.ensures))

pub returns : goal.returns
returns g c =
    let names = map string_bytes c.args.names.now in
    let actors : c.len.result ≡ length c.args.report.now.actors.items = c.len.ensures ∙ c.args.report.now.actors.ok.0 in
    let letters = all_gone_letters_text names (length c.args.report.now.actors.items) 0 in
    written-second _ _ _ c.write_of_actors.result (letters c.args.report.now.senders.items) _
    (appends-same _ _ _ _ (λ i. all_gone_letters_text names (actors i) 0 (c.deref.ensures.value i)) c.in_ok-write_of_senders.ensures)
    (written-same _ _ c.write_of_actors.result _ _ (ap (all_gone_cleaned_text names c.args.filter.now 0) c.deref-2.ensures.value) c.write_of_actors.ensures)
