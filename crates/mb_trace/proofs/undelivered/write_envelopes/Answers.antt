use Rattle.std.proofs.Common.{ap, map, string_bytes}
use Rattle.std.specs.List.{flat_map}
use Rattle.mb_report.specs.declared.report.ActorReport.{ActorReport}
use Rattle.mb_report.specs.declared.report.SenderReport.{SenderReport}
use Rattle.mb_trace.specs.Undelivered.{cleaned_text, letters_text, queued_text, readable_cleaned, readable_letters}
use Rattle.mb_trace.proofs.Written.{appends-both, appends-same, begins-first, begins-same, begins-second, err-written, written-same, written-second}
use Rattle.mb_trace.proofs.undelivered.write_envelopes.Goals as goal

pub returns-in_err-write_all_refused : goal.returns-in_err-write_all_refused
returns-in_err-write_all_refused g c =
    let names = map string_bytes c.args.names.now in
    let f = c.args.filter.now in
    err-written _ _ _ c.from_residual.result _ c.from_residual.ensures.1
    (begins-first _ _ _ _ (begins-first _ _ _ _
    (begins-same _ _ _ _ (ap (flat_map (λ (s : SenderReport). letters_text names f (readable_letters s))) c.deref.ensures.value) c.in_err-write_all_refused.ensures)))

pub returns-in_err-write_all_cleaned : goal.returns-in_err-write_all_cleaned
returns-in_err-write_all_cleaned g c =
    let names = map string_bytes c.args.names.now in
    let f = c.args.filter.now in
    err-written _ _ _ c.from_residual-in_err-write_all_cleaned.result _ c.from_residual-in_err-write_all_cleaned.ensures.1
    (begins-first _ _ _ _ (begins-second _ _ _ _ _
    (appends-same _ _ _ _ (ap (flat_map (λ (s : SenderReport). letters_text names f (readable_letters s))) c.deref.ensures.value) c.in_ok-write_all_refused.ensures)
    (begins-same _ _ _ _ (ap (flat_map (λ (r : ActorReport). cleaned_text names f (readable_cleaned r))) c.deref-2.ensures.value) c.in_err-write_all_cleaned.ensures)))

pub returns : goal.returns
returns g c =
    let names = map string_bytes c.args.names.now in
    let f = c.args.filter.now in
    written-second _ _ _ c.write_all_left.result _ _
    (appends-both _ _ _ _ _
    (appends-same _ _ _ _ (ap (flat_map (λ (s : SenderReport). letters_text names f (readable_letters s))) c.deref.ensures.value) c.in_ok-write_all_refused.ensures)
    (appends-same _ _ _ _ (ap (flat_map (λ (r : ActorReport). cleaned_text names f (readable_cleaned r))) c.deref-2.ensures.value) c.in_ok-write_all_cleaned.ensures))
    (written-same _ _ c.write_all_left.result _ _ (ap (flat_map (queued_text names f)) c.deref-3.ensures.value) c.write_all_left.ensures)
