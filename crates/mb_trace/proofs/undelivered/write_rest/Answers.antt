use Rattle.std.proofs.Common.{◌≡◌, ◌++◌, ◌∙◌, List, [], ap, map, string_bytes, sym, true}
use Rattle.std.specs.Prelude.{if◌then◌else◌}
use Rattle.mb_report.specs.declared.report.ActorReport.{ActorReport}
use Rattle.mb_trace.specs.Undelivered.{all_aside_text, envelopes_text, readable_cleaned, readable_letters, shows_envelopes, shows_system_messages}
use Rattle.mb_trace.proofs.Written.{begins-first, begins-same, err-written, written-same, written-second}
use Rattle.mb_trace.proofs.undelivered.write_rest.Goals as goal

pub returns-in_err-write_envelopes : goal.returns-in_err-write_envelopes
returns-in_err-write_envelopes g c =
    let names = map string_bytes c.args.names.now in
    let f = c.args.filter.now in
    let report = c.args.report.now in
    let on : shows_envelopes f.only ≡ true = sym c.has_envelopes.ensures ∙ c.if-has_envelopes.true in
    let others = if shows_system_messages f.only then all_aside_text names f 0 report.actors.items else [] in
    err-written _ _ _ c.from_residual.result _ c.from_residual.ensures.1
    (begins-same _ _ _ _ (ap (λ b. (if b then envelopes_text names f readable_letters readable_cleaned report else []) ++ others) (sym on))
    (begins-first _ _ (envelopes_text names f readable_letters readable_cleaned report) others c.in_err-write_envelopes.ensures))

pub returns-then-has_envelopes : goal.returns-then-has_envelopes
returns-then-has_envelopes g c =
    let names = map string_bytes c.args.names.now in
    let f = c.args.filter.now in
    let report = c.args.report.now in
    let on : shows_envelopes f.only ≡ true = sym c.has_envelopes.ensures ∙ c.if-has_envelopes.true in
    let others = if shows_system_messages f.only then all_aside_text names f 0 report.actors.items else [] in
    written-same _ _ c.write_system_messages.result _ _ (ap (λ b. (if b then envelopes_text names f readable_letters readable_cleaned report else []) ++ others) (sym on))
    (written-second _ _ _ c.write_system_messages.result (envelopes_text names f readable_letters readable_cleaned report) others c.in_ok-write_envelopes.ensures
    (written-same _ _ c.write_system_messages.result _ _
    (ap (λ (l : List ActorReport). if shows_system_messages f.only then all_aside_text names f 0 l else []) c.deref.ensures.value)
    c.write_system_messages.ensures))
