use Rattle.std.proofs.Common.{◌∙◌, [], ap, map, string_bytes, sym}
use Rattle.std.specs.List.{flat_map}
use Rattle.std.specs.Prelude.{option_map, option_to_list}
use Rattle.std.proofs.lemmas.List.{append-nil}
use Rattle.mb_trace.specs.Steps.{step_data}
use Rattle.mb_trace.proofs.Written.{appends-none, appends-same, begins-none, err-written, written-same}
use Rattle.mb_trace_forms.specs.Json.{step_json}
use Rattle.mb_trace_forms.proofs.json.write_next.Goals as goal

pub returns-in_err-step-clause-text : goal.returns-in_err-step-clause-text
returns-in_err-step-clause-text g c =
    err-written _ _ _ c.from_residual.result _ c.from_residual.ensures.1 (begins-none (g.W.Write.contents c.args.out.now) _)

pub returns-in_default-clause-text : goal.returns-in_default-clause-text
returns-in_default-clause-text g c =
    let names = map string_bytes c.args.names.now in
    let nothing = sym (ap (λ o. option_to_list (option_map step_data o)) c.in_default.is) ∙ c.in_ok-step.ensures.found in
    appends-same _ _ [] _ (ap (flat_map (step_json names)) nothing) (appends-none (g.W.Write.contents c.args.out.now))

pub returns-clause-text : goal.returns-clause-text
returns-clause-text g c =
    let names = map string_bytes c.args.names.now in
    let one = sym (ap (λ o. option_to_list (option_map step_data o)) c.in-Some.is) ∙ c.in_ok-step.ensures.found in
    written-same _ _ c.write_step.result _ _ (sym (append-nil (step_json names (step_data c.in-Some.step))) ∙ ap (flat_map (step_json names)) one)
    c.write_step.ensures
