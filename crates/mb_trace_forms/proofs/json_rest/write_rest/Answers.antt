use Rattle.std.proofs.Common.{◌++◌, ◌∙◌, List, ap, map, string_bytes}
use Rattle.std.specs.List.{flat_map}
use Rattle.mb_report.specs.declared.report.ActorReport.{ActorReport}
use Rattle.mb_trace.proofs.Written.{appends-same, begins-first, begins-same, err-written, written-same, written-second}
use Rattle.mb_trace_forms.specs.JsonRest.{all_left_json, letter_json, set_aside_json}
use Rattle.mb_trace_forms.specs.Letters.{letters_in}
use Rattle.mb_trace_forms.proofs.json_rest.write_rest.Goals as goal

pub returns-in_err-write_letters : goal.returns-in_err-write_letters
returns-in_err-write_letters g c =
    let names = map string_bytes c.args.names.now in
    let f = c.args.filter.now in
    let actors = c.args.report.now.actors.items in
    err-written _ _ _ c.from_residual-in_err-write_letters.result _ c.from_residual-in_err-write_letters.ensures.1
    (begins-first _ _ (flat_map (letter_json names) (letters_in f c.args.report.now)) (all_left_json names f actors ++ set_aside_json names f actors)
    (begins-same _ _ _ _ (ap (flat_map (letter_json names)) (c.deref.ensures.value ∙ c.in_ok-letters.ensures)) c.in_err-write_letters.ensures))

pub returns : goal.returns
returns g c =
    let names = map string_bytes c.args.names.now in
    let f = c.args.filter.now in
    let actors = c.args.report.now.actors.items in
    written-second _ _ _ c.write_others.result (flat_map (letter_json names) (letters_in f c.args.report.now))
    (all_left_json names f actors ++ set_aside_json names f actors)
    (appends-same _ _ _ _ (ap (flat_map (letter_json names)) (c.deref.ensures.value ∙ c.in_ok-letters.ensures)) c.in_ok-write_letters.ensures)
    (written-same _ _ c.write_others.result _ _ (ap (λ (l : List ActorReport). all_left_json names f l ++ set_aside_json names f l) c.deref-2.ensures.value)
    c.write_others.ensures)
