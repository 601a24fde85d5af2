use Rattle.std.proofs.Common.{map, string_bytes}
use Rattle.mb_trace.proofs.Written.{begins-first, err-written, written-second}
use Rattle.mb_trace_forms.specs.JsonRest.{all_left_json, set_aside_json}
use Rattle.mb_trace_forms.proofs.json_rest.write_others.Goals as goal

pub returns-in_err-write_all_left : goal.returns-in_err-write_all_left
returns-in_err-write_all_left g c =
    let names = map string_bytes c.args.names.now in
    let f = c.args.filter.now in
    let actors = c.args.actors.now in
    err-written _ _ _ c.from_residual.result _ c.from_residual.ensures.1
    (begins-first _ _ (all_left_json names f actors) (set_aside_json names f actors) c.in_err-write_all_left.ensures)

pub returns : goal.returns
returns g c =
    let names = map string_bytes c.args.names.now in
    let f = c.args.filter.now in
    let actors = c.args.actors.now in
    written-second _ _ _ c.write_set_aside.result (all_left_json names f actors) (set_aside_json names f actors) c.in_ok-write_all_left.ensures
    c.write_set_aside.ensures
