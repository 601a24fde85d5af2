use Rattle.std.proofs.Common.{get_or, map, pos, string_bytes}
use Rattle.std.proofs.lemmas.List.{get_or_default}
use Rattle.mb_msg.specs.declared.envelope.Body.TheVariants as body
use Rattle.mb_msg.specs.declared.envelope.Envelope.{Envelope}
use Rattle.mb_trace_forms.specs.JsonRest.{left_json}
use Rattle.mb_trace.proofs.Written.{appends-none, each-all, each-cut, each-more, err-written}
use Rattle.mb_trace_forms.proofs.json_rest.write_left.Goals as goal

pub loop-envelope-init : goal.loop-envelope-init
loop-envelope-init g c = appends-none (g.W.Write.contents c.args.out.now)

pub loop-envelope-preserved : goal.loop-envelope-preserved
loop-envelope-preserved g c =
    let i = c.loop-envelope.envelope-index in
    let xs = c.args.left.now in
    let x = get_or xs i (let d : Envelope = record { by = record { 0 = 0 }; to = record { 0 = 0 }; number = 0; body = body.User 0 (pos 0) } in d) in
    each-more (left_json (map string_bytes c.args.names.now) c.args.filter.now) xs i x _ _ _ c.loop-envelope-test.true (get_or_default xs i _ _ c.loop-envelope-test.true) c.loop-envelope.invariant c.in_ok-write_left_line.ensures

pub returns-in_err-write_left_line : goal.returns-in_err-write_left_line
returns-in_err-write_left_line g c =
    let i = c.loop-envelope.envelope-index in
    let xs = c.args.left.now in
    let x = get_or xs i (let d : Envelope = record { by = record { 0 = 0 }; to = record { 0 = 0 }; number = 0; body = body.User 0 (pos 0) } in d) in
    err-written _ _ _ c.from_residual.result _ c.from_residual.ensures.1
    (each-cut (left_json (map string_bytes c.args.names.now) c.args.filter.now) xs i x _ _ _ c.loop-envelope-test.true (get_or_default xs i _ _ c.loop-envelope-test.true) c.loop-envelope.invariant c.in_err-write_left_line.ensures)

pub returns : goal.returns
returns g c = each-all (left_json (map string_bytes c.args.names.now) c.args.filter.now) c.args.left.now c.loop-envelope.envelope-index _ _ c.loop-envelope-test.false c.loop-envelope.invariant
