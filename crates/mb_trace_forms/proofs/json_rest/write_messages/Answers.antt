use Rattle.std.proofs.Common.{ℕ, get_or, map, string_bytes}
use Rattle.std.proofs.lemmas.List.{get_or_default}
use Rattle.mb_msg.specs.declared.system.SysMsg.{SysMsg}
use Rattle.mb_msg.specs.declared.system.SysMsg.TheVariants as system
use Rattle.mb_trace_forms.specs.JsonRest.{aside_json}
use Rattle.mb_trace.proofs.Written.{appends-none, each-all, each-cut, each-more, err-written}
use Rattle.mb_trace_forms.proofs.json_rest.write_messages.Goals as goal

pub loop-message-init : goal.loop-message-init
loop-message-init g c = appends-none (g.W.Write.contents c.args.out.now)

pub loop-message-preserved : goal.loop-message-preserved
loop-message-preserved g c =
    let i = c.loop-message.message-index in
    let xs = c.args.aside.now in
    let x = get_or xs i (let d : ℕ × SysMsg = (0, system.Create) in d) in
    each-more (aside_json (map string_bytes c.args.names.now) c.args.actor.0) xs i x _ _ _ c.loop-message-test.true (get_or_default xs i _ _ c.loop-message-test.true) c.loop-message.invariant c.in_ok-write_set_aside_line.ensures

pub returns-in_err-write_set_aside_line : goal.returns-in_err-write_set_aside_line
returns-in_err-write_set_aside_line g c =
    let i = c.loop-message.message-index in
    let xs = c.args.aside.now in
    let x = get_or xs i (let d : ℕ × SysMsg = (0, system.Create) in d) in
    err-written _ _ _ c.from_residual.result _ c.from_residual.ensures.1
    (each-cut (aside_json (map string_bytes c.args.names.now) c.args.actor.0) xs i x _ _ _ c.loop-message-test.true (get_or_default xs i _ _ c.loop-message-test.true) c.loop-message.invariant c.in_err-write_set_aside_line.ensures)

pub returns : goal.returns
returns g c = each-all (aside_json (map string_bytes c.args.names.now) c.args.actor.0) c.args.aside.now c.loop-message.message-index _ _ c.loop-message-test.false c.loop-message.invariant
