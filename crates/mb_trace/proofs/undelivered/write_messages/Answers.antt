use Rattle.std.proofs.Common.{ℕ, get_or, map, string_bytes}
use Rattle.std.proofs.lemmas.List.{get_or_default}
use Rattle.mb_msg.specs.declared.system.SysMsg.{SysMsg}
use Rattle.mb_msg.specs.declared.system.SysMsg.TheVariants as system
use Rattle.mb_trace.specs.Ends.{aside_text}
use Rattle.mb_trace.proofs.Written.{appends-none, each-all, each-cut, each-more, err-written}
use Rattle.mb_trace.proofs.undelivered.write_messages.Goals as goal

pub loop-number-init : goal.loop-number-init
loop-number-init g c = appends-none (g.W.Write.contents c.args.out.now)

pub loop-number-preserved : goal.loop-number-preserved
loop-number-preserved g c =
    let i = c.loop-number.number-index in
    let xs = c.args.aside.now in
    let x = get_or xs i (let d : ℕ × SysMsg = (0, system.Create) in d) in
    each-more (λ (m : ℕ × SysMsg). aside_text (map string_bytes c.args.names.now) c.args.actor.0 m.0 m.1) xs i x _ _ _ c.loop-number-test.true
    (get_or_default xs i _ _ c.loop-number-test.true) c.loop-number.invariant c.in_ok-write_message.ensures

pub returns-in_err-write_message : goal.returns-in_err-write_message
returns-in_err-write_message g c =
    let i = c.loop-number.number-index in
    let xs = c.args.aside.now in
    let x = get_or xs i (let d : ℕ × SysMsg = (0, system.Create) in d) in
    err-written _ _ _ c.from_residual.result _ c.from_residual.ensures.1
    (each-cut (λ (m : ℕ × SysMsg). aside_text (map string_bytes c.args.names.now) c.args.actor.0 m.0 m.1) xs i x _ _ _ c.loop-number-test.true
    (get_or_default xs i _ _ c.loop-number-test.true) c.loop-number.invariant c.in_err-write_message.ensures)

pub returns : goal.returns
returns g c =
    each-all (λ (m : ℕ × SysMsg). aside_text (map string_bytes c.args.names.now) c.args.actor.0 m.0 m.1) c.args.aside.now c.loop-number.number-index _ _
    c.loop-number-test.false c.loop-number.invariant
