use Rattle.std.proofs.Common.{map, string_bytes}
use Rattle.mb_trace.specs.Undelivered.{queued_text}
use Rattle.mb_trace.proofs.Written.{appends-none, each-all, each-cut, each-more, err-written}
use Rattle.mb_trace.proofs.undelivered.write_all_left.Goals as goal

pub loop-actor-init : goal.loop-actor-init
loop-actor-init g c = appends-none (g.W.Write.contents c.args.out.now)

pub loop-actor-preserved : goal.loop-actor-preserved
loop-actor-preserved g c =
    let i = c.loop-actor.actor-index in
    let xs = c.args.actors.now in
    let x = c.actor-item.result in
    each-more (queued_text (map string_bytes c.args.names.now) c.args.filter.now) xs i x _ _ _ c.loop-actor-test.true c.actor-item.is c.loop-actor.invariant c.in_ok-write_left.ensures

pub returns-in_err-write_left : goal.returns-in_err-write_left
returns-in_err-write_left g c =
    let i = c.loop-actor.actor-index in
    let xs = c.args.actors.now in
    let x = c.actor-item.result in
    err-written _ _ _ c.from_residual.result _ c.from_residual.ensures.1
    (each-cut (queued_text (map string_bytes c.args.names.now) c.args.filter.now) xs i x _ _ _ c.loop-actor-test.true c.actor-item.is c.loop-actor.invariant c.in_err-write_left.ensures)

pub returns : goal.returns
returns g c =
    each-all (queued_text (map string_bytes c.args.names.now) c.args.filter.now) c.args.actors.now c.loop-actor.actor-index _ _ c.loop-actor-test.false c.loop-actor.invariant
