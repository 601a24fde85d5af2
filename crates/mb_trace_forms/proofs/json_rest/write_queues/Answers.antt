use Rattle.std.proofs.Common.{ap, map, string_bytes}
use Rattle.std.specs.List.{flat_map}
use Rattle.mb_trace_forms.specs.JsonRest.{left_json, queued_json}
use Rattle.mb_trace.proofs.Written.{appends-none, appends-same, begins-same, each-all, each-cut, each-more, err-written}
use Rattle.mb_trace_forms.proofs.json_rest.write_queues.Goals as goal

pub loop-actor-init : goal.loop-actor-init
loop-actor-init g c = appends-none (g.W.Write.contents c.args.out.now)

pub loop-actor-preserved : goal.loop-actor-preserved
loop-actor-preserved g c =
    let i = c.loop-actor.actor-index in
    let xs = c.args.actors.now in
    let x = c.actor-item.result in
    each-more (queued_json (map string_bytes c.args.names.now) c.args.filter.now) xs i x _ _ _ c.loop-actor-test.true c.actor-item.is c.loop-actor.invariant (appends-same _ _ _ _ (ap (flat_map (left_json (map string_bytes c.args.names.now) c.args.filter.now)) c.deref.ensures.value) c.in_ok-write_left.ensures)

pub returns-in_err-write_left : goal.returns-in_err-write_left
returns-in_err-write_left g c =
    let i = c.loop-actor.actor-index in
    let xs = c.args.actors.now in
    let x = c.actor-item.result in
    err-written _ _ _ c.from_residual.result _ c.from_residual.ensures.1
    (each-cut (queued_json (map string_bytes c.args.names.now) c.args.filter.now) xs i x _ _ _ c.loop-actor-test.true c.actor-item.is c.loop-actor.invariant (begins-same _ _ _ _ (ap (flat_map (left_json (map string_bytes c.args.names.now) c.args.filter.now)) c.deref.ensures.value) c.in_err-write_left.ensures))

pub returns : goal.returns
returns g c = each-all (queued_json (map string_bytes c.args.names.now) c.args.filter.now) c.args.actors.now c.loop-actor.actor-index _ _ c.loop-actor-test.false c.loop-actor.invariant
