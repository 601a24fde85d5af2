use Rattle.std.proofs.Common.{map, string_bytes}
use Rattle.mb_report.specs.declared.report.ActorReport.{ActorReport}
use Rattle.mb_trace.specs.Undelivered.{cleaned_text, readable_cleaned}
use Rattle.mb_trace.proofs.Written.{appends-none, each-all, each-cut, each-more, err-written}
use Rattle.mb_trace.proofs.undelivered.write_all_cleaned.Goals as goal

pub loop-actor-init : goal.loop-actor-init
loop-actor-init g c = appends-none (g.W.Write.contents c.args.out.now)

pub loop-actor-preserved : goal.loop-actor-preserved
loop-actor-preserved g c =
    let i = c.loop-actor.actor-index in
    let xs = c.args.actors.now in
    let x = c.actor-item.result in
    each-more (λ (r : ActorReport). cleaned_text (map string_bytes c.args.names.now) c.args.filter.now (readable_cleaned r)) xs i x _ _ _ c.loop-actor-test.true c.actor-item.is c.loop-actor.invariant c.in_ok-write_cleaned.ensures

pub returns-in_err-write_cleaned : goal.returns-in_err-write_cleaned
returns-in_err-write_cleaned g c =
    let i = c.loop-actor.actor-index in
    let xs = c.args.actors.now in
    let x = c.actor-item.result in
    err-written _ _ _ c.from_residual.result _ c.from_residual.ensures.1
    (each-cut (λ (r : ActorReport). cleaned_text (map string_bytes c.args.names.now) c.args.filter.now (readable_cleaned r)) xs i x _ _ _ c.loop-actor-test.true c.actor-item.is c.loop-actor.invariant c.in_err-write_cleaned.ensures)

pub returns : goal.returns
returns g c =
    each-all (λ (r : ActorReport). cleaned_text (map string_bytes c.args.names.now) c.args.filter.now (readable_cleaned r)) c.args.actors.now c.loop-actor.actor-index _ _ c.loop-actor-test.false c.loop-actor.invariant
