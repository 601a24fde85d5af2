use Rattle.std.proofs.Common.{◌≡◌, All, Some, [], ◌∷◌, subst, sym}
use Rattle.std.proofs.lemmas.List.Elements.{All-nil, All-push}
use Rattle.mb_gate.specs.Untouched.{origin_of}
use Rattle.mb_pool.specs.Places.{PoolEndpoint, gates_of}
use Rattle.mb_pool.proofs.Alike.{all_front, all_last}
use Rattle.bench.specs.Ready.{IsReadyWorker}
use Rattle.bench.proofs.pools.worker.workers_of.Goals as goal

pub loop-number-init : goal.loop-number-init
loop-number-init c = (
  c.requires.same_gates,
  c.requires.same_origin,
  subst (All (IsReadyWorker c.args.gates.now)) (sym c.in-Ok.ensures.items) (All-nil (IsReadyWorker c.args.gates.now)),
)

pub worker_of-worker-requires-clause-same_origin : goal.worker_of-worker-requires-clause-same_origin
worker_of-worker-requires-clause-same_origin c =
    let ours = λ (w : PoolEndpoint _). gates_of w ≡ Some (origin_of c.args.gates.now) in
    all_last ours c.pop.new.self.items c.in-Some.handle (subst (All ours) c.in-Some.ensures.items c.loop-number.invariant.1)

pub loop-number-preserved : goal.loop-number-preserved
loop-number-preserved c =
    let ours = λ (w : PoolEndpoint _). gates_of w ≡ Some (origin_of c.args.gates.now) in let ready = IsReadyWorker c.args.gates.now in (
      c.worker_of-worker.ensures.same_gates,
      all_front ours c.pop.new.self.items (c.in-Some.handle ∷ []) (subst (All ours) c.in-Some.ensures.items c.loop-number.invariant.1),
      subst (All ready) (sym c.in-Ok-push.ensures.items)
          (All-push ready c.loop-number.workers.items c.worker_of-worker.result c.loop-number.invariant.2 c.worker_of-worker.ensures.ready),
    )
