use Rattle.std.proofs.Common.{◌≡◌, All, Some}
use Rattle.mb_gate.specs.Accessors.{gates_id, pass_id}
use Rattle.mb_gate.specs.Untouched.{origin_of}
use Rattle.mb_pool.specs.Places.{PoolEndpoint, gates_of}
use Rattle.mb_testkit.specs.declared.stub_home.StubHome.{StubHome}
use Rattle.bench.specs.Ready.{IsReadyWorker}
use Rattle.bench.proofs.pools.worker.workers_of.Given as goal

abbrev pub invariant-loop-number : goal.invariant-loop-number
invariant-loop-number l = (pass_id l.pass ≡ gates_id l.gates)
    × All (λ (w : PoolEndpoint StubHome). gates_of w ≡ Some (origin_of l.gates)) l.handles.items
    × All (IsReadyWorker l.gates) l.workers.items
