-- When a worker can begin.
use Rattle.std.specs.Prelude.{◌≡◌, ◌<◌, Some}
use Rattle.mb_gate.specs.Accessors.{actors_of, gates_id, pass_id}
use Rattle.mb_gate.specs.Untouched.{origin_of}
use Rattle.mb_gate.specs.declared.gates.Gates.{Gates}
use Rattle.mb_testkit.specs.declared.stub_home.StubHome.{StubHome}
use Rattle.mb_pool.specs.Places.{gates_of}
use Rattle.bench.specs.declared.pools.worker.Worker.{Worker}

-- its pass, its actor and the claims of its handle are of these gates
pub record IsReadyWorker (gates : Gates StubHome) (worker : Worker) : Type 0 where
  pub pass : pass_id worker.pass ≡ gates_id gates
  pub actor : worker.actor.0 < actors_of gates
  pub handle : gates_of worker.handle ≡ Some (origin_of gates)

-- both workers of the benchmark are ready: each has a pass, an actor and a handle of the pool of these gates
abbrev pub AreReady : Gates StubHome → Worker × Worker → Type 0
AreReady gates pair = IsReadyWorker gates pair.0 × IsReadyWorker gates pair.1
