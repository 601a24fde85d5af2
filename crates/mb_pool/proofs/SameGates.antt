-- What no call of a handle or a feed changes says whose gates' claims it handles.
use Rattle.std.proofs.Common.{◌≡◌, ap}
use Rattle.mb_pool.specs.Places.{Parts, PoolEndpoint, gates_of, parts_of}

pub same_gates : {H : Type 0} (old new : PoolEndpoint H) → parts_of new ≡ parts_of old → gates_of new ≡ gates_of old
same_gates {H} old new same = ap (λ (p : Parts H). p.shared_port.gates) same
