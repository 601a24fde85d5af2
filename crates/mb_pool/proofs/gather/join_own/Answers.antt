use Rattle.std.proofs.Common.{subst}
use Rattle.mb_pool.specs.Parts.{port_view}
use Rattle.mb_pool.specs.Endpoints.{AreOpen, endpoint_of}
use Rattle.mb_pool.proofs.Ending.{joined_open}
use Rattle.mb_pool.proofs.gather.join_own.Goals as goal

pub invariant_of-handle : goal.invariant_of-handle
invariant_of-handle g c =
    let m = c.in-Some.member in let shared_port = port_view c.handle.inside.shared_port in
    joined_open m.own_deque c.join.new.self c.args.thief shared_port m.thieves.items c.join.ensures
    (subst (λ o. AreOpen (endpoint_of shared_port o)) c.in-Some.is c.handle.invariant)
