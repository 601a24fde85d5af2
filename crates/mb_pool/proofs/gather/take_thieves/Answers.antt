use Rattle.std.proofs.Common.{◌∙◌, ap, subst}
use Rattle.std.specs.declared.vec.Vec.{Vec}
use Rattle.mb_pool.specs.Parts.{port_view}
use Rattle.mb_pool.specs.Endpoints.{AreOpen, endpoint_of}
use Rattle.mb_pool.proofs.Ending.{alone_open}
use Rattle.mb_pool.proofs.gather.take_thieves.Goals as goal

pub invariant_of-handle-in-Some : goal.invariant_of-handle-in-Some
invariant_of-handle-in-Some g c =
    let m = c.in-Some.member in let shared_port = port_view c.handle.inside.shared_port in
    alone_open m.own_deque shared_port m.thieves.items c.replace.new.dest.items (ap (λ (v : Vec _ _). v.items) c.replace.ensures.after
    ∙ c.new-in-Some.ensures.items)
    (subst (λ o. AreOpen (endpoint_of shared_port o)) c.in-Some.is c.handle.invariant)
