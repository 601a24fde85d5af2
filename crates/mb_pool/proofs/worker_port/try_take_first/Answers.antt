use Rattle.std.proofs.Common.{subst, sym}
use Rattle.std.specs.Prelude.{Some}
use Rattle.mb_pool.specs.Moves.{Takes}
use Rattle.mb_pool.specs.Parts.{port_view}
use Rattle.mb_gate.specs.Untouched.{IsUntouched}
use Rattle.mb_pool.specs.Endpoints.{AreOpen, endpoint_of}
use Rattle.mb_pool.proofs.Ports.{shared_port_open, own_open, tried_take_by_own, stealing}
use Rattle.mb_pool.proofs.worker_port.try_take_first.Goals as goal

pub try_take-requires : goal.try_take-requires
try_take-requires g c = record { share = (shared_port_open (endpoint_of (port_view c.args.shared_port.now) c.args.member.now) c.requires).share }

pub take-requires : goal.take-requires
take-requires g c =
    let m = c.in-Some.member in let shared_port = port_view c.args.shared_port.now in
    record { share = (own_open m.own_deque shared_port m.thieves.items (subst (λ o. AreOpen (endpoint_of shared_port o)) c.in-Some.is c.requires)).share }

pub returns-in-Some-take-clause-taken : goal.returns-in-Some-take-clause-taken
returns-in-Some-take-clause-taken g c =
    let m = c.in-Some.member in let new = c.take.new.self in let shared_port = port_view c.args.shared_port.now in
    subst (λ o. Takes (IsUntouched g.H.MailboxState.is_of g.H.MailboxState.facts) (endpoint_of shared_port o) c.in-Some-take.claim (stealing new shared_port m.thieves.items))
    (sym c.in-Some.is)
    (tried_take_by_own (IsUntouched g.H.MailboxState.is_of g.H.MailboxState.facts) m.own_deque new shared_port m.thieves.items c.take.ensures.same_queue
    (Some c.in-Some-take.claim) c.in-Some-take.ensures.taken)
