use Rattle.std.proofs.Common.{◌∙◌, [], ◌∷◌, ap, subst, sym}
use Rattle.mb_pool.specs.Handles.{Empties}
use Rattle.mb_pool.specs.Parts.{port_view}
use Rattle.mb_pool.specs.Places.{PoolPort, PoolEndpoint}
use Rattle.mb_gate.specs.Untouched.{IsUntouched}
use Rattle.mb_pool.specs.Endpoints.{AreOpen, HasShare, endpoint_of}
use Rattle.mb_pool.proofs.Ending.{shared_port_share, emptied_nothing, emptied_own}
use Rattle.mb_pool.proofs.Ports.{own_open}
use Rattle.mb_pool.proofs.leaving.empty_handle.Goals as goal

pub empty_own-requires : goal.empty_own-requires
empty_own-requires g c =
    let m = c.in-Some.member in let shared_port = port_view c.into_parts-shared_port.result.0 in
    subst (λ o. HasShare o) (sym c.into_own.ensures)
    (own_open m.own_deque shared_port m.thieves.items (subst (λ o. AreOpen (endpoint_of shared_port o)) c.in-Some.is c.into_parts-shared_port.ensures.open)).share

pub returns-in-Some-clause-shared_port : goal.returns-in-Some-clause-shared_port
returns-in-Some-clause-shared_port g c = ap (λ (w : PoolEndpoint _). w.shared_port) c.into_parts-shared_port.ensures.same

pub returns-in-Some-clause-share : goal.returns-in-Some-clause-share
returns-in-Some-clause-share g c = shared_port_share (endpoint_of (port_view c.into_parts-shared_port.result.0) c.into_parts-shared_port.result.1) c.args.handle c.into_parts-shared_port.ensures.same c.into_parts-shared_port.ensures.open

pub returns-in-Some-clause-emptied : goal.returns-in-Some-clause-emptied
returns-in-Some-clause-emptied g c =
    let m = c.in-Some.member in let shared_port = port_view c.into_parts-shared_port.result.0 in
    emptied_own (IsUntouched g.H.MailboxState.is_of g.H.MailboxState.facts)
    m.own_deque shared_port m.thieves.items c.args.handle c.args.left.now.items c.empty_own.new.left.items (ap (endpoint_of shared_port) (sym c.in-Some.is) ∙ c.into_parts-shared_port.ensures.same)
    (subst (λ o. AreOpen (endpoint_of shared_port o)) c.in-Some.is c.into_parts-shared_port.ensures.open)
    (subst (λ (o : PoolPort _). Empties (IsUntouched g.H.MailboxState.is_of g.H.MailboxState.facts) o.ledger.gates
    (o ∷ []) c.args.left.now.items c.empty_own.new.left.items) c.into_own.ensures
    c.empty_own.ensures)

pub returns-clause-shared_port : goal.returns-clause-shared_port
returns-clause-shared_port g c = ap (λ (w : PoolEndpoint _). w.shared_port) c.into_parts-shared_port.ensures.same

pub returns-clause-share : goal.returns-clause-share
returns-clause-share g c = shared_port_share (endpoint_of (port_view c.into_parts-shared_port.result.0) c.into_parts-shared_port.result.1) c.args.handle c.into_parts-shared_port.ensures.same c.into_parts-shared_port.ensures.open

pub returns-clause-emptied : goal.returns-clause-emptied
returns-clause-emptied g c =
    let shared_port = port_view c.into_parts-shared_port.result.0 in
    emptied_nothing (IsUntouched g.H.MailboxState.is_of g.H.MailboxState.facts)
    shared_port c.args.handle c.args.left.now.items (ap (endpoint_of shared_port) (sym c.in_default.is) ∙ c.into_parts-shared_port.ensures.same)
