use Rattle.std.proofs.Common.{◌≡◌, MatchOption, Some, subst, sym}
use Rattle.std.specs.Prelude.{All}
use Rattle.mb_pool.specs.Moves.{Takes, WasEmpty}
use Rattle.mb_pool.specs.Parts.{port_view}
use Rattle.mb_pool.specs.Places.{ports_of, parts_of}
use Rattle.mb_gate.specs.Untouched.{IsUntouched}
use Rattle.mb_pool.specs.Endpoints.{AreOpen, endpoint_of}
use Rattle.mb_pool.proofs.Ports.{shared_port_open, feed_parts, take_by_shared_port, take_same}
use Rattle.mb_pool.proofs.worker_port.take_first.Goals as goal

pub take-requires : goal.take-requires
take-requires g c = record { share = (shared_port_open (endpoint_of (port_view c.args.shared_port.now) c.args.member.now) c.requires).share }

pub returns-in-None-clause-taken : goal.returns-in-None-clause-taken
returns-in-None-clause-taken g c =
    let old = port_view c.args.shared_port.now in let new = port_view c.take.new.self in
    subst (λ m. MatchOption c.take.result ((endpoint_of new m ≡ endpoint_of old m)
    × All (WasEmpty (IsUntouched g.H.MailboxState.is_of g.H.MailboxState.facts)) (ports_of (endpoint_of old m))) (λ x. Takes
    (IsUntouched g.H.MailboxState.is_of g.H.MailboxState.facts)
    (endpoint_of old m) x (endpoint_of new m)))
    (sym c.in-None.is) (take_by_shared_port
    (IsUntouched g.H.MailboxState.is_of g.H.MailboxState.facts) old new c.take.ensures.same_queue c.take.result c.take.ensures.taken)

pub returns-in-None-clause-same : goal.returns-in-None-clause-same
returns-in-None-clause-same g c =
    let old = port_view c.args.shared_port.now in let new = port_view c.take.new.self in
    subst (λ m. parts_of (endpoint_of new m) ≡ parts_of (endpoint_of old m)) (sym c.in-None.is)
    (feed_parts old new (take_same
    (IsUntouched g.H.MailboxState.is_of g.H.MailboxState.facts) old new c.take.ensures.same_queue c.take.result c.take.ensures.taken))

pub take_somewhere-requires : goal.take_somewhere-requires
take_somewhere-requires g c = subst (λ o. AreOpen (endpoint_of (port_view c.args.shared_port.now) o)) c.in-Some.is c.requires

pub returns-in-Some-clause-taken : goal.returns-in-Some-clause-taken
returns-in-Some-clause-taken g c =
    let old = port_view c.args.shared_port.now in let new = port_view c.take_somewhere.new.shared_port in let m = Some c.take_somewhere.new.member in
    subst (λ o. MatchOption c.take_somewhere.result ((endpoint_of new m ≡ endpoint_of old o)
    × All (WasEmpty (IsUntouched g.H.MailboxState.is_of g.H.MailboxState.facts)) (ports_of (endpoint_of old o)))
    (λ x. Takes (IsUntouched g.H.MailboxState.is_of g.H.MailboxState.facts) (endpoint_of old o) x (endpoint_of new m)))
    (sym c.in-Some.is) c.take_somewhere.ensures.taken

pub returns-in-Some-clause-same : goal.returns-in-Some-clause-same
returns-in-Some-clause-same g c =
    let old = port_view c.args.shared_port.now in let new = port_view c.take_somewhere.new.shared_port in let m = Some c.take_somewhere.new.member in
    subst (λ o. parts_of (endpoint_of new m) ≡ parts_of (endpoint_of old o)) (sym c.in-Some.is) c.take_somewhere.ensures.same
