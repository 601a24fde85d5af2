use Rattle.std.proofs.Common.{◌≡◌, MatchOption, subst, sym}
use Rattle.mb_gate.specs.Untouched.{IsUntouched}
use Rattle.mb_pool.specs.Moves.{FindsOwnEmpty, TakesOwn}
use Rattle.mb_pool.specs.Parts.{port_view}
use Rattle.mb_pool.specs.Places.{ports_of, parts_of}
use Rattle.mb_pool.specs.Endpoints.{endpoint_of}
use Rattle.mb_pool.proofs.Ports.{feed_parts, shared_port_open, stealing, take_own_by_own, take_own_by_shared_port, take_same}
use Rattle.mb_pool.proofs.worker_port.take_own_first.Goals as goal

pub take-requires : goal.take-requires
take-requires g c = record { share = (shared_port_open (endpoint_of (port_view c.args.shared_port.now) c.args.member.now) c.requires).share }

pub returns-in-None-clause-taken : goal.returns-in-None-clause-taken
returns-in-None-clause-taken g c =
    let old = port_view c.args.shared_port.now in let new = port_view c.take.new.self in
    let fit = IsUntouched g.H.MailboxState.is_of g.H.MailboxState.facts in
    subst (λ m. MatchOption c.take.result ((endpoint_of new m ≡ endpoint_of old m) × FindsOwnEmpty fit (ports_of (endpoint_of old m)))
    (λ x. TakesOwn fit (ports_of (endpoint_of old m)) x (ports_of (endpoint_of new m))))
    (sym c.in-None.is) (take_own_by_shared_port fit old new c.take.ensures.same_queue c.take.result c.take.ensures.taken)

pub returns-in-None-clause-same : goal.returns-in-None-clause-same
returns-in-None-clause-same g c =
    let old = port_view c.args.shared_port.now in let new = port_view c.take.new.self in
    subst (λ m. parts_of (endpoint_of new m) ≡ parts_of (endpoint_of old m)) (sym c.in-None.is)
    (feed_parts old new (take_same
    (IsUntouched g.H.MailboxState.is_of g.H.MailboxState.facts) old new c.take.ensures.same_queue c.take.result c.take.ensures.taken))

pub returns-in-Some-clause-taken : goal.returns-in-Some-clause-taken
returns-in-Some-clause-taken g c =
    let m = c.in-Some.member in let shared = port_view c.args.shared_port.now in let new = c.take-in-Some.new.self in
    let fit = IsUntouched g.H.MailboxState.is_of g.H.MailboxState.facts in
    subst (λ o. MatchOption c.take-in-Some.result ((stealing new shared m.thieves.items ≡ endpoint_of shared o)
    × FindsOwnEmpty fit (ports_of (endpoint_of shared o)))
    (λ x. TakesOwn fit (ports_of (endpoint_of shared o)) x (ports_of (stealing new shared m.thieves.items))))
    (sym c.in-Some.is)
    (take_own_by_own fit m.own_deque new shared m.thieves.items c.take-in-Some.ensures.same_queue c.take-in-Some.result c.take-in-Some.ensures.taken)
