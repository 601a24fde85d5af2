use Rattle.std.proofs.Common.{◌≡◌, subst, sym}
use Rattle.std.specs.Prelude.{Ok, Err}
use Rattle.mb_pool.specs.Moves.{Pushes}
use Rattle.mb_pool.specs.Parts.{port_view}
use Rattle.mb_pool.specs.Places.{parts_of}
use Rattle.mb_gate.specs.Untouched.{IsUntouched}
use Rattle.mb_pool.specs.Endpoints.{AreOpen, endpoint_of}
use Rattle.mb_pool.proofs.Ports.{shared_port_open, feed_parts, own_open, own_parts, tried_by_own, tried_by_shared_port, tried_same, stealing}
use Rattle.mb_pool.proofs.worker_port.try_push_first.Goals as goal

pub try_push-requires-clause-share : goal.try_push-requires-clause-share
try_push-requires-clause-share g c = (shared_port_open (endpoint_of (port_view c.args.shared_port.now) c.args.member.now) c.requires.open).share

pub try_push-requires-clause-untouched : goal.try_push-requires-clause-untouched
try_push-requires-clause-untouched g c = c.requires.untouched

pub returns-in-Ok-clause-pushed : goal.returns-in-Ok-clause-pushed
returns-in-Ok-clause-pushed g c =
    let old = port_view c.args.shared_port.now in let new = port_view c.try_push.new.self in
    subst (λ m. Pushes (IsUntouched g.H.MailboxState.is_of g.H.MailboxState.facts) (endpoint_of old m) c.args.claim (endpoint_of new m)) (sym c.in-None.is)
    (tried_by_shared_port (IsUntouched g.H.MailboxState.is_of g.H.MailboxState.facts) old new c.try_push.ensures.same_queue c.args.claim (Ok tt) c.in-Ok.ensures.pushed)

pub returns-in-Err-clause-pushed : goal.returns-in-Err-clause-pushed
returns-in-Err-clause-pushed g c =
    let old = port_view c.args.shared_port.now in let new = port_view c.try_push.new.self in
    subst (λ m. (c.in-Err.back ≡ c.args.claim) × (endpoint_of new m ≡ endpoint_of old m)) (sym c.in-None.is)
    (tried_by_shared_port (IsUntouched g.H.MailboxState.is_of g.H.MailboxState.facts) old new c.try_push.ensures.same_queue c.args.claim (Err c.in-Err.back) c.in-Err.ensures.pushed)

pub returns-in-Ok-clause-same : goal.returns-in-Ok-clause-same
returns-in-Ok-clause-same g c =
    let old = port_view c.args.shared_port.now in let new = port_view c.try_push.new.self in
    subst (λ m. parts_of (endpoint_of new m) ≡ parts_of (endpoint_of old m)) (sym c.in-None.is)
    (feed_parts old new (tried_same (IsUntouched g.H.MailboxState.is_of g.H.MailboxState.facts) old new c.try_push.ensures.same_queue c.args.claim (Ok tt) c.in-Ok.ensures.pushed))

pub returns-in-Err-clause-same : goal.returns-in-Err-clause-same
returns-in-Err-clause-same g c =
    let old = port_view c.args.shared_port.now in let new = port_view c.try_push.new.self in
    subst (λ m. parts_of (endpoint_of new m) ≡ parts_of (endpoint_of old m)) (sym c.in-None.is)
    (feed_parts old new (tried_same (IsUntouched g.H.MailboxState.is_of g.H.MailboxState.facts) old new c.try_push.ensures.same_queue c.args.claim (Err c.in-Err.back) c.in-Err.ensures.pushed))

pub push-requires-clause-share : goal.push-requires-clause-share
push-requires-clause-share g c =
    let m = c.in-Some.member in let shared_port = port_view c.args.shared_port.now in
    (own_open m.own_deque shared_port m.thieves.items (subst (λ o. AreOpen (endpoint_of shared_port o)) c.in-Some.is c.requires.open)).share

pub push-requires-clause-untouched : goal.push-requires-clause-untouched
push-requires-clause-untouched g c =
    let m = c.in-Some.member in let shared_port = port_view c.args.shared_port.now in
    subst (λ x. IsUntouched g.H.MailboxState.is_of g.H.MailboxState.facts x c.args.claim)
    (sym (own_open m.own_deque shared_port m.thieves.items (subst (λ o. AreOpen (endpoint_of shared_port o)) c.in-Some.is c.requires.open)).same) c.requires.untouched

pub returns-in-Ok-push-clause-pushed : goal.returns-in-Ok-push-clause-pushed
returns-in-Ok-push-clause-pushed g c =
    let m = c.in-Some.member in let new = c.push.new.self in let shared_port = port_view c.args.shared_port.now in
    subst (λ o. Pushes (IsUntouched g.H.MailboxState.is_of g.H.MailboxState.facts) (endpoint_of shared_port o) c.args.claim (stealing new shared_port m.thieves.items)) (sym c.in-Some.is)
    (tried_by_own (IsUntouched g.H.MailboxState.is_of g.H.MailboxState.facts) m.own_deque new shared_port m.thieves.items c.push.ensures.same_queue c.args.claim (Ok tt) c.in-Ok-push.ensures.pushed)

pub returns-in-Err-push-clause-pushed : goal.returns-in-Err-push-clause-pushed
returns-in-Err-push-clause-pushed g c =
    let m = c.in-Some.member in let new = c.push.new.self in let shared_port = port_view c.args.shared_port.now in
    subst (λ o. (c.in-Err-push.back ≡ c.args.claim) × (stealing new shared_port m.thieves.items ≡ endpoint_of shared_port o)) (sym c.in-Some.is)
    (tried_by_own (IsUntouched g.H.MailboxState.is_of g.H.MailboxState.facts) m.own_deque new shared_port m.thieves.items c.push.ensures.same_queue c.args.claim (Err c.in-Err-push.back)
    c.in-Err-push.ensures.pushed)

pub returns-in-Ok-push-clause-same : goal.returns-in-Ok-push-clause-same
returns-in-Ok-push-clause-same g c =
    let m = c.in-Some.member in let new = c.push.new.self in let shared_port = port_view c.args.shared_port.now in
    subst (λ o. parts_of (stealing new shared_port m.thieves.items) ≡ parts_of (endpoint_of shared_port o)) (sym c.in-Some.is)
    (own_parts m.own_deque new shared_port m.thieves.items
    (tried_same (IsUntouched g.H.MailboxState.is_of g.H.MailboxState.facts) m.own_deque new c.push.ensures.same_queue c.args.claim (Ok tt) c.in-Ok-push.ensures.pushed))

pub returns-in-Err-push-clause-same : goal.returns-in-Err-push-clause-same
returns-in-Err-push-clause-same g c =
    let m = c.in-Some.member in let new = c.push.new.self in let shared_port = port_view c.args.shared_port.now in
    subst (λ o. parts_of (stealing new shared_port m.thieves.items) ≡ parts_of (endpoint_of shared_port o)) (sym c.in-Some.is)
    (own_parts m.own_deque new shared_port m.thieves.items
    (tried_same (IsUntouched g.H.MailboxState.is_of g.H.MailboxState.facts) m.own_deque new c.push.ensures.same_queue c.args.claim (Err c.in-Err-push.back) c.in-Err-push.ensures.pushed))
