use Rattle.std.proofs.Common.{◌≡◌, ◌∷◌, MatchResult, ap, subst, sym}
use Rattle.mb_pool.specs.Moves.{given_back, IsRefusedBy, Pushes, PutsFirst}
use Rattle.mb_pool.specs.declared.claim_refused.ClaimRefused.TheVariants.{NoMemory}
use Rattle.mb_pool.specs.Parts.{port_view}
use Rattle.mb_pool.specs.Places.{PoolPort, ports_of, part_of, parts_of}
use Rattle.mb_gate.specs.Untouched.{IsUntouched}
use Rattle.mb_pool.specs.Endpoints.{AreOpen, endpoint_of}
use Rattle.mb_pool.proofs.Ports.{shared_port_open, feed_parts, own_open, own_parts, push_by_shared_port, push_by_own, push_same, put_part, refused_by_own, stealing}
use Rattle.mb_pool.proofs.worker_port.push_first.Goals as goal

pub push-requires-clause-share : goal.push-requires-clause-share
push-requires-clause-share g c = (shared_port_open (endpoint_of (port_view c.args.shared_port.now) c.args.member.now) c.requires.open).share

pub returns-in-None-clause-pushed : goal.returns-in-None-clause-pushed
returns-in-None-clause-pushed g c =
    let old = port_view c.args.shared_port.now in let new = port_view c.push.new.self in
    subst (λ m. MatchResult c.push.result
    (λ _. Pushes (IsUntouched g.H.MailboxState.is_of g.H.MailboxState.facts) (endpoint_of old m) c.args.claim (endpoint_of new m))
    (λ f. (given_back f ≡ c.args.claim) × (endpoint_of new m ≡ endpoint_of old m)
    × IsRefusedBy (IsUntouched g.H.MailboxState.is_of g.H.MailboxState.facts) (endpoint_of old m) f))
    (sym c.in-None.is) (push_by_shared_port
    (IsUntouched g.H.MailboxState.is_of g.H.MailboxState.facts) old new c.push.ensures.same_queue c.args.claim c.push.result c.push.ensures.pushed)

pub returns-in-None-clause-same : goal.returns-in-None-clause-same
returns-in-None-clause-same g c =
    let old = port_view c.args.shared_port.now in let new = port_view c.push.new.self in
    subst (λ m. parts_of (endpoint_of new m) ≡ parts_of (endpoint_of old m)) (sym c.in-None.is)
    (feed_parts old new (push_same
    (IsUntouched g.H.MailboxState.is_of g.H.MailboxState.facts) old new c.push.ensures.same_queue c.args.claim c.push.result c.push.ensures.pushed))

pub push-requires-in-Some-clause-share : goal.push-requires-in-Some-clause-share
push-requires-in-Some-clause-share g c =
    let m = c.in-Some.member in let shared_port = port_view c.args.shared_port.now in
    (own_open m.own_deque shared_port m.thieves.items (subst (λ o. AreOpen (endpoint_of shared_port o)) c.in-Some.is c.requires.open)).share

pub push-requires-in-Some-clause-untouched : goal.push-requires-in-Some-clause-untouched
push-requires-in-Some-clause-untouched g c =
    let m = c.in-Some.member in let shared_port = port_view c.args.shared_port.now in
    subst (λ x. IsUntouched g.H.MailboxState.is_of g.H.MailboxState.facts x c.args.claim)
    (sym (own_open m.own_deque shared_port m.thieves.items (subst (λ o. AreOpen (endpoint_of shared_port o)) c.in-Some.is c.requires.open)).same) c.requires.untouched

pub returns-in-Ok-clause-pushed : goal.returns-in-Ok-clause-pushed
returns-in-Ok-clause-pushed g c =
    let m = c.in-Some.member in let new = c.push-in-Some.new.self in let shared_port = port_view c.args.shared_port.now in
    subst (λ o. PutsFirst (IsUntouched g.H.MailboxState.is_of g.H.MailboxState.facts)
    (ports_of (endpoint_of shared_port o)) c.args.claim (new ∷ shared_port ∷ m.thieves.items))
    (sym c.in-Some.is)
    (push_by_own (IsUntouched g.H.MailboxState.is_of g.H.MailboxState.facts)
    m.own_deque new shared_port shared_port m.thieves.items m.thieves.items c.args.claim c.push-in-Some.ensures.same_queue c.in-Ok.ensures.pushed)

pub push-requires-clause-untouched : goal.push-requires-clause-untouched
push-requires-clause-untouched g c = c.requires.untouched

pub returns-in-Ok-clause-same : goal.returns-in-Ok-clause-same
returns-in-Ok-clause-same g c =
    let m = c.in-Some.member in let new = c.push-in-Some.new.self in let shared_port = port_view c.args.shared_port.now in
    subst (λ o. parts_of (stealing new shared_port m.thieves.items) ≡ parts_of (endpoint_of shared_port o)) (sym c.in-Some.is)
    (own_parts m.own_deque new shared_port m.thieves.items (put_part (IsUntouched g.H.MailboxState.is_of g.H.MailboxState.facts) m.own_deque new c.args.claim
    c.push-in-Some.ensures.same_queue c.in-Ok.ensures.pushed))

pub returns-in-Err-clause-pushed : goal.returns-in-Err-clause-pushed
returns-in-Err-clause-pushed g c =
    let m = c.in-Some.member in let new = c.push-in-Some.new.self in let shared_port = port_view c.args.shared_port.now in let h = c.in-Err.ensures.pushed in
    subst (λ o. (c.in-Err.back ≡ c.args.claim) × (stealing new shared_port m.thieves.items ≡ endpoint_of shared_port o)
    × IsRefusedBy (IsUntouched g.H.MailboxState.is_of g.H.MailboxState.facts) (endpoint_of shared_port o) (NoMemory c.in-Err.back))
    (sym c.in-Some.is) (
      h.0,
      ap (λ (l : PoolPort _). stealing l shared_port m.thieves.items) h.1,
      refused_by_own (IsUntouched g.H.MailboxState.is_of g.H.MailboxState.facts) m.own_deque new shared_port shared_port m.thieves.items m.thieves.items c.in-Err.back
          c.push-in-Some.ensures.unbounded,
    )

pub returns-in-Err-clause-same : goal.returns-in-Err-clause-same
returns-in-Err-clause-same g c =
    let m = c.in-Some.member in let new = c.push-in-Some.new.self in let shared_port = port_view c.args.shared_port.now in
    subst (λ o. parts_of (stealing new shared_port m.thieves.items) ≡ parts_of (endpoint_of shared_port o)) (sym c.in-Some.is)
    (own_parts m.own_deque new shared_port m.thieves.items (ap (λ (l : PoolPort _). part_of l) c.in-Err.ensures.pushed.1))
