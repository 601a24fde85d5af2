use Rattle.std.proofs.Common.{Some, ◌++◌, ◌∙◌, ap, drop, length, subst, sym, take}
use Rattle.std.specs.Prelude.{All}
use Rattle.mb_pool.specs.Parts.{port_view}
use Rattle.mb_gate.specs.Untouched.{IsUntouched}
use Rattle.mb_pool.specs.Endpoints.{HasShare, endpoint_of}
use Rattle.mb_pool.proofs.Lent.{refilled}
use Rattle.mb_pool.proofs.Ports.{shared_port_open, next_open, own_open, own_parts, took_shared_port, took_shared_port_same, took_next, took_next_same, took_own, took_part}
use Rattle.mb_pool.proofs.Stealing.{as_many, found_in, of_none}
use Rattle.mb_pool.proofs.worker_deques.take_somewhere.Goals as goal

pub take-requires : goal.take-requires
take-requires g c = record { share = (own_open c.args.member.now.own_deque (port_view c.args.shared_port.now) c.args.member.now.thieves.items c.requires).share }

pub returns-in-Some-clause-taken : goal.returns-in-Some-clause-taken
returns-in-Some-clause-taken g c = let m = c.args.member.now in let d = port_view c.args.shared_port.now in
    took_own (IsUntouched g.H.MailboxState.is_of g.H.MailboxState.facts) m.own_deque c.take.new.self d d m.thieves.items m.thieves.items c.in-Some.claim
    c.take.ensures.same_queue c.in-Some.ensures.taken

pub returns-in-Some-clause-same : goal.returns-in-Some-clause-same
returns-in-Some-clause-same g c = let m = c.args.member.now in let d = port_view c.args.shared_port.now in
    own_parts m.own_deque c.take.new.self d m.thieves.items
    (took_part (IsUntouched g.H.MailboxState.is_of g.H.MailboxState.facts) m.own_deque c.take.new.self c.in-Some.claim c.take.ensures.same_queue c.in-Some.ensures.taken)

pub take-requires-2 : goal.take-requires-2
take-requires-2 g c = record { share = (shared_port_open (endpoint_of (port_view c.args.shared_port.now) (Some c.args.member.now)) c.requires).share }

pub returns-in-Some-take-clause-taken : goal.returns-in-Some-take-clause-taken
returns-in-Some-take-clause-taken g c = let m = c.args.member.now in let d = port_view c.args.shared_port.now in
    let none = of_none _ _ c.take.result c.in_default.is c.take.ensures.taken in
    took_shared_port (IsUntouched g.H.MailboxState.is_of g.H.MailboxState.facts)
    m.own_deque c.take.new.self d (port_view c.take-2.new.self) m.thieves.items m.thieves.items none.0 none.1 c.in-Some-take.claim c.take-2.ensures.same_queue
    c.in-Some-take.ensures.taken

pub steal_from_next-requires : goal.steal_from_next-requires
steal_from_next-requires g c = let m = c.args.member.now in
    subst (λ ls. All HasShare ls) (sym c.as_mut_slice.ensures.value) (next_open m.own_deque (port_view c.args.shared_port.now) m.thieves.items c.requires)

pub returns-clause-taken : goal.returns-clause-taken
returns-clause-taken g c = let m = c.args.member.now in let d = port_view c.args.shared_port.now in let v = m.thieves in
    let none = of_none _ _ c.take.result c.in_default.is c.take.ensures.taken in
    let none' = of_none _ _ c.take-2.result c.in_default-take.is c.take-2.ensures.taken in
    let lent = c.as_mut_slice.result.now in let new = c.steal_from_next.new.thieves in let r = c.steal_from_next.result in
    let count = as_many (IsUntouched g.H.MailboxState.is_of g.H.MailboxState.facts)
    lent new r c.steal_from_next.ensures ∙ ap length c.as_mut_slice.ensures.value ∙ sym v.ok.0 in
    let back = take v.len (new ++ drop (length new) v.items) in
    took_next (IsUntouched g.H.MailboxState.is_of g.H.MailboxState.facts)
    m.own_deque c.take.new.self d (port_view c.take-2.new.self) v.items back none.0 none.1 none'.0 none'.1 r
    (found_in (IsUntouched g.H.MailboxState.is_of g.H.MailboxState.facts)
    lent new v.items back r c.as_mut_slice.ensures.value (refilled v.len v.items new count) c.steal_from_next.ensures)

pub returns-in-Some-take-clause-same : goal.returns-in-Some-take-clause-same
returns-in-Some-take-clause-same g c = let m = c.args.member.now in let d = port_view c.args.shared_port.now in
    let none = of_none _ _ c.take.result c.in_default.is c.take.ensures.taken in
    took_shared_port_same (IsUntouched g.H.MailboxState.is_of g.H.MailboxState.facts)
    m.own_deque c.take.new.self d (port_view c.take-2.new.self) m.thieves.items m.thieves.items none.0 none.1 c.in-Some-take.claim c.take-2.ensures.same_queue
    c.in-Some-take.ensures.taken

pub returns-clause-same : goal.returns-clause-same
returns-clause-same g c = let m = c.args.member.now in let d = port_view c.args.shared_port.now in let v = m.thieves in
    let none = of_none _ _ c.take.result c.in_default.is c.take.ensures.taken in
    let none' = of_none _ _ c.take-2.result c.in_default-take.is c.take-2.ensures.taken in
    let lent = c.as_mut_slice.result.now in let new = c.steal_from_next.new.thieves in let r = c.steal_from_next.result in
    let count = as_many (IsUntouched g.H.MailboxState.is_of g.H.MailboxState.facts)
    lent new r c.steal_from_next.ensures ∙ ap length c.as_mut_slice.ensures.value ∙ sym v.ok.0 in
    let back = take v.len (new ++ drop (length new) v.items) in
    took_next_same (IsUntouched g.H.MailboxState.is_of g.H.MailboxState.facts)
    m.own_deque c.take.new.self d (port_view c.take-2.new.self) v.items back none.0 none.1 none'.0 none'.1 r
    (found_in (IsUntouched g.H.MailboxState.is_of g.H.MailboxState.facts)
    lent new v.items back r c.as_mut_slice.ensures.value (refilled v.len v.items new count) c.steal_from_next.ensures)
