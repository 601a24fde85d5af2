use Rattle.std.proofs.Common.{refl, arith, ◌<◌, length}
use Rattle.mb_dispatch_tests.proofs.Kept.{first-sender, with-sender}
use Rattle.mb_dispatch_tests.proofs.test_system.TestSystemSystemDriver.send.Goals as goal

pub call_sender-requires : goal.call_sender-requires
call_sender-requires g c =
    let was = c.self.inside in
    let some : 0 < length was.senders.items = omega (arith, was.senders.ok.0) in
    record { same_gates = first-sender was.system was.handles was.senders c.index_mut.result.now c.index_mut.ensures.value some c.self.invariant }

pub invariant_of-self : goal.invariant_of-self
invariant_of-self g c =
    let was = c.self.inside in
    with-sender was.system was.handles was.senders _ c.index_mut.result.now c.call_sender.new.sender refl c.call_sender.ensures.same_gates
    c.call_sender.ensures.same_sender c.index_mut.ensures.value c.self.invariant
