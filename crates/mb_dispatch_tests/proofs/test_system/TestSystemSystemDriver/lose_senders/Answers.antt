use Rattle.mb_dispatch_tests.proofs.Kept.{without-senders}
use Rattle.mb_dispatch_tests.proofs.test_system.TestSystemSystemDriver.lose_senders.Goals as goal

pub invariant_of-self : goal.invariant_of-self
invariant_of-self c =
    let was = c.self.inside in
    without-senders was.system was.handles was.senders _ c.clear.ensures.items c.self.invariant
