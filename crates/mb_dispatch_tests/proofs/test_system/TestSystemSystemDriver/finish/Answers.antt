use Rattle.mb_dispatch_tests.proofs.Kept.{of-refusal}
use Rattle.mb_dispatch_tests.proofs.test_system.TestSystemSystemDriver.finish.Goals as goal

pub finish-requires : goal.finish-requires
finish-requires g c = record { together = c.self.invariant }

pub refusal_of-requires : goal.refusal_of-requires
refusal_of-requires g c =
    let was = c.self.inside in
    record {
      back = of-refusal (record { system = was.system; handles = was.handles; senders = was.senders }) c.in-Err.error c.in-Err.ensures.refused c.self.invariant;
    }
