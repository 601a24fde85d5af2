use Rattle.mb_dispatch_tests.proofs.test_system.TestSystem.of.Goals as goal

pub invariant_of-result : goal.invariant_of-result
invariant_of-result c = c.requires.together
