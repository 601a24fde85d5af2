use Rattle.mb_dispatch_tests.proofs.refusals.refused.Goals as goal

pub run_whole-requires-clause-unused : goal.run_whole-requires-clause-unused
run_whole-requires-clause-unused g c κs within = c.in_ok-actors.ensures
