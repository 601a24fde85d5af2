use Rattle.mb_dispatch_tests.proofs.closing.come_back.Goals as goal

pub of-requires : goal.of-requires
of-requires c = record { together = c.requires.together }
