use Rattle.mb_testkit.specs.Sum.{sum_of}
use Rattle.mb_dispatch_tests.proofs.Casting.{alike-behaved}
use Rattle.mb_testkit.specs.declared.test_actor.TestActor.{TestActor}
use Rattle.mb_dispatch_tests.proofs.test_system.system_of.Goals as goal

pub build-requires : goal.build-requires
build-requires g c =
    record { behaved = alike-behaved (λ (p : TestActor). p.sum) sum_of (λ moment reply. Unit {0}) 1 c.in-Ok-test_actors_of.players.items c.in-Ok-test_actors_of.ensures }

pub of-requires : goal.of-requires
of-requires g c = record { together = c.in-Ok-build.ensures.begun.together }
