use Rattle.std.proofs.Common.{◌≡◌, pos}
use Rattle.std.specs.Prelude.{All}
use Rattle.mb_testkit.specs.declared.test_actor.TestActor.{TestActor}
use Rattle.mb_dispatch_tests.proofs.planned.planned.Given as goal

abbrev pub invariant-loop-part : goal.invariant-loop-part
invariant-loop-part l = All (λ (actor : TestActor). actor.sum ≡ pos 0) l.planned.actors.items
