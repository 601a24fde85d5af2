use Rattle.std.proofs.Common.{pos, ◌≡◌}
use Rattle.std.proofs.lemmas.List.Elements.{All-push, All-same}
use Rattle.std.proofs.Common.{[], ◌∷◌, ◌++◌}
use Rattle.mb_testkit.specs.declared.test_actor.TestActor.{TestActor}
use Rattle.mb_testkit.proofs.test_actor.test_actors_of.Goals as goal

pub loop-part-preserved : goal.loop-part-preserved
loop-part-preserved c =
    let P = λ (p : TestActor). p.sum ≡ pos 0 in
    let before = c.loop-part.players.items in
    All-same P c.push.new.self.items (before ++ c.new.result ∷ []) c.in_ok-push.ensures.items
    (All-push P before c.new.result c.loop-part.invariant c.new.ensures)
