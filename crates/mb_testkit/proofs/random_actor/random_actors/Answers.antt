use Rattle.std.proofs.Common.{pos, ◌≡◌, refl}
use Rattle.std.proofs.lemmas.List.Elements.{All-push, All-same}
use Rattle.std.proofs.Common.{[], ◌∷◌, ◌++◌}
use Rattle.mb_testkit.specs.declared.random_actor.RandomActor.{RandomActor}
use Rattle.mb_testkit.proofs.random_actor.random_actors.Goals as goal

pub loop-number-preserved : goal.loop-number-preserved
loop-number-preserved c =
    let P = λ (p : RandomActor). p.sum ≡ pos 0 in
    let before = c.loop-number.random_actors.items in
    All-same P c.push.new.self.items (before ++ _ ∷ []) c.in_ok-push.ensures.items
    (All-push P before _ c.loop-number.invariant refl)
