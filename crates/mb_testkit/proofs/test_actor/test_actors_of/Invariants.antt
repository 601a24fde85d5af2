use Rattle.std.proofs.Common.{◌≡◌, pos}
use Rattle.std.specs.Prelude.{All}
use Rattle.mb_testkit.proofs.test_actor.test_actors_of.Given as goal

abbrev pub invariant-loop-part : goal.invariant-loop-part
invariant-loop-part l = All (λ player. player.sum ≡ pos 0) l.players.items
