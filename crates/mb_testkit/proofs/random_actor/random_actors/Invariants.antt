use Rattle.std.proofs.Common.{◌≡◌, pos}
use Rattle.std.specs.Prelude.{All}
use Rattle.mb_testkit.proofs.random_actor.random_actors.Given as goal

abbrev pub invariant-loop-number : goal.invariant-loop-number
invariant-loop-number l = All (λ gambler. gambler.sum ≡ pos 0) l.random_actors.items
