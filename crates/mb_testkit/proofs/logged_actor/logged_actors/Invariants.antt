use Rattle.std.proofs.Common.{◌≡◌, pos}
use Rattle.std.specs.Prelude.{All}
use Rattle.mb_testkit.proofs.logged_actor.logged_actors.Given as goal

abbrev pub invariant-loop-part : goal.invariant-loop-part
invariant-loop-part l = All (λ logged. logged.actor.sum ≡ pos 0) l.actors.items
