use Rattle.std.proofs.Common.{◌≡◌, ◌+◌, drop}
use Rattle.mb_build.specs.Reasons.{bad_bounds}
use Rattle.mb_build.proofs.check.check_bounds.Given as goal

abbrev pub invariant-loop-actor : goal.invariant-loop-actor
invariant-loop-actor l = (l.id ≡ l.actor-index + 1) × (bad_bounds 1 l.actors ≡ bad_bounds l.id (drop l.actor-index l.actors))
