use Rattle.std.proofs.Common.{◌≡◌, ◌+◌, drop}
use Rattle.mb_build.specs.Reasons.{bad_parents}
use Rattle.mb_build.proofs.check.check_parents.Given as goal

abbrev pub invariant-loop-actor : goal.invariant-loop-actor
invariant-loop-actor l = (l.id ≡ l.actor-index + 1) × (bad_parents 1 l.actors ≡ bad_parents l.id (drop l.actor-index l.actors))
