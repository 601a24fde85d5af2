use Rattle.std.proofs.Common.{◌≡◌}
use Rattle.mb_testkit.proofs.action.do_all.Given as goal

abbrev pub invariant-loop-deed : goal.invariant-loop-deed
invariant-loop-deed l = record { actors : l.out.actors ≡ l.initial.out.actors; unspawned : l.out.unspawned ≡ l.initial.out.unspawned }
