use Rattle.std.proofs.Common.{◌≡◌}
use Rattle.mb_causal_order.proofs.journal_actor.ask_all.Given as goal

abbrev pub invariant-loop-effect : goal.invariant-loop-effect
invariant-loop-effect l = record { actors : l.out.actors ≡ l.initial.out.actors; unspawned : l.out.unspawned ≡ l.initial.out.unspawned }
