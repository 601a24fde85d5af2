use Rattle.std.proofs.Common.{◌≡◌, []}
use Rattle.bench.proofs.messages.outboxes.measure_outbox.Given as goal

abbrev pub invariant-loop-round : goal.invariant-loop-round
invariant-loop-round g l = record {
  outbox : l.outbox ≡ record { effects = []; actors = 3; unspawned = [] };
  told : l.told ≡ l.round;
}
