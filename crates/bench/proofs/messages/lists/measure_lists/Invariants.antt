use Rattle.std.proofs.Common.{◌≡◌, ◌*◌, [], length, false}
use Rattle.bench.proofs.messages.lists.measure_lists.Given as goal

abbrev pub invariant-loop : goal.invariant-loop
invariant-loop g l = record {
  same_count : length l.chain ≡ 16;
  list : l.list ≡ record { messages = []; given = 16 * l.counter; closed = false };
}
