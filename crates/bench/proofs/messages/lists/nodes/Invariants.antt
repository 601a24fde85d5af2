use Rattle.std.proofs.Common.{◌≡◌, length, false}
use Rattle.bench.proofs.messages.lists.nodes.Given as goal

abbrev pub invariant-loop : goal.invariant-loop
invariant-loop g l = record { open_ : l.list.closed ≡ false; many : length l.list.messages ≡ l.counter }
