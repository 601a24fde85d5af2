use Rattle.std.proofs.Common.{◌≡◌, ◌+◌, length}
use Rattle.bench.proofs.messages.lists.go_round.Given as goal

abbrev pub invariant-loop-number : goal.invariant-loop-number
invariant-loop-number l = record {
  same : l.list ≡ record l.fn.list { messages = l.list.messages };
  all : length l.list.messages + length l.chain ≡ length l.fn.chain;
}

abbrev pub decreases-loop-number : goal.decreases-loop-number
decreases-loop-number l = length l.chain
