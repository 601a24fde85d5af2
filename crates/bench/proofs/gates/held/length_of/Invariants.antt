use Rattle.std.proofs.Common.{◌≡◌, ◌+◌, ◌%◌, ◌^◌, length}
use Rattle.bench.proofs.gates.held.length_of.Given as goal

abbrev pub invariant-loop-number : goal.invariant-loop-number
invariant-loop-number l = (l.count + length l.chain) % 2 ^ 64 ≡ length l.fn.chain % 2 ^ 64

abbrev pub decreases-loop-number : goal.decreases-loop-number
decreases-loop-number l = length l.chain
