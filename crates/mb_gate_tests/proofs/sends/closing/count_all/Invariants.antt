use Rattle.std.proofs.Common.{◌≡◌, ◌+◌, ◌%◌, ◌^◌, length}
use Rattle.mb_gate_tests.proofs.sends.closing.count_all.Given as goal

abbrev pub invariant-loop : goal.invariant-loop
invariant-loop g l = (l.count + length l.chain) % 2 ^ 64 ≡ length l.fn.chain % 2 ^ 64
