use Rattle.std.proofs.Common.{◌≡◌, ◌+◌, ◌%◌, ◌^◌, length}
use Rattle.mb_gate.specs.Accessors.{pass_id}
use Rattle.bench.proofs.gates.held.put_back.Given as goal

abbrev pub invariant-loop-number : goal.invariant-loop-number
invariant-loop-number g l =
    (pass_id l.pass ≡ pass_id l.initial.pass) × ((l.count + length l.chain) % 2 ^ 64 ≡ length l.fn.chain % 2 ^ 64)

abbrev pub decreases-loop-number : goal.decreases-loop-number
decreases-loop-number g l = length l.chain
