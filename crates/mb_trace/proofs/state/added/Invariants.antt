use Rattle.std.proofs.Common.{◌≡◌, drop}
use Rattle.mb_script.specs.Operations.{grown}
use Rattle.mb_trace.proofs.state.added.Given as goal

-- the operations that are left lead to where all lead
abbrev pub invariant-loop-operation : goal.invariant-loop-operation
invariant-loop-operation l = grown l.value l.after (drop l.operation-index l.operations) ≡ grown l.value l.state l.operations
