use Rattle.std.proofs.Common.{◌≡◌, drop}
use Rattle.mb_script.specs.Operations.{answer_after, asked_by, grown}
use Rattle.mb_script.proofs.perform.perform.Given as goal

-- the operations that are left lead to where all lead
abbrev pub invariant-loop-operation : goal.invariant-loop-operation
invariant-loop-operation l = record {
  state : grown l.value l.after (drop l.operation-index l.operations) ≡ grown l.value l.fn.state l.operations;
  answer : answer_after (drop l.operation-index l.operations) ≡ answer_after l.operations;
  asked : asked_by l.value l.out (drop l.operation-index l.operations) ≡ asked_by l.value l.initial.out l.operations;
  actors : l.out.actors ≡ l.initial.out.actors;
  unspawned : l.out.unspawned ≡ l.initial.out.unspawned;
}
