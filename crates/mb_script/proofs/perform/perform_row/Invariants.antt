use Rattle.std.proofs.Common.{◌≡◌, length}
use Rattle.mb_script.specs.Operations.{answer_after, asked_by, grown}
use Rattle.mb_script.proofs.perform.perform_row.Given as goal

-- the operations that are left lead to where all lead
abbrev pub invariant-loop-operation : goal.invariant-loop-operation
invariant-loop-operation l = record {
  state : grown l.value l.state l.rest ≡ grown l.value l.initial.state l.operations;
  answer : answer_after l.rest ≡ answer_after l.operations;
  asked : asked_by l.value l.out l.rest ≡ asked_by l.value l.initial.out l.operations;
  actors : l.out.actors ≡ l.initial.out.actors;
  unspawned : l.out.unspawned ≡ l.initial.out.unspawned;
}

abbrev pub decreases-loop-operation : goal.decreases-loop-operation
decreases-loop-operation l = length l.rest
