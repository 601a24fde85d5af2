use mir.Val.{SFits}
use Rattle.std.proofs.Common.{◌∙◌, refl, rules, w64}
use Rattle.std.proofs.lemmas.Int.{to_z-of_z}
use Rattle.mb_script.proofs.Performing.{answer_failed, answer_more, answer_past, asked_failed, asked_more, asked_past, same_outbox, same_state}
use Rattle.mb_script.proofs.Performing.{state_failed, state_more, state_past}
use Rattle.mb_script.proofs.perform.perform.Goals as goal

pub loop-operation-init : goal.loop-operation-init
loop-operation-init c = record { state = refl; answer = refl; asked = refl; actors = refl; unspawned = refl }

pub loop-operation-preserved : goal.loop-operation-preserved
loop-operation-preserved c =
    let at = c.loop-operation in let test = c.loop-operation-test.true in let passes = c.in_default.not-Fail in
    let operations = c.args.operations.now in let after = c.after_operation-after in let did = c.ask.ensures in
    let fits : SFits w64 after.result = search rules in record {
      state = state_more _ _ _ _ operations at.operation-index test passes (to_z-of_z w64 after.result fits ∙ after.ensures) at.invariant.state;
      answer = answer_more _ operations at.operation-index test passes at.invariant.answer;
      asked = asked_more _ _ _ _ operations at.operation-index test passes did.asked at.invariant.asked;
      actors = did.actors ∙ at.invariant.actors;
      unspawned = did.unspawned ∙ at.invariant.unspawned;
    }

pub returns-in-Fail-clause-state : goal.returns-in-Fail-clause-state
returns-in-Fail-clause-state c =
    let at = c.loop-operation in
    state_failed _ _ _ c.args.operations.now at.operation-index c.in-Fail.number c.loop-operation-test.true c.in-Fail.is at.invariant.state
    ∙ same_state _ c.args.value _ c.args.state c.args.operations.now (to_z-of_z w64 c.args.value c.ranges.value)
    (to_z-of_z w64 c.args.state c.ranges.state)

pub returns-in-Fail-clause-answer : goal.returns-in-Fail-clause-answer
returns-in-Fail-clause-answer c =
    let at = c.loop-operation in
    answer_failed _ c.args.operations.now at.operation-index c.in-Fail.number c.loop-operation-test.true c.in-Fail.is at.invariant.answer

pub returns-in-Fail-clause-asked : goal.returns-in-Fail-clause-asked
returns-in-Fail-clause-asked c =
    let at = c.loop-operation in
    asked_failed _ _ _ c.args.operations.now at.operation-index c.in-Fail.number c.loop-operation-test.true c.in-Fail.is at.invariant.asked
    ∙ same_outbox _ c.args.value c.args.out.now c.args.operations.now (to_z-of_z w64 c.args.value c.ranges.value)

pub returns-in-Fail-clause-actors : goal.returns-in-Fail-clause-actors
returns-in-Fail-clause-actors c = c.loop-operation.invariant.actors

pub returns-in-Fail-clause-unspawned : goal.returns-in-Fail-clause-unspawned
returns-in-Fail-clause-unspawned c = c.loop-operation.invariant.unspawned

pub returns-clause-state : goal.returns-clause-state
returns-clause-state c =
    let at = c.loop-operation in
    state_past _ _ _ c.args.operations.now at.operation-index c.loop-operation-test.false at.invariant.state
    ∙ same_state _ c.args.value _ c.args.state c.args.operations.now (to_z-of_z w64 c.args.value c.ranges.value)
    (to_z-of_z w64 c.args.state c.ranges.state)

pub returns-clause-answer : goal.returns-clause-answer
returns-clause-answer c =
    let at = c.loop-operation in answer_past _ c.args.operations.now at.operation-index c.loop-operation-test.false at.invariant.answer

pub returns-clause-asked : goal.returns-clause-asked
returns-clause-asked c =
    let at = c.loop-operation in
    asked_past _ _ _ c.args.operations.now at.operation-index c.loop-operation-test.false at.invariant.asked
    ∙ same_outbox _ c.args.value c.args.out.now c.args.operations.now (to_z-of_z w64 c.args.value c.ranges.value)

pub returns-clause-actors : goal.returns-clause-actors
returns-clause-actors c = c.loop-operation.invariant.actors

pub returns-clause-unspawned : goal.returns-clause-unspawned
returns-clause-unspawned c = c.loop-operation.invariant.unspawned
