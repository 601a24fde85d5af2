use Rattle.std.proofs.Common.{◌∙◌, ℕ, List, ap, refl, subst, sym}
use Rattle.std.proofs.lemmas.Result.{err_from_is_err_and}
use Rattle.std.specs.Prelude.{Err, Ok, Result}
use Rattle.mb_actor.specs.Behaviour.{Moment, Reply}
use Rattle.mb_system.specs.declared.handle.WorkerHandle.{WorkerHandle}
use Rattle.mb_system.specs.declared.failure.RunError.{RunError}
use Rattle.mb_system.specs.declared.system.System.{System}
use Rattle.mb_gate.specs.Accessors.{pass_view}
use Rattle.mb_system.specs.Members.{AreHandlesOf, OweNobody}
use Rattle.mb_dispatch.specs.Faults.{BreaksWork, HasWorked}
use Rattle.mb_dispatch.specs.Found.{AllFoundPoolEmpty}
use Rattle.mb_dispatch.specs.Parallel.{HaveEnded}
use Rattle.mb_dispatch.specs.Working.{KeepsHandle}
use Rattle.mb_dispatch.proofs.Continuing.{done-after, ended-then, keep-none, ours-after, ran-of, worked-none}
use Rattle.mb_dispatch.proofs.settling.settle.Goals as goal

pub loop-init : goal.loop-init
loop-init g c =
    let gives = g.K.Behaviours.gives in let system = c.args.system.now in
    (refl, refl, keep-none gives system c.args.handles.now c.requires.handles, worked-none gives system c.args.handles.now c.requires.worked)

pub is_settled-requires-clause-handles : goal.is_settled-requires-clause-handles
is_settled-requires-clause-handles g c = ours-after g.K.Behaviours.gives c.args.system.now c.args.handles.now c.loop.handles c.loop.invariant.2

pub work_by_first-requires-clause-handles : goal.work_by_first-requires-clause-handles
work_by_first-requires-clause-handles g c =
    subst (λ l. AreHandlesOf c.args.system.now.gates l) (sym c.is_settled.ensures.same.0)
    (ours-after g.K.Behaviours.gives c.args.system.now c.args.handles.now c.loop.handles c.loop.invariant.2)

pub work_by_first-requires-clause-worked : goal.work_by_first-requires-clause-worked
work_by_first-requires-clause-worked g c =
    subst (λ l. OweNobody c.args.system.now.gates l × AllFoundPoolEmpty g.K.Behaviours.gives l) (sym c.is_settled.ensures.same.0)
    (done-after g.K.Behaviours.gives c.args.system.now c.args.handles.now c.loop.handles c.loop.invariant.3)

-- what became of the handles, from the beginning on
abbrev Ended : {A K : Type 0} → (ℕ → Moment → Reply → Type 0) → System A K → List (WorkerHandle A K) → List (WorkerHandle A K) → Result (Unit {0}) RunError → Type 0
Ended gives system =
    HaveEnded (KeepsHandle gives system) (λ o n. HasWorked gives system (pass_view o.registrar.pass) n)
    (λ o n. BreaksWork gives system (pass_view o.registrar.pass) n)

pub loop-preserved : goal.loop-preserved
loop-preserved g c =
    let gives = g.K.Behaviours.gives in let system = c.args.system.now in let same = c.is_settled.ensures.same in let at = c.loop.invariant in
    let first = c.args.handles.now in let new = c.work_by_first.new.handles in let result = Ok c.in_ok-work_by_first.field-0 in
    let ended = subst (λ l. Ended gives system l new result) same.0 c.in_ok-work_by_first.ensures in
    let all = ended-then gives system first c.loop.handles new (ran-of gives system first c.loop.handles at.3) result at.2 ended in
    (same.1 ∙ at.0, same.2 ∙ at.1, all.keeps, all.done)

pub returns-in_err-work_by_first-clause-ended : goal.returns-in_err-work_by_first-clause-ended
returns-in_err-work_by_first-clause-ended g c =
    let gives = g.K.Behaviours.gives in let system = c.args.system.now in let same = c.is_settled.ensures.same in let at = c.loop.invariant in
    let first = c.args.handles.now in let new = c.work_by_first.new.handles in let result = c.work_by_first.result in
    let ended = subst (λ l. Ended gives system l new result) same.0 c.work_by_first.ensures in
    let all = ended-then gives system first c.loop.handles new (ran-of gives system first c.loop.handles at.3) result at.2 ended in
    let p = err_from_is_err_and c.from_residual.result c.from_residual.ensures.1 in
    subst (λ r. Ended gives system first new r) (c.in_err-work_by_first.was ∙ (ap Err (sym p.2) ∙ sym p.1)) all
