use Rattle.std.proofs.Common.{◌∙◌, ◌<◌, length, set, subst, sym}
use Rattle.std.proofs.lemmas.List.{with_items_is}
use Rattle.mb_gate.specs.Accessors.{pass_view}
use Rattle.mb_gate.specs.Untouched.{origin_of}
use Rattle.mb_system.specs.Members.{AreHandlesOf}
use Rattle.mb_dispatch.specs.Alone.{FirstAlone, KeepsAlone}
use Rattle.mb_dispatch.specs.Faults.{BreaksQuietRun}
use Rattle.mb_dispatch.specs.Runs.{MadeMoreRuns, turns_in}
use Rattle.mb_dispatch.specs.Working.{HasSettled}
use Rattle.mb_dispatch.proofs.Alone.{alone-next, alone-ours, alone-some, alone-then, more-then, quiet-breaks-after}
use Rattle.mb_system.proofs.RunErrors.{on-error}
use Rattle.mb_dispatch.proofs.quiet.continue_quietly.Goals as goal

pub is_settled-requires-clause-handles : goal.is_settled-requires-clause-handles
is_settled-requires-clause-handles g c =
    alone-ours c.args.system.now c.args.handles.now c.loop.handles c.requires.handles c.loop.invariant.0

pub work_quietly-requires-in-loop : goal.work_quietly-requires-in-loop
work_quietly-requires-in-loop g c =
    let some = alone-some _ c.args.handles.now c.loop.handles c.loop.invariant.0 in let same = c.is_settled.ensures.same.0 in
    record {
      same_gates =
          subst (λ l. AreHandlesOf c.args.system.now.gates l) (sym same)
          (alone-ours c.args.system.now c.args.handles.now c.loop.handles c.requires.handles c.loop.invariant.0)
          0 c.index-handles-0-in-loop.result (subst (λ l. 0 < length l) (sym same) some);
    }

pub returns-in_err-all-2-clause-alone : goal.returns-in_err-all-2-clause-alone
returns-in_err-all-2-clause-alone g c =
    let system = c.args.system.now in let new = c.work_quietly-in-loop.new.handle in
    alone-next (KeepsAlone system) (KeepsAlone system) (KeepsAlone system) (alone-then system) c.args.handles.now c.is_settled.new.handles
    c.index-handles-0-in-loop.result new
    (subst (FirstAlone (KeepsAlone system) c.args.handles.now) (sym c.is_settled.ensures.same.0) c.loop.invariant.0)
    c.work_quietly-in-loop.ensures.alone

pub returns-in_err-all-2-clause-fault : goal.returns-in_err-all-2-clause-fault
returns-in_err-all-2-clause-fault g c =
    let gives = g.K.Behaviours.gives in let system = c.args.system.now in let new = c.work_quietly-in-loop.new.handle in
    let left = c.from_residual-in_err-all-2 in let error = c.in_err-all-2.field-0.0 in let handles = c.is_settled.new.handles in
    on-error left.result (λ fault. FirstAlone (λ o n. BreaksQuietRun gives system (pass_view o.registrar.pass) n fault) c.args.handles.now (set handles 0 new)) error
    left.ensures.1
    (alone-next _ (λ o n. BreaksQuietRun gives system (pass_view o.registrar.pass) n error) _
    (λ x y z more broken. quiet-breaks-after gives system (pass_view x.registrar.pass) (pass_view y.registrar.pass) z error
    (record { turns = more.later; made = more.made }) broken) c.args.handles.now handles c.index-handles-0-in-loop.result new
    (subst (FirstAlone _ c.args.handles.now) (sym c.is_settled.ensures.same.0) c.loop.invariant.2) c.in_err-all-2.ensures.fault)

pub loop-preserved : goal.loop-preserved
loop-preserved g c =
    let gives = g.K.Behaviours.gives in let system = c.args.system.now in let new = c.work_quietly-in-loop.new.handle in
    let same = c.is_settled.ensures.same in let did = c.in_ok-all-2.ensures in let at = c.loop.invariant in
    let first = c.args.handles.now in let handles = c.is_settled.new.handles in let other = c.index-handles-0-in-loop.result in
    let origin = origin_of system.gates in let kept = subst (FirstAlone (KeepsAlone system) first) (sym same.0) at.0 in (
      alone-next (KeepsAlone system) (KeepsAlone system) (KeepsAlone system) (alone-then system) first handles other new kept did.alone,
      alone-next (KeepsAlone system) (λ o n. HasSettled gives system n) (λ o n. HasSettled gives system n) (λ x y z k settled. settled) first handles other new
          kept did.settled,
      alone-next
          (λ o n. MadeMoreRuns gives origin system.throughput (pass_view o.registrar.pass) (turns_in c.args.turns) (turns_in c.loop.all) (pass_view n.registrar.pass))
          (λ o n. MadeMoreRuns gives origin system.throughput (pass_view o.registrar.pass) (turns_in c.loop.all) (turns_in c.in_ok-all-2.all) (pass_view n.registrar.pass))
          (λ o n. MadeMoreRuns gives origin system.throughput (pass_view o.registrar.pass) (turns_in c.args.turns) (turns_in c.in_ok-all-2.all) (pass_view n.registrar.pass))
          (λ x y z before more. more-then gives origin system.throughput (pass_view x.registrar.pass) (pass_view y.registrar.pass) (pass_view z.registrar.pass)
          (turns_in c.args.turns) (turns_in c.loop.all) (turns_in c.in_ok-all-2.all) before more) first handles other new
          (subst (FirstAlone _ first) (sym same.0) at.2) did.runs,
      did.kept ∙ at.3,
      same.2 ∙ at.4,
      with_items_is c.loop.no_jobs c.is_settled.new.jobs (c.is_settled.auto.jobs ∙ c.deref_mut.ensures.len) ∙ same.1 ∙ c.deref_mut.ensures.value ∙ at.5,
    )
