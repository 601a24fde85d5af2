use Rattle.std.proofs.Common.{◌≡◌, ◌∙◌, ◌++◌, [], ap, map, sym, subst}
use Rattle.std.proofs.lemmas.List.{append-nil}
use Rattle.std.proofs.lemmas.Result.{on_ok_weaker}
use Rattle.mb_gate.specs.Accessors.{actors_of}
use Rattle.mb_system.specs.Members.{OutsideSender, handle_caller, sender_caller}
use Rattle.mb_system.specs.Obligations.{AreDischargedOrOwed, HasNoObligationTo}
use Rattle.mb_system.proofs.Obligations.{obligations-then}
use Rattle.mb_system.proofs.Saw.{saw-then}
use Rattle.mb_dispatch.specs.AtRest.{IsAtRest}
use Rattle.mb_dispatch.specs.Jobs.{AreDone, KeepJobs}
use Rattle.mb_dispatch.proofs.Claims.{claims-then}
use Rattle.mb_dispatch.proofs.Continuing.{done-after, first-still, ours-after, ran-of, ran-then, run-breaks, worked-then}
use Rattle.mb_dispatch.proofs.Discharged.{all-by, all-done-of, both-ok, none-owed}
use Rattle.mb_dispatch.proofs.Sides.{on_ok, same_after, zip_then}
use Rattle.mb_dispatch.proofs.running.run.Goals as goal

pub settle-requires-clause-handles : goal.settle-requires-clause-handles
settle-requires-clause-handles g c = c.run_once.ensures.keeps_handles.handles.0

pub settle-requires-clause-jobs : goal.settle-requires-clause-jobs
settle-requires-clause-jobs g c = c.run_once.ensures.keeps_jobs.jobs.0

pub settle-requires-clause-worked : goal.settle-requires-clause-worked
settle-requires-clause-worked g c =
    (c.in_ok-run_once.ensures.worked.discharged, c.in_ok-run_once.ensures.worked.empty)

pub returns-clause-keeps_handles : goal.returns-clause-keeps_handles
returns-clause-keeps_handles g c = record {
  handles =
      let each = c.settle.ensures.ended.keeps in
      (ours-after g.K.Behaviours.gives c.args.system.now _ _ each, same_after _ _ (λ o n k. k.number) _ _ each ∙ c.run_once.ensures.keeps_handles.handles.1);
  log_kept =
      zip_then _ _ _ (λ x y z saw kept. saw-then _ _ _ saw kept.log_kept) _ _ _ c.run_once.ensures.keeps_handles.log_kept c.settle.ensures.ended.keeps;
  obligations =
      let actors = actors_of c.args.system.now.gates in
      zip_then _ _ _ (λ x y z p kept. obligations-then actors (handle_caller x.registrar) (handle_caller y.registrar) (handle_caller z.registrar) p kept.obligations) _ _ _
      c.run_once.ensures.keeps_handles.obligations c.settle.ensures.ended.keeps;
  claims =
      zip_then _ _ _ (λ x y z ran kept. claims-then [] x y z ran kept.claims) _ _ _ c.run_once.ensures.keeps_handles.claims c.settle.ensures.ended.keeps;
  runs =
      zip_then _ _ _ (λ x y z ran kept. ran-then g.K.Behaviours.gives c.args.system.now x y z ran kept.runs) _ _ _
      c.in_ok-run_once.ensures.worked.ran c.settle.ensures.ended.keeps;
}

pub returns-clause-keeps_jobs : goal.returns-clause-keeps_jobs
returns-clause-keeps_jobs g c =
    subst (λ l. KeepJobs c.args.system.now.gates c.args.jobs.now l) (sym c.settle.ensures.others.0) c.run_once.ensures.keeps_jobs

pub returns-clause-done : goal.returns-clause-done
returns-clause-done g c =
    on_ok c.settle.result
    (subst (λ l. AreDone c.args.system.now.gates c.args.jobs.now l) (sym c.settle.ensures.others.0)
    c.in_ok-run_once.ensures.done)

pub returns-clause-fault : goal.returns-clause-fault
returns-clause-fault g c =
    run-breaks g.K.Behaviours.gives c.args.system.now _ _ _ c.in_ok-run_once.ensures.worked.ran _ _ c.settle.result
    c.settle.ensures.ended

pub returns-clause-worked : goal.returns-clause-worked
returns-clause-worked g c =
    let gives = g.K.Behaviours.gives in let system = c.args.system.now in let before = c.in_ok-run_once.ensures.worked in
    let ended = c.settle.ensures.ended in
    on_ok_weaker c.settle.result
    (λ worked. (
    let done = done-after gives system _ _ worked in record {
      discharged = done.0;
      settled = first-still gives system _ _ before.settled ended.keeps done.0;
      empty = done.1;
      ran = ran-of gives system _ _ (worked-then gives system _ _ _ before.ran worked);
    }
    ))
    ended.done

pub returns-clause-at_rest : goal.returns-clause-at_rest
returns-clause-at_rest g c =
    let gives = g.K.Behaviours.gives in let system = c.args.system.now in
    let actors = actors_of system.gates in
    let ended = c.settle.ensures.ended in
    let kept = zip_then _ _ _ (λ x y z p kept. obligations-then actors (handle_caller x.registrar) (handle_caller y.registrar) (handle_caller z.registrar) p kept.obligations)
    _ _ _ c.run_once.ensures.keeps_handles.obligations ended.keeps in
    let jobs_done = subst (λ l. AreDone system.gates c.args.jobs.now l) (sym c.settle.ensures.others.0) c.in_ok-run_once.ensures.done in
    let none : c.settle.new.senders ≡ [] = c.settle.ensures.others.1 ∙ c.deref_mut.ensures.value ∙ c.new-no_senders.ensures.items in
    both-ok c.settle.result
    (λ worked rests. record {
      no_claim =
          subst (IsAtRest system c.settle.new.handles)
          (ap (λ l. map (λ job. job.sender) c.settle.new.jobs ++ l) none ∙ append-nil (map (λ job. job.sender) c.settle.new.jobs)) rests;
      no_obligation = λ before. (
        all-by _ _ _ _ (λ x y p owed none. none-owed actors (handle_caller x.registrar) (handle_caller y.registrar) p owed none) _ _ kept before.0
            (done-after gives system _ _ worked).0,
        all-done-of (λ job. job.sender) _ (λ (s : OutsideSender). AreDischargedOrOwed actors (sender_caller s.registrar))
            (λ (s : OutsideSender). HasNoObligationTo actors (sender_caller s.registrar))
            (λ x y done owed. none-owed actors (sender_caller x.sender.registrar) (sender_caller y.sender.registrar) done.obligations owed done.nobody) _ _ jobs_done
            before.1,
      );
    })
    ended.done c.settle.ensures.at_rest
