use Rattle.std.proofs.Common.{◌∙◌, []}
use Rattle.std.proofs.lemmas.Result.{on_ok_weaker}
use Rattle.mb_gate.specs.Accessors.{actors_of}
use Rattle.mb_system.specs.Members.{handle_caller}
use Rattle.mb_system.proofs.Crossing.{handle_send, passed_send, passed_sync, system_sync}
use Rattle.mb_system.proofs.Obligations.{obligations-then}
use Rattle.mb_system.proofs.Saw.{saw-then}
use Rattle.mb_dispatch.proofs.Breaking.{breaks-run, runs-or-broke-then}
use Rattle.mb_dispatch.proofs.Claims.{claims-then}
use Rattle.mb_dispatch.proofs.Crossing.{job_send}
use Rattle.mb_dispatch.proofs.Sides.{all_after, as_many_after, ok_first, ok_rest, same_after, zip_then, zip_weaker}
use Rattle.mb_dispatch.proofs.Worked.{have-worked}
use Rattle.mb_dispatch.proofs.running.run_once.Goals as goal

pub both_in_parallel-of_jobs-requires-sync-S : goal.both_in_parallel-of_jobs-requires-sync-S
both_in_parallel-of_jobs-requires-sync-S g c κs within =
    passed_sync 1 _ _ (system_sync _ _ g.A.Actor g.K.Behaviours c.type_bounds.send-A c.type_bounds.send-K)

pub both_in_parallel-of_jobs-requires-send-T : goal.both_in_parallel-of_jobs-requires-send-T
both_in_parallel-of_jobs-requires-send-T g c κs within =
    passed_send 2 _ _ (job_send _ _ g.A.Actor g.K.Behaviours c.type_bounds.send-A c.type_bounds.send-K)

pub both_in_parallel-of_jobs-requires-send-U : goal.both_in_parallel-of_jobs-requires-send-U
both_in_parallel-of_jobs-requires-send-U g c κs within =
    passed_send 3 _ _ (handle_send _ _ g.A.Actor g.K.Behaviours c.type_bounds.send-A c.type_bounds.send-K)

pub returns-clause-keeps_handles : goal.returns-clause-keeps_handles
returns-clause-keeps_handles g c = record {
  handles =
      let each = c.both_in_parallel-of_jobs.ensures.those.keeps in (
        all_after _ _ (λ old new kept. kept.of_system) _ _ each,
        same_after _ _ (λ old new kept. kept.number) _ _ each ∙ c.register_by_first.ensures.handles.1,
      );
  log_kept =
      zip_then _ _ _ (λ x y z saw kept. saw-then _ _ _ saw kept.log_kept) _ _ _ c.register_by_first.ensures.log_kept c.both_in_parallel-of_jobs.ensures.those.keeps;
  obligations =
      let actors = actors_of c.args.system.now.gates in
      zip_then _ _ _ (λ x y z p kept. obligations-then actors (handle_caller x.registrar) (handle_caller y.registrar) (handle_caller z.registrar) p kept.obligations) _ _ _
      c.register_by_first.ensures.obligations c.both_in_parallel-of_jobs.ensures.those.keeps;
  claims =
      zip_then _ _ _ (λ x y z ran kept. claims-then [] x y z ran kept.claims) _ _ _ c.register_by_first.ensures.claims c.both_in_parallel-of_jobs.ensures.those.keeps;
  runs =
      zip_then _ _ _ (λ x y z looks kept. runs-or-broke-then g.K.Behaviours.gives c.args.system.now x y z looks kept.runs) _ _ _ c.register_by_first.ensures.looks
      c.both_in_parallel-of_jobs.ensures.those.keeps;
}

pub returns-clause-keeps_jobs : goal.returns-clause-keeps_jobs
returns-clause-keeps_jobs g c = record {
  jobs =
      let each = c.both_in_parallel-of_jobs.ensures.these.keeps in (all_after _ _ (λ old new kept. kept.same_gates) _ _ each, as_many_after _ _ _ each);
  same_sender = same_after _ _ (λ old new kept. kept.same_sender) _ _ c.both_in_parallel-of_jobs.ensures.these.keeps;
  sent = zip_weaker _ _ (λ old new kept. kept.sent) _ _ c.both_in_parallel-of_jobs.ensures.these.keeps;
  still = zip_weaker _ _ (λ old new kept. kept.still) _ _ c.both_in_parallel-of_jobs.ensures.these.keeps;
  sends = same_after _ _ (λ old new kept. kept.sends) _ _ c.both_in_parallel-of_jobs.ensures.these.keeps;
  claims_of_jobs = zip_weaker _ _ (λ old new kept. kept.claims) _ _ c.both_in_parallel-of_jobs.ensures.these.keeps;
}

pub returns-clause-done : goal.returns-clause-done
returns-clause-done g c =
    let of = c.both_in_parallel-of_jobs.result in
    ok_rest _ of.1 of.0 c.first_error.result c.first_error.ensures c.both_in_parallel-of_jobs.ensures.these.done

pub returns-clause-fault : goal.returns-clause-fault
returns-clause-fault g c =
    let of = c.both_in_parallel-of_jobs.result in let did = c.both_in_parallel-of_jobs.ensures in
    breaks-run g.K.Behaviours.gives c.args.system.now _ _ _ _ _ of.1 of.0 c.first_error.result c.register_by_first.ensures.looks c.first_error.ensures
    did.those.done did.those.fails did.these.fails

pub register_by_first-requires : goal.register_by_first-requires
register_by_first-requires g c = c.requires.handles

pub both_in_parallel-of_jobs-requires-clause-these_ready : goal.both_in_parallel-of_jobs-requires-clause-these_ready
both_in_parallel-of_jobs-requires-clause-these_ready g c κs within = c.requires.jobs

pub both_in_parallel-of_jobs-requires-clause-those_ready : goal.both_in_parallel-of_jobs-requires-clause-those_ready
both_in_parallel-of_jobs-requires-clause-those_ready g c κs within = c.register_by_first.ensures.handles.0

pub returns-clause-worked : goal.returns-clause-worked
returns-clause-worked g c =
    let gives = g.K.Behaviours.gives in let system = c.args.system.now in let of = c.both_in_parallel-of_jobs.result in
    let did = c.both_in_parallel-of_jobs.ensures in let started = c.register_by_first.ensures in
    ok_first _ of.1 of.0 c.first_error.result c.first_error.ensures
    (on_ok_weaker of.1
    (λ worked. have-worked gives system _ _ _ started.looks started.discharged did.those.keeps worked)
    did.those.done)
