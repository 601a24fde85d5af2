use Rattle.std.proofs.Common.{◌∙◌, []}
use Rattle.std.proofs.lemmas.Result.{on_ok_weaker}
use Rattle.mb_gate.specs.Accessors.{actors_of}
use Rattle.mb_source.proofs.Crossing.{recorded_send}
use Rattle.mb_system.specs.Members.{handle_caller}
use Rattle.mb_system.proofs.Crossing.{handle_send, passed_send, passed_sync, sender_send, system_sync}
use Rattle.mb_system.proofs.Obligations.{obligations-then}
use Rattle.mb_system.proofs.Saw.{saw-then}
use Rattle.mb_dispatch.specs.Sources.{BreaksPair, IsPairDone}
use Rattle.mb_dispatch.proofs.Breaking.{breaks-beside, runs-or-broke-then}
use Rattle.mb_dispatch.proofs.Claims.{claims-then}
use Rattle.mb_dispatch.proofs.FromSource.{all-ready}
use Rattle.mb_dispatch.proofs.Sides.{all_after, ok_first, ok_rest, same_after, zip_then}
use Rattle.mb_dispatch.proofs.Worked.{have-worked}
use Rattle.mb_dispatch.proofs.running_from.run_from_once.Goals as goal

pub pairs_in_parallel-of_senders-requires-sync-S : goal.pairs_in_parallel-of_senders-requires-sync-S
pairs_in_parallel-of_senders-requires-sync-S g c κs within =
    passed_sync 1 _ _ (system_sync _ _ g.A.Actor g.K.Behaviours c.type_bounds.send-A c.type_bounds.send-K)

pub pairs_in_parallel-of_senders-requires-send-V : goal.pairs_in_parallel-of_senders-requires-send-V
pairs_in_parallel-of_senders-requires-send-V g c κs within = passed_send 2 _ _ (recorded_send _ g.S.Source c.type_bounds.send-S)

pub pairs_in_parallel-of_senders-requires-send-T : goal.pairs_in_parallel-of_senders-requires-send-T
pairs_in_parallel-of_senders-requires-send-T g c κs within =
    passed_send 3 _ _ (sender_send _ _ g.A.Actor g.K.Behaviours c.type_bounds.send-A c.type_bounds.send-K)

pub pairs_in_parallel-of_senders-requires-send-U : goal.pairs_in_parallel-of_senders-requires-send-U
pairs_in_parallel-of_senders-requires-send-U g c κs within =
    passed_send 4 _ _ (handle_send _ _ g.A.Actor g.K.Behaviours c.type_bounds.send-A c.type_bounds.send-K)

pub pairs_in_parallel-of_senders-requires-clause-these_ready : goal.pairs_in_parallel-of_senders-requires-clause-these_ready
pairs_in_parallel-of_senders-requires-clause-these_ready g c κs within =
    record { same_count = c.requires.same_count; ready = all-ready _ _ _ c.requires.same_gates }

pub pairs_in_parallel-of_senders-requires-clause-those_ready : goal.pairs_in_parallel-of_senders-requires-clause-those_ready
pairs_in_parallel-of_senders-requires-clause-those_ready g c κs within = c.register_by_first.ensures.handles.0

pub register_by_first-requires : goal.register_by_first-requires
register_by_first-requires g c = c.requires.handles

pub returns-clause-keeps_handles : goal.returns-clause-keeps_handles
returns-clause-keeps_handles g c = record {
  handles =
      let each = c.pairs_in_parallel-of_senders.ensures.those.keeps in (
        all_after _ _ (λ old new kept. kept.of_system) _ _ each,
        same_after _ _ (λ old new kept. kept.number) _ _ each ∙ c.register_by_first.ensures.handles.1,
      );
  log_kept =
      zip_then _ _ _ (λ x y z saw kept. saw-then _ _ _ saw kept.log_kept) _ _ _ c.register_by_first.ensures.log_kept
      c.pairs_in_parallel-of_senders.ensures.those.keeps;
  obligations =
      let actors = actors_of c.args.system.now.gates in
      zip_then _ _ _ (λ x y z p kept. obligations-then actors (handle_caller x.registrar) (handle_caller y.registrar) (handle_caller z.registrar) p kept.obligations) _ _ _
      c.register_by_first.ensures.obligations c.pairs_in_parallel-of_senders.ensures.those.keeps;
  claims =
      zip_then _ _ _ (λ x y z ran kept. claims-then [] x y z ran kept.claims) _ _ _ c.register_by_first.ensures.claims
      c.pairs_in_parallel-of_senders.ensures.those.keeps;
  runs =
      zip_then _ _ _ (λ x y z looks kept. runs-or-broke-then g.K.Behaviours.gives c.args.system.now x y z looks kept.runs) _ _ _
      c.register_by_first.ensures.looks c.pairs_in_parallel-of_senders.ensures.those.keeps;
}

pub returns-clause-worked : goal.returns-clause-worked
returns-clause-worked g c =
    let gives = g.K.Behaviours.gives in let system = c.args.system.now in let of = c.pairs_in_parallel-of_senders.result in
    let did = c.pairs_in_parallel-of_senders.ensures in let started = c.register_by_first.ensures in
    ok_first _ of.1 of.0 c.first_error.result c.first_error.ensures
    (on_ok_weaker of.1
    (λ worked. have-worked gives system _ _ _ started.looks started.discharged did.those.keeps worked)
    did.those.done)

pub returns-clause-keeps : goal.returns-clause-keeps
returns-clause-keeps g c = c.pairs_in_parallel-of_senders.ensures.these.keeps

pub returns-clause-done : goal.returns-clause-done
returns-clause-done g c =
    let of = c.pairs_in_parallel-of_senders.result in
    ok_rest _ of.1 of.0 c.first_error.result c.first_error.ensures c.pairs_in_parallel-of_senders.ensures.these.done

pub returns-clause-fault : goal.returns-clause-fault
returns-clause-fault g c =
    let of = c.pairs_in_parallel-of_senders.result in let did = c.pairs_in_parallel-of_senders.ensures in let gates = c.args.system.now.gates in
    breaks-beside g.K.Behaviours.gives c.args.system.now (IsPairDone gates g.S.Source.gives g.S.Source.takes_back) (λ error o n. BreaksPair gates o n error)
    _ _ _ _ _ of.1 of.0 c.first_error.result c.register_by_first.ensures.looks c.first_error.ensures did.those.done did.those.fails did.these.fails
