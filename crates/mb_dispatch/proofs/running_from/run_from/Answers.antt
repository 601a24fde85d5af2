use Rattle.std.proofs.Common.{All, ◌≡◌, ◌∙◌, ◌++◌, [], ap, inl, map, subst, sym}
use Rattle.std.proofs.lemmas.Result.{on_ok_weaker}
use Rattle.std.specs.List.{AllZip}
use Rattle.mb_gate.specs.Accessors.{actors_of}
use Rattle.mb_system.specs.Members.{IsSenderOf, OutsideSender, handle_caller, sender_caller}
use Rattle.mb_system.specs.Obligations.{AreDischargedOrOwed, HasNoObligationTo, KeepsObligations, OwesNobody}
use Rattle.mb_system.proofs.Obligations.{obligations-then}
use Rattle.mb_system.proofs.Saw.{saw-then}
use Rattle.mb_dispatch.specs.AtRest.{IsAtRest}
use Rattle.mb_dispatch.specs.Paired.{pairs}
use Rattle.mb_dispatch.specs.Sources.{IsPairDone, KeepsPair}
use Rattle.mb_dispatch.proofs.Claims.{claims-then}
use Rattle.mb_dispatch.proofs.Continuing.{done-after, err-weaker, first-still, ours-after, ran-of, ran-then, run-fails, worked-then}
use Rattle.mb_dispatch.proofs.Discharged.{all-by, all-done, both-ok, none-owed}
use Rattle.mb_dispatch.proofs.Pairs.{of-firsts, zip-firsts}
use Rattle.mb_dispatch.proofs.Sides.{on_ok, same_after, zip_then}
use Rattle.mb_dispatch.proofs.running_from.run_from.Goals as goal

pub settle-requires-clause-handles : goal.settle-requires-clause-handles
settle-requires-clause-handles g c = c.run_from_once.ensures.keeps_handles.handles.0

pub settle-requires-clause-senders : goal.settle-requires-clause-senders
settle-requires-clause-senders g c =
    of-firsts _ (λ (s : OutsideSender). IsSenderOf c.args.system.now.gates s) (λ a b kept. kept.same_gates) _ _ _ _ c.requires.same_count
    c.run_from_once.auto.senders c.run_from_once.ensures.keeps

pub settle-requires-clause-worked : goal.settle-requires-clause-worked
settle-requires-clause-worked g c = (c.in_ok-run_from_once.ensures.worked.discharged, c.in_ok-run_from_once.ensures.worked.empty)

pub returns-clause-keeps_handles : goal.returns-clause-keeps_handles
returns-clause-keeps_handles g c = record {
  handles =
      let each = c.settle.ensures.ended.keeps in
      (ours-after g.K.Behaviours.gives c.args.system.now _ _ each, same_after _ _ (λ o n k. k.number) _ _ each ∙ c.run_from_once.ensures.keeps_handles.handles.1);
  log_kept =
      zip_then _ _ _ (λ x y z saw kept. saw-then _ _ _ saw kept.log_kept) _ _ _ c.run_from_once.ensures.keeps_handles.log_kept c.settle.ensures.ended.keeps;
  obligations =
      let actors = actors_of c.args.system.now.gates in
      zip_then _ _ _ (λ x y z p kept. obligations-then actors (handle_caller x.registrar) (handle_caller y.registrar) (handle_caller z.registrar) p kept.obligations) _ _ _
      c.run_from_once.ensures.keeps_handles.obligations c.settle.ensures.ended.keeps;
  claims =
      zip_then _ _ _ (λ x y z ran kept. claims-then [] x y z ran kept.claims) _ _ _ c.run_from_once.ensures.keeps_handles.claims c.settle.ensures.ended.keeps;
  runs =
      zip_then _ _ _ (λ x y z ran kept. ran-then g.K.Behaviours.gives c.args.system.now x y z ran kept.runs) _ _ _
      c.in_ok-run_from_once.ensures.worked.ran c.settle.ensures.ended.keeps;
}

pub returns-clause-keeps : goal.returns-clause-keeps
returns-clause-keeps g c =
    subst (λ l. AllZip (KeepsPair c.args.system.now.gates g.S.Source.gives g.S.Source.takes_back) (pairs c.args.senders.now c.args.sources.now)
    (pairs l c.run_from_once.new.sources)) (sym c.settle.ensures.others.1) c.run_from_once.ensures.keeps

pub returns-clause-done : goal.returns-clause-done
returns-clause-done g c =
    on_ok c.settle.result
    (subst (λ l. AllZip (IsPairDone c.args.system.now.gates g.S.Source.gives g.S.Source.takes_back) (pairs c.args.senders.now c.args.sources.now)
    (pairs l c.run_from_once.new.sources)) (sym c.settle.ensures.others.1) c.in_ok-run_from_once.ensures.done)

pub returns-clause-fault : goal.returns-clause-fault
returns-clause-fault g c =
    err-weaker _ _ c.settle.result (λ error failed. inl failed)
    (run-fails g.K.Behaviours.gives c.args.system.now _ _ _ c.in_ok-run_from_once.ensures.worked.ran c.settle.result c.settle.ensures.ended)

pub returns-clause-worked : goal.returns-clause-worked
returns-clause-worked g c =
    let gives = g.K.Behaviours.gives in let system = c.args.system.now in let before = c.in_ok-run_from_once.ensures.worked in
    let ended = c.settle.ensures.ended in
    on_ok_weaker c.settle.result
    (λ worked. (
    let done = done-after gives system _ _ worked in record {
      discharged = done.0;
      settled = first-still gives system _ _ before.settled ended.keeps done.0;
      empty = done.1;
      ran = ran-of gives system _ _ (worked-then gives system _ _ _ before.ran worked);
    }
    ))
    ended.done

pub returns-clause-at_rest : goal.returns-clause-at_rest
returns-clause-at_rest g c =
    let gives = g.K.Behaviours.gives in let system = c.args.system.now in let actors = actors_of system.gates in
    let ended = c.settle.ensures.ended in let once = c.run_from_once in
    let none : c.settle.new.jobs ≡ [] = c.settle.ensures.others.0 ∙ c.deref_mut.ensures.value ∙ c.new-no_jobs.ensures.items in
    let kept = zip_then _ _ _ (λ x y z p kept. obligations-then actors (handle_caller x.registrar) (handle_caller y.registrar) (handle_caller z.registrar) p kept.obligations)
    _ _ _ once.ensures.keeps_handles.obligations ended.keeps in
    let senders_done = zip-firsts _ (λ (x y : OutsideSender). OwesNobody system.gates y
    × KeepsObligations actors (sender_caller x.registrar) (sender_caller y.registrar)) (λ a b done. (done.nobody, done.obligations)) _ _ _ _
    c.requires.same_count once.auto.senders c.in_ok-run_from_once.ensures.done in
    both-ok c.settle.result
    (λ worked rests. record {
      no_claim =
          subst (IsAtRest system c.settle.new.handles) (ap (λ l. map (λ job. job.sender) l ++ c.settle.new.senders) none) rests;
      no_obligation = λ before. (
        all-by _ _ _ _ (λ x y p owed none. none-owed actors (handle_caller x.registrar) (handle_caller y.registrar) p owed none) _ _ kept before.0
            (done-after gives system _ _ worked).0,
        subst (λ l. All (λ (s : OutsideSender). HasNoObligationTo actors (sender_caller s.registrar)) l) (sym c.settle.ensures.others.1)
            (all-done _ (λ (s : OutsideSender). AreDischargedOrOwed actors (sender_caller s.registrar))
            (λ (s : OutsideSender). HasNoObligationTo actors (sender_caller s.registrar))
            (λ x y done owed. none-owed actors (sender_caller x.registrar) (sender_caller y.registrar) done.1 owed done.0) _ _ senders_done before.1),
      );
    })
    ended.done c.settle.ensures.at_rest
