use Rattle.std.proofs.Common.{◌⊎◌, ◌≤◌, List, Option, arith, inl, length, subst, sym}
use Rattle.mb_shutdown.specs.declared.unfinished.UnfinishedActor.{UnfinishedActor}
use Rattle.heddleorange.specs.Remains.{IsToldAs, LackOne, ShowFull}
use Rattle.heddleorange.proofs.Remains.{as-many, few-actors, shows-full}
use Rattle.heddleorange.proofs.broken_off.broken_off.Goals as goal

pub unfinished_actors-requires : goal.unfinished_actors-requires
unfinished_actors-requires g c = record { same_gates = c.requires.own_handles.0; not_empty = c.requires.own_handles.1 }

pub error_of-error-requires-clause-few : goal.error_of-error-requires-clause-few
error_of-error-requires-clause-few g c =
    let many = as-many g.K.Behaviours.gives c.args.built c.in-Ok.actors.items c.in-Ok.ensures in
    let few = few-actors c.args.built c.requires.own_handles in
    subst (λ (l : List (Option UnfinishedActor)). length l ≤ 64) (sym c.deref.ensures.value) (omega (arith, many, few))

pub error_of-error-requires-clause-full : goal.error_of-error-requires-clause-full
error_of-error-requires-clause-full g c = λ is.
    (subst (λ (l : List (Option UnfinishedActor)). ShowFull c.args.limit l ⊎ LackOne l) (sym c.deref.ensures.value)
    (shows-full g.K.Behaviours.gives c.args.built c.args.limit c.in-Ok.actors.items c.in-Ok.ensures (c.requires.full is)))

pub returns-in-Ok-clause-left : goal.returns-in-Ok-clause-left
returns-in-Ok-clause-left g c =
    inl (
      c.in-Ok.ensures,
      subst (λ (l : List (Option UnfinishedActor)). IsToldAs c.args.fault c.args.limit l c.error_of-error.result) c.deref.ensures.value
          c.error_of-error.ensures.told,
    )
