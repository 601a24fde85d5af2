-- That the handles of a run have worked to its end.
use Rattle.std.proofs.Common.{◌≡◌, ◌<◌, false, ℕ, List}
use Rattle.std.specs.List.{AllZip}
use Rattle.mb_actor.specs.Behaviour.{Moment, Reply}
use Rattle.mb_gate.specs.Accessors.{actors_of, pass_view}
use Rattle.mb_register.specs.ActorSet.{has_actor}
use Rattle.mb_system.specs.Members.{OweNobody}
use Rattle.mb_system.specs.Obligations.{FirstDischargedOrOwed}
use Rattle.mb_system.specs.OnlyLooks.{OnlyLooks}
use Rattle.mb_system.specs.declared.handle.WorkerHandle.{WorkerHandle}
use Rattle.mb_system.specs.declared.system.System.{System}
use Rattle.mb_dispatch.specs.Faults.{HasWorked, OnlyRunsBySystem}
use Rattle.mb_dispatch.specs.Found.{FoundPoolEmpty}
use Rattle.mb_dispatch.specs.Working.{AllHaveWorked, KeepsHandle}
use Rattle.mb_dispatch.proofs.Breaking.{worked-then}
use Rattle.mb_dispatch.proofs.Firsts.{first-settled}
use Rattle.mb_dispatch.proofs.Sides.{all_after, zip_then}

module _ {A K : Type 0} (gives : ℕ → Moment → Reply → Type 0) (system : System A K) where
  abbrev Worked : WorkerHandle A K → WorkerHandle A K → Type 0
  Worked x y = HasWorked gives system (pass_view x.registrar.pass) y

  abbrev Looked : WorkerHandle A K → WorkerHandle A K → Type 0
  Looked x y = OnlyLooks (pass_view x.registrar.pass) (pass_view y.registrar.pass)

  abbrev Ran : WorkerHandle A K → WorkerHandle A K → Type 0
  Ran x y = OnlyRunsBySystem gives system (pass_view x.registrar.pass) (pass_view y.registrar.pass)

  abbrev Nobody : WorkerHandle A K → Type 0
  Nobody x = (id : ℕ) → id < actors_of system.gates → has_actor x.registrar.owed id ≡ false

  -- the first registered all actors, and then each worked
  pub have-worked : (old started new : List (WorkerHandle A K)) → AllZip Looked old started → FirstDischargedOrOwed system.gates started
      → AllZip (KeepsHandle gives system) started new → AllZip Worked started new → AllHaveWorked gives system old new
  have-worked old started new looks first kept worked =
      let nobody : OweNobody system.gates new = all_after Worked Nobody (λ x y w. w.0) started new worked in record {
        discharged = nobody;
        settled = first-settled system.gates (KeepsHandle gives system) (λ x y k. k.obligations) started new first kept nobody;
        empty = all_after Worked (FoundPoolEmpty gives) (λ x y w. w.1) started new worked;
        ran = zip_then Looked Worked Ran (λ x y z l w. (worked-then gives system x y z l w).2) old started new looks worked;
      }
