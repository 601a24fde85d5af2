-- What the work of a worker's handle keeps and comes to (this project's own profile).
use Rattle.std.specs.Prelude.{◌≡◌, ℕ, List}
use Rattle.std.specs.List.{AllZip}
use Rattle.mb_actor.specs.Behaviour.{Moment, Reply}
use Rattle.mb_gate.specs.Accessors.{actors_of, pass_view}
use Rattle.mb_gate.specs.Rule.{IsPart}
use Rattle.mb_gate.specs.Untouched.{origin_of}
use Rattle.mb_register.specs.ActorSet.{IsNobody}
use Rattle.mb_system.specs.Members.{AreHandlesOf, IsHandleOf, OweNobody, StillSee, handle_caller, handle_numbers}
use Rattle.mb_system.specs.Obligations.{FirstHasNoObligation, HasNoObligationTo, KeepAllObligations, KeepsObligations}
use Rattle.mb_system.specs.declared.handle.WorkerHandle.{WorkerHandle}
use Rattle.mb_system.specs.declared.system.System.{System}
use Rattle.mb_dispatch.specs.Claims.{RunEachClaim, RunsEachClaim}
use Rattle.mb_dispatch.specs.Faults.{RunsOrBreaks}
use Rattle.mb_dispatch.specs.Found.{AllFoundPoolEmpty, FoundPoolEmpty}
use Rattle.mb_dispatch.specs.Runs.{OnlyRuns}

module _ {A K : Type 0} (gives : ℕ → Moment → Reply → Type 0) (system : System A K) where
  -- The handle is of the system, and the same as before. It forgot nothing that it saw or owed, and only made runs. No claim was lost.
  pub record KeepsHandle (old new : WorkerHandle A K) : Type 0 where
    pub of_system : IsHandleOf system.gates new.registrar
    pub number : new.number ≡ old.number
    pub log_kept : IsPart (pass_view old.registrar.pass).log (pass_view new.registrar.pass).log
    pub obligations : KeepsObligations (actors_of system.gates) (handle_caller old.registrar) (handle_caller new.registrar)
    pub runs : RunsOrBreaks gives system (pass_view old.registrar.pass) new
    pub claims : RunsEachClaim old new

  -- The handle is done with a quiet run: no actor is in its set, it owes no actor anything, and it found the pool empty last.
  pub record HasSettled (handle : WorkerHandle A K) : Type 0 where
    pub discharged : IsNobody handle.registrar.owed
    pub settled : HasNoObligationTo (actors_of system.gates) (handle_caller handle.registrar)
    pub empty : FoundPoolEmpty gives handle

  -- What a run keeps of its handles, whatever it answers: they are of the system, with the same numbers. None of them forgot anything that it saw or owed,
  -- and each only made runs. No claim was lost.
  pub record KeepHandles (old new : List (WorkerHandle A K)) : Type 0 where
    pub handles : AreHandlesOf system.gates new × (handle_numbers new ≡ handle_numbers old)
    pub log_kept : StillSee old new
    pub obligations : KeepAllObligations system.gates old new
    pub claims : RunEachClaim old new
    pub runs : AllZip (λ o n. RunsOrBreaks gives system (pass_view o.registrar.pass) n) old new

  -- The handles of a run have worked to its end: none owes anybody a look, and the first owes no actor anything. Each found the pool empty last, and only made
  -- runs.
  pub record AllHaveWorked (old new : List (WorkerHandle A K)) : Type 0 where
    pub discharged : OweNobody system.gates new
    pub settled : FirstHasNoObligation system.gates new
    pub empty : AllFoundPoolEmpty gives new
    pub ran : AllZip (λ o n. OnlyRuns gives (origin_of system.gates) system.throughput (pass_view o.registrar.pass) (pass_view n.registrar.pass)) old new
