-- What the first of some workers' handles does alone (this project's own profile: Akka's dispatchers have threads).
use Rattle.std.specs.Prelude.{◌≡◌, List, [], ◌∷◌}
use Rattle.mb_gate.specs.Accessors.{actors_of}
use Rattle.mb_system.specs.Members.{IsSameHandle, handle_caller}
use Rattle.mb_system.specs.Obligations.{AreDischargedOrOwed}
use Rattle.mb_system.specs.declared.handle.WorkerHandle.{WorkerHandle}
use Rattle.mb_system.specs.declared.system.System.{System}
use Rattle.mb_dispatch.specs.Claims.{RunsEachClaim}

-- This holds of the first of these handles, as it was and as it is. The others did nothing.
abbrev pub FirstAlone : {A K : Type 0} → (WorkerHandle A K → WorkerHandle A K → Type 0) → List (WorkerHandle A K) → List (WorkerHandle A K) → Type 0
FirstAlone holds [] new = ⊥
FirstAlone holds (before ∷ others) [] = ⊥
FirstAlone holds (before ∷ others) (after ∷ same) = holds before after × (same ≡ others)

module _ {A K : Type 0} (system : System A K) where
  -- What a quiet run keeps of its handle, whatever it answers: it is of the system, and the same as before. It owes each actor nothing, or has it in its
  -- set of owed looks. No claim was lost, and it has run each that it took.
  pub record KeepsAlone (old new : WorkerHandle A K) : Type 0 where
    pub same_handle : IsSameHandle system.gates old new
    pub obligations : AreDischargedOrOwed (actors_of system.gates) (handle_caller new.registrar)
    pub claims : RunsEachClaim old new
