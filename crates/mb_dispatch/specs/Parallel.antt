-- What became of things that were done in parallel.
use Rattle.std.specs.Prelude.{◌⊎◌, List, ◌∷◌, IfErr, OnOk, Result}
use Rattle.std.specs.List.{AllZip}
use Rattle.mb_system.specs.declared.failure.RunError.{RunError}

-- `Fails` holds of the items of two lists at a place, and `Done` of those at each place before it.
abbrev pub FirstZip : {T : Type 0} → (T → T → Type 0) → (T → T → Type 0) → List T → List T → Type 0
FirstZip Done Fails (x ∷ xs) (y ∷ ys) = Fails x y ⊎ (Done x y × FirstZip Done Fails xs ys)
FirstZip Done Fails _ _ = ⊥

-- What became of a task with this answer: `Keeps` holds of it whatever the answer, `Done` if it was done, and `Fails` if it was broken off.
pub record HasEnded {T : Type 0} (Keeps Done : T → T → Type 0) (Fails : T → T → RunError → Type 0) (old new : T)
    (answer : Result (Unit {0}) RunError) : Type 0 where
  pub keeps : Keeps old new
  pub done : OnOk answer (Done old new)
  pub fails : IfErr answer (Fails old new)

-- What became of tasks with this answer, the first error of theirs.
pub record HaveEnded {T : Type 0} (Keeps Done : T → T → Type 0) (Fails : T → T → RunError → Type 0) (old new : List T)
    (answer : Result (Unit {0}) RunError) : Type 0 where
  pub keeps : AllZip Keeps old new
  pub done : OnOk answer (AllZip Done old new)
  pub fails : IfErr answer (λ fault. FirstZip Done (λ before after. Fails before after fault) old new)
