-- What the first handle of a run owes.
use Rattle.std.proofs.Common.{◌≡◌, ◌<◌, ℕ, false, List, [], ◌∷◌, set}
use Rattle.std.specs.Global.{Box}
use Rattle.std.specs.List.{AllZip}
use Rattle.std.proofs.lemmas.List.Elements.{All-head}
use Rattle.mb_gate.specs.Accessors.{actors_of}
use Rattle.mb_gate.specs.declared.gates.Gates.{Gates}
use Rattle.mb_home.specs.Contents.{Contents}
use Rattle.mb_register.specs.ActorSet.{has_actor}
use Rattle.mb_system.specs.Obligations.{FirstDischargedOrOwed, FirstHasNoObligation, AreDischargedOrOwed, KeepsObligations}
use Rattle.mb_system.specs.Members.{OweNobody, handle_caller}
use Rattle.mb_system.specs.declared.handle.WorkerHandle.{WorkerHandle}
use Rattle.mb_system.proofs.Obligations.{owes-nothing, discharged-still}

module _ {A K : Type 0} (gates : Gates (Box Contents)) where
  -- it looked after all actors
  pub first-discharged : (handles : List (WorkerHandle A K)) (handle : WorkerHandle A K) → AreDischargedOrOwed (actors_of gates) (handle_caller handle.registrar)
      → FirstDischargedOrOwed gates (set handles 0 handle)
  first-discharged [] handle discharged = tt
  first-discharged (x ∷ handles) handle discharged = discharged

  -- and then it forgot nothing that it owed, and owes nobody a look
  pub first-settled : (R : WorkerHandle A K → WorkerHandle A K → Type 0)
      → ((x y : WorkerHandle A K) → R x y → KeepsObligations (actors_of gates) (handle_caller x.registrar) (handle_caller y.registrar)) → (old new : List (WorkerHandle A K))
      → FirstDischargedOrOwed gates old → AllZip R old new → OweNobody gates new → FirstHasNoObligation gates new
  first-settled R keeps old [] first each discharged = tt
  first-settled R keeps [] (y ∷ new) first each discharged = absurd each
  first-settled R keeps (x ∷ old) (y ∷ new) first each discharged =
      let actors = actors_of gates in
      owes-nothing actors (handle_caller y.registrar) (discharged-still actors (handle_caller x.registrar) (handle_caller y.registrar) first (keeps x y each.0))
      (All-head (λ (e : WorkerHandle A K). (id : ℕ) → id < actors → has_actor e.registrar.owed id ≡ false) y new discharged)
