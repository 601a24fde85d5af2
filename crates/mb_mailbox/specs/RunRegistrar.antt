-- The registrar of a run in progress (this project's own profile: in Akka each message that is sent registers its receiver at once).
use Rattle.std.specs.Prelude.{◌≡◌, ◌<◌, ◌≤◌, ◌⊎◌, ℕ, true, Option, Some}
use Rattle.mb_gate.specs.declared.gates.Gates.{Gates}
use Rattle.mb_gate.specs.Accessors.{gates_id, pass_id, actors_of}
use Rattle.mb_gate.specs.Rule.{IsPart}
use Rattle.mb_gate.specs.Untouched.{Origin, origin_of}
use Rattle.mb_gate.specs.View.{obligation_to}
use Rattle.mb_register.specs.Caller.{Caller, IsDischargedOrOwed, IsTold, OwesForRefusals}
use Rattle.mb_register.specs.ActorSet.{has_actor}
use Rattle.mb_register.specs.declared.registrar.Registrar.{Registrar}

module _ {H W : Type 0} where
  -- The registrar's pass and its port of the run queue are of these gates, which have no more actors than the set of those that are owed a look can
  -- hold. All whom the run told something are actors of these gates.
  abbrev pub IsRunRegistrarOf : (W → Option (Origin H)) → Gates H → Registrar H W → Type 0
  IsRunRegistrarOf origin gates registrar =
      (pass_id registrar.pass ≡ gates_id gates) × (origin registrar.run_queue ≡ Some (origin_of gates)) × (actors_of gates ≤ 64)
      × ((id : ℕ) → id < 64 → has_actor registrar.told.set id ≡ true → id < actors_of gates)

module _ {H : Type 0} where
  -- It still knows all that it knew, and kept its share. To each actor it owes nothing, or the actor is in its set, or it owes what it did before, or it
  -- is to register the actor still.
  pub record LeavesTelling (old new : Caller H) : Type 0 where
    pub log : IsPart old.view.log new.view.log
    pub account : OwesForRefusals old.account new.account
    pub obligations : (id : ℕ) → IsDischargedOrOwed id new ⊎ (obligation_to id new.view ≡ obligation_to id old.view) ⊎ IsTold id new
    pub share : new.view.share ≡ old.view.share
