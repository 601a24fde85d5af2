-- What workers' handles and senders owe the actors of a system (this project's own profile).
use Rattle.std.specs.Prelude.{◌≡◌, ◌⊎◌, ℕ, ◌<◌, false, true, List, [], ◌∷◌}
use Rattle.std.specs.Global.{Box}
use Rattle.std.specs.List.{AllZip}
use Rattle.mb_core.specs.Actor.{nothing}
use Rattle.mb_gate.specs.Accessors.{actors_of}
use Rattle.mb_gate.specs.View.{obligation_to}
use Rattle.mb_gate.specs.declared.gates.Gates.{Gates}
use Rattle.mb_home.specs.Contents.{Contents}
use Rattle.mb_register.specs.Caller.{Caller, IsDischargedOrOwed}
use Rattle.mb_register.specs.ActorSet.{has_actor}
use Rattle.mb_register.specs.Registering.{LosesNoClaim}
use Rattle.mb_system.specs.Members.{OutsideSender, handle_caller}
use Rattle.mb_system.specs.declared.handle.WorkerHandle.{WorkerHandle}

module _ {H : Type 0} (actors : ℕ) where
  -- To each of so many actors it owes nothing, or the actor is in the set of those that it owes a look.
  abbrev pub AreDischargedOrOwed : Caller H → Type 0
  AreDischargedOrOwed caller = (id : ℕ) → id < actors → IsDischargedOrOwed id caller

  -- It owes none of so many actors anything.
  abbrev pub HasNoObligationTo : Caller H → Type 0
  HasNoObligationTo caller = (id : ℕ) → id < actors → obligation_to id caller.view ≡ nothing

  -- Nothing that was owed is forgotten: to each of so many actors it owes nothing, or the actor is in its set; or it owes what it did before, and the
  -- actor was not in its set.
  abbrev pub KeepsObligations : Caller H → Caller H → Type 0
  KeepsObligations old new = (id : ℕ) → id < actors
      → IsDischargedOrOwed id new ⊎ ((has_actor old.account.owed id ≡ false) × (obligation_to id new.view ≡ obligation_to id old.view))

  -- Nothing that was owed to one of so many actors is forgotten, and no claim is lost.
  pub record ForgetsNothing (old new : Caller H) : Type 0 where
    pub obligations : KeepsObligations old new
    pub handed : LosesNoClaim old.account new.account old.view new.view

  -- Each of so many actors to which a look was owed was registered again: it is owed nothing, and none of them is in the set.
  pub record HasRetried (old new : Caller H) : Type 0 where
    pub discharged : (id : ℕ) → id < actors → has_actor old.account.owed id ≡ true → obligation_to id new.view ≡ nothing
    pub done : (id : ℕ) → id < actors → has_actor new.account.owed id ≡ false

-- None of these handles forgot anything that it owed.
abbrev pub KeepAllObligations : {A K : Type 0} → Gates (Box Contents) → List (WorkerHandle A K) → List (WorkerHandle A K) → Type 0
KeepAllObligations {A} {K} gates =
    AllZip (λ (old new : WorkerHandle A K). KeepsObligations (actors_of gates) (handle_caller old.registrar) (handle_caller new.registrar))

-- To each actor the first of these handles owes nothing, or the actor is in the set of those that it owes a look.
abbrev pub FirstDischargedOrOwed : {A K : Type 0} → Gates (Box Contents) → List (WorkerHandle A K) → Type 0
FirstDischargedOrOwed gates [] = Unit {0}
FirstDischargedOrOwed gates (handle ∷ handles) = AreDischargedOrOwed (actors_of gates) (handle_caller handle.registrar)

-- The first of these handles owes no actor anything.
abbrev pub FirstHasNoObligation : {A K : Type 0} → Gates (Box Contents) → List (WorkerHandle A K) → Type 0
FirstHasNoObligation gates [] = Unit {0}
FirstHasNoObligation gates (handle ∷ handles) = HasNoObligationTo (actors_of gates) (handle_caller handle.registrar)

-- No actor is in the sender's set of owed looks.
abbrev pub OwesNobody : Gates (Box Contents) → OutsideSender → Type 0
OwesNobody gates s = (id : ℕ) → id < actors_of gates → has_actor s.registrar.owed id ≡ false
