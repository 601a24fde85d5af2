-- What the functions of a registrar have in common (`Dispatcher.registerForExecution`): what each does to its pass and leaves of its registrar, whatever
-- it answers.
use Rattle.std.specs.Prelude.{◌≡◌, ◌≢◌, ◌⊎◌, ◌<◌, ℕ, true, false, List, [], Option}
use Rattle.mb_core.specs.Actor.{nothing}
use Rattle.mb_gate.specs.declared.claim.Claim.{Claim}
use Rattle.mb_gate.specs.declared.pass.Pass.{Pass}
use Rattle.mb_gate.specs.Accessors.{pass_id, pass_view}
use Rattle.mb_gate.specs.Untouched.{Origin}
use Rattle.mb_gate.specs.View.{View, obligation_to}
use Rattle.mb_register.specs.declared.hint.Hint.TheVariants as hint
use Rattle.mb_register.specs.declared.registrar.Registrar.{Registrar}
use Rattle.mb_register.specs.Due.{GotOnlyDue}
use Rattle.mb_register.specs.ActorSet.{has_actor}
use Rattle.mb_register.specs.Registering.{QueueAccount, LosesNoClaim, OwesALook}
use Rattle.mb_register.specs.Views.{GotAndGaveBack, LooksAfter}

module _ {H : Type 0} where
  -- The pass is of the same gates still. It only read, at this actor: it got no claim, and gave none back.
  pub record OnlyReads (id : ℕ) (old new : Pass H) : Type 0 where
    pub same_gates : pass_id new ≡ pass_id old
    pub looks : LooksAfter id (pass_view old) (pass_view new)
    pub claims : GotAndGaveBack [] [] (pass_view old) (pass_view new)

module _ {H W : Type 0} where
  -- What went into the run queue by a registrar, what the queue refused, and the looks that the registrar owes since.
  abbrev pub account_of : (W → List (Claim H)) → (W → List (Claim H)) → Registrar H W → QueueAccount H
  account_of pushed refused registrar = record { pushed = pushed registrar.run_queue; refused = refused registrar.run_queue; owed = registrar.owed }

  -- Registering one actor: the registrar's pass and its port of the run queue are of the same gates still. Besides getting the actor's claim and giving
  -- it back, the pass only read, at this actor. Whom a run told something is as before.
  pub record RegistersOne (origin : W → Option (Origin H)) (id : ℕ) (old new : Registrar H W) : Type 0 where
    pub same_gates : (pass_id new.pass ≡ pass_id old.pass) × (origin new.run_queue ≡ origin old.run_queue)
    pub looks : LooksAfter id (pass_view old.pass) (pass_view new.pass)
    pub told : new.told ≡ old.told

  -- Registering those of some actors that are due: the registrar's pass and its port of the run queue are of the same gates still. Besides getting
  -- claims and giving them back, the pass only read, at actors at which it may look. No claim is lost, and each that it got is of an actor that it saw
  -- to be due.
  pub record RegistersDue (origin : W → Option (Origin H)) (pushed refused : W → List (Claim H)) (MayLook : View → View → Type 0)
      (old new : Registrar H W) : Type 0 where
    pub same_gates : (pass_id new.pass ≡ pass_id old.pass) × (origin new.run_queue ≡ origin old.run_queue)
    pub looks : MayLook (pass_view old.pass) (pass_view new.pass)
    pub handed : LosesNoClaim (account_of pushed refused old) (account_of pushed refused new) (pass_view old.pass) (pass_view new.pass)
    pub due : GotOnlyDue hint.None (pass_view old.pass) (pass_view new.pass)

  -- What a retry leaves of owed looks, whatever it answers: no look is owed to an actor to which none was owed. To each to which one was owed the pass
  -- owes nothing, or the actor is in the set still.
  pub record OwesNoMore (old new : Registrar H W) : Type 0 where
    pub no_more : (id : ℕ) → id < 64 → has_actor old.owed id ≡ false → has_actor new.owed id ≡ false
    pub kept : (id : ℕ) → id < 64 → has_actor old.owed id ≡ true
        → (obligation_to id (pass_view new.pass) ≡ nothing) ⊎ (has_actor new.owed id ≡ true)

  -- A retry of one actor is for this actor alone: if no look was owed to it, nothing changed; and to the others looks are owed as before.
  pub record RetriesOnly (id : ℕ) (old new : Registrar H W) : Type 0 where
    pub none : has_actor old.owed id ≡ false → new ≡ old
    pub others : (other : ℕ) → other < 64 → other ≢ id → has_actor new.owed other ≡ has_actor old.owed other

  -- A look was owed to this actor and still is: it was in the set and is in it, and the pass owes it the look.
  pub record IsStillOwed (id : ℕ) (old new : Registrar H W) : Type 0 where
    pub left : (has_actor old.owed id ≡ true) × (has_actor new.owed id ≡ true)
    pub owes : OwesALook id (pass_view new.pass)
