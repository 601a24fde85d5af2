-- How an actor's claim goes to the run queue (`Dispatcher.registerForExecution`).
use Rattle.std.specs.Prelude.{◌≡◌, ℕ, ◌+◌, ◌<◌, ◌≤◌, ◌==◌, ◌||◌, ◌⊎◌, Bool, true, false, MatchBool, if◌then◌else◌, List, [], ◌∷◌, ◌++◌}
use Rattle.mb_ghost.specs.Summed.{total}
use Rattle.mb_gate.specs.declared.claim.Claim.{Claim}
use Rattle.mb_gate.specs.Accessors.{held_actor}
use Rattle.mb_gate.specs.View.{View, obligation_to}
use Rattle.mb_gate.specs.ClaimCounts.{claims_got, claims_returned}
use Rattle.mb_register.specs.declared.actor_set.ActorSet.{ActorSet}
use Rattle.mb_register.specs.ActorSet.{has_actor}
use Rattle.mb_register.specs.Views.{GotAndGaveBack}

-- The claims that a caller put into the run queue, those that the queue refused, and the actors to which the caller owes a look for that.
pub record QueueAccount (H : Type 0) : Type 0 where
  pub pushed : List (Claim H)
  pub refused : List (Claim H)
  pub owed : ActorSet

-- The view owes this actor a look at its list, and one at its envelopes.
abbrev pub OwesALook : ℕ → View → Type 0
OwesALook id view = ((obligation_to id view).system ≡ true) × ((obligation_to id view).message ≡ true)

-- Each actor that joined the set is owed a look by the view.
abbrev pub JoinAsOwed : ActorSet → ActorSet → View → Type 0
JoinAsOwed old new view = (id : ℕ) → has_actor new id ≡ true → (has_actor old id ≡ true) ⊎ OwesALook id view

module _ {H : Type 0} (id : ℕ) (old new : QueueAccount H) where
  -- The claim of this actor went into the run queue.
  pub record Went : Type 0 where
    pub claim : Claim H
    pub of : held_actor claim ≡ id
    pub pushed : new.pushed ≡ old.pushed ++ claim ∷ []
    pub refused : new.refused ≡ old.refused
    pub owed : new.owed ≡ old.owed

  -- The run queue refused the claim of this actor, to which a look is owed from then on.
  pub record WasRefused : Type 0 where
    pub claim : Claim H
    pub of : held_actor claim ≡ id
    pub pushed : new.pushed ≡ old.pushed
    pub refused : new.refused ≡ old.refused ++ claim ∷ []
    pub owed : (other : ℕ) → has_actor new.owed other ≡ (other == id || has_actor old.owed other)

  -- Nothing changed: no claim was given to the run queue.
  abbrev pub AsBefore : Type 0
  AsBefore = new ≡ old

  -- The actor's claim went into the run queue, or it did not.
  abbrev pub IsRegistered : Bool → Type 0
  IsRegistered result = MatchBool result Went (AsBefore ⊎ WasRefused)

  -- The pass got one claim at most. It is the actor's, and it is not lost: it went into the run queue or, where the queue refused it, back to its
  -- actor.
  abbrev pub HandsClaimOn : View → View → Bool → Type 0
  HandsClaimOn before after result =
      MatchBool result (Went × GotAndGaveBack (id ∷ []) [] before after)
      ((AsBefore × GotAndGaveBack [] [] before after) ⊎ (WasRefused × GotAndGaveBack (id ∷ []) (id ∷ []) before after))

-- Trying the refused actors again stops at one: the run queue refused the claim of an actor to which a look was owed, and was given no claim after
-- that. A look is owed to this actor still, and no more to those before it; to those after it, looks are owed as before.
pub record StopsAt {H : Type 0} (old new : QueueAccount H) : Type 0 where
  pub claim : Claim H
  pub owed : has_actor old.owed (held_actor claim) ≡ true
  pub still : has_actor new.owed (held_actor claim) ≡ true
  pub refused : new.refused ≡ old.refused ++ claim ∷ []
  pub before : (id : ℕ) → id < held_actor claim → has_actor new.owed id ≡ false
  pub after : (id : ℕ) → held_actor claim ≤ id → id < 64 → has_actor new.owed id ≡ has_actor old.owed id

-- How many of these claims are of this actor.
abbrev pub claims_of_actor : {H : Type 0} → ℕ → List (Claim H) → ℕ
claims_of_actor {H} actor claims = total (λ (claim : Claim H). if held_actor claim == actor then 1 else 0) claims

-- No claim is lost. Of each actor, the pass got as many as went into the run queue and as the queue refused, and gave back as many as the queue
-- refused.
pub record LosesNoClaim {H : Type 0} (old new : QueueAccount H) (before after : View) : Type 0 where
  pub went : List (Claim H)
  pub back : List (Claim H)
  pub pushed : new.pushed ≡ old.pushed ++ went
  pub refused : new.refused ≡ old.refused ++ back
  pub got : (actor : ℕ) → claims_got actor after ≡ claims_got actor before + (claims_of_actor actor went + claims_of_actor actor back)
  pub returned : (actor : ℕ) → claims_returned actor after ≡ claims_returned actor before + claims_of_actor actor back
