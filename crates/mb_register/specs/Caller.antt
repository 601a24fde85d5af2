-- What a run changes of its caller: what the caller's pass knows and owes, and its account with the run queue.
use Rattle.std.specs.Prelude.{◌≡◌, ◌<◌, ◌≤◌, ◌⊎◌, ℕ, true, List, ◌++◌, Option, Some}
use Rattle.mb_core.specs.Actor.{nothing}
use Rattle.mb_ghost.specs.Seen.{Each}
use Rattle.mb_gate.specs.declared.claim.Claim.{Claim}
use Rattle.mb_gate.specs.declared.gates.Gates.{Gates}
use Rattle.mb_gate.specs.Accessors.{held_actor, gates_id, pass_id, actors_of, pass_view}
use Rattle.mb_gate.specs.Rule.{IsAmong, IsPart}
use Rattle.mb_gate.specs.View.{View, Observation, Read, Saw, Counted, Looked, Sent, Unsent, Took, Pushed, Drained, Ended, obligation_to}
use Rattle.mb_register.specs.declared.actor_set.ActorSet.{ActorSet}
use Rattle.mb_register.specs.declared.registrar.Registrar.{Registrar}
use Rattle.mb_gate.specs.Untouched.{Origin, origin_of}
use Rattle.mb_register.specs.Due.{GotDue}
use Rattle.mb_register.specs.ActorSet.{has_actor}
use Rattle.mb_register.specs.Registering.{QueueAccount, LosesNoClaim}
use Rattle.mb_register.specs.Registers.{account_of}
use Rattle.mb_register.specs.Sending.{SendsOpen}
use Rattle.mb_register.specs.Views.{GivesBackUnchanged}

-- What a caller's pass knows and owes, its account with the run queue, and the actors that a run told something and has not registered yet.
pub record Caller (H : Type 0) : Type 0 where
  pub view : View
  pub account : QueueAccount H
  pub told : ActorSet

-- No envelope was taken.
abbrev pub TakesNothing : Observation → Type 0
TakesNothing (Read a word) = Unit {0}
TakesNothing (Saw a journal) = Unit {0}
TakesNothing (Counted a waiting) = Unit {0}
TakesNothing (Looked a has_work) = Unit {0}
TakesNothing (Sent a n) = Unit {0}
TakesNothing (Unsent a n) = Unit {0}
TakesNothing (Took a n) = ⊥
TakesNothing (Pushed a number message) = Unit {0}
TakesNothing (Drained a given) = Unit {0}
TakesNothing (Ended a given) = Unit {0}

-- Besides what it knew, it knows what the seat of a claim did. It took no envelope itself, and sent only to actors that it read as open.
pub record TakesOver (old new : View) (steps : List Observation) : Type 0 where
  pub own_log : List Observation
  pub took_none : Each TakesNothing own_log
  pub sends_open : SendsOpen own_log
  pub joined : new.log ≡ own_log ++ (old.log ++ steps)

module _ {H W : Type 0} where
  -- The registrar's pass and its port of the run queue are of these gates, which have no more actors than the set of those that are owed a look can hold.
  abbrev pub IsRegistrarOf : (W → Option (Origin H)) → Gates H → Registrar H W → Type 0
  IsRegistrarOf origin gates registrar = (pass_id registrar.pass ≡ gates_id gates) × (origin registrar.run_queue ≡ Some (origin_of gates)) × (actors_of gates ≤ 64)

  -- A registrar, as a caller.
  abbrev pub caller_of : (W → List (Claim H)) → (W → List (Claim H)) → Registrar H W → Caller H
  caller_of pushed refused registrar = record {
    view = pass_view registrar.pass;
    account = account_of pushed refused registrar;
    told = registrar.told.set;
  }

module _ {H : Type 0} where
  -- It still owes every look that it owed, and besides only looks to actors whose claims the run queue refused since.
  pub record OwesForRefusals (old new : QueueAccount H) : Type 0 where
    pub more : List (Claim H)
    pub refused : new.refused ≡ old.refused ++ more
    pub still : (id : ℕ) → has_actor old.owed id ≡ true → has_actor new.owed id ≡ true
    pub only : (id : ℕ) → has_actor new.owed id ≡ true →
        (has_actor old.owed id ≡ true) ⊎ ((claim : Claim H) × IsAmong claim more × (held_actor claim ≡ id))

  -- It owes this actor nothing, or the actor is in its set of owed looks.
  abbrev pub IsDischargedOrOwed : ℕ → Caller H → Type 0
  IsDischargedOrOwed id caller = (obligation_to id caller.view ≡ nothing) ⊎ (has_actor caller.account.owed id ≡ true)

  -- A run told this actor something, and has not registered it yet.
  abbrev pub IsTold : ℕ → Caller H → Type 0
  IsTold id caller = (id < 64) × (has_actor caller.told id ≡ true)

  -- It saw more, took no envelope, sent only to actors that it read as open, kept its share, and gave each cell back as it was taken. To each actor it
  -- owes nothing, or the actor is in its set, or it owes what it did before, or it is to register the actor still. Each claim that it got is of an
  -- actor that was due, and none was lost.
  pub record CallerAdvances (old new : Caller H) : Type 0 where
    pub more : List Observation
    pub took_none : Each TakesNothing more
    pub sends_open : SendsOpen more
    pub log : new.view.log ≡ more ++ old.view.log
    pub account : OwesForRefusals old.account new.account
    pub obligations : (id : ℕ) → IsDischargedOrOwed id new ⊎ (obligation_to id new.view ≡ obligation_to id old.view) ⊎ IsTold id new
    pub told : (id : ℕ) → IsTold id old → IsDischargedOrOwed id new ⊎ IsTold id new
    pub share : new.view.share ≡ old.view.share
    pub gives_back : GivesBackUnchanged old.view new.view
    pub claims : LosesNoClaim old.account new.account old.view new.view
    pub got_due : GotDue old.view new.view

  -- It still knows all that it knew, and kept its share. To each actor it owes nothing, or the actor is in its set, or it owes what it did before.
  pub record LeavesCaller (old new : Caller H) : Type 0 where
    pub log : IsPart old.view.log new.view.log
    pub account : OwesForRefusals old.account new.account
    pub obligations : (id : ℕ) → IsDischargedOrOwed id new ⊎ (obligation_to id new.view ≡ obligation_to id old.view)
    pub share : new.view.share ≡ old.view.share
