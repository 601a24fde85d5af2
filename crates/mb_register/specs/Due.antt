-- Of which actors a caller gets claims: only of those that it saw to be due (`Mailbox.canBeScheduledForExecution`).
use Rattle.std.specs.Prelude.{◌≡◌, ◌≢◌, ◌⊎◌, ℕ, Bool, true, List, ◌++◌, ◌∷◌}
use Rattle.mb_status.specs.Mailbox.{Mailbox, word_of, can_schedule}
use Rattle.mb_msg.specs.declared.system.SysMsg.{SysMsg}
use Rattle.mb_ghost.specs.Seen.{Each}
use Rattle.mb_gate.specs.View.{View, Observation, Read, Counted, Looked, Pushed}
use Rattle.mb_register.specs.Hint.{has_message_hint, has_system_message_hint}
use Rattle.mb_register.specs.declared.hint.Hint.{Hint}

-- It made this observation between the two views.
pub record SawSince (observation : Observation) (old new : View) : Type 0 where
  pub later : List Observation
  pub earlier : List Observation
  pub log : new.log ≡ later ++ (observation ∷ (earlier ++ old.log))

-- It read that envelopes were counted as waiting for the actor.
abbrev pub SawWaiting : ℕ → View → View → Type 0
SawWaiting id old new = (waiting : ℕ) × (waiting ≢ 0) × SawSince (Counted id waiting) old new

-- It read at the gate of the actor's list that there is system work.
abbrev pub SawListed : ℕ → View → View → Type 0
SawListed id = SawSince (Looked id true)

-- It read a status of the actor with which the actor has to be given to a worker: for system work, which a hint told of or the gate showed; or for
-- envelopes that it may handle, which a hint told of or the count showed.
pub record SawDue (id : ℕ) (hint : Hint) (old new : View) : Type 0 where
  pub status : Mailbox
  pub has_messages : Bool
  pub has_system : Bool
  pub due : can_schedule status has_messages has_system ≡ true
  pub read : SawSince (Read id (word_of status)) old new
  pub waiting : has_messages ≡ true → (has_message_hint hint ≡ true) ⊎ SawWaiting id old new
  pub listed : has_system ≡ true → (has_system_message_hint hint ≡ true) ⊎ SawListed id old new

-- Each claim that it got is of an actor that it saw to be due.
pub record GotOnlyDue (hint : Hint) (old new : View) : Type 0 where
  pub of_these : List ℕ
  pub got : new.got ≡ of_these ++ old.got
  pub due : Each (λ id. SawDue id hint old new) of_these

-- It put a system message last into the actor's list.
abbrev pub ListedOne : ℕ → View → View → Type 0
ListedOne id old new = (number : ℕ) × (message : SysMsg) × SawSince (Pushed id number message) old new

-- It read a status of the actor with which the actor has to be given to a worker: for system work, which it put into the list itself or saw at the
-- gate; or for envelopes that the actor may handle, of which it read that some are counted.
pub record IsDueSince (id : ℕ) (old new : View) : Type 0 where
  pub status : Mailbox
  pub has_messages : Bool
  pub has_system : Bool
  pub due : can_schedule status has_messages has_system ≡ true
  pub read : SawSince (Read id (word_of status)) old new
  pub waiting : has_messages ≡ true → SawWaiting id old new
  pub listed : has_system ≡ true → ListedOne id old new ⊎ SawListed id old new

-- Each claim that it got is of an actor that was due then, by what it did and saw itself.
pub record GotDue (old new : View) : Type 0 where
  pub of_these : List ℕ
  pub got : new.got ≡ of_these ++ old.got
  pub due : Each (λ id. IsDueSince id old new) of_these
