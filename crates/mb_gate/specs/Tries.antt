-- What a try to schedule an actor answers (`Mailbox.setAsScheduled`, which answers whether it won; that a claim comes with it is this project's own
-- profile).
use Rattle.std.specs.Prelude.{◌≡◌, ◌≢◌, ℕ, Bool, true, false, [], ◌∷◌, Some, None}
use Rattle.atomic_table.specs.Table.{Me}
use Rattle.atomic_table.specs.Seated.{TableId}
use Rattle.mb_ghost.specs.Layout.{slot_at}
use Rattle.mb_gate.specs.HomeFacts.{HomeFacts}
use Rattle.mb_gate.specs.declared.slot.Slot.{Slot}
use Rattle.mb_gate.specs.declared.slot.Slot.TheVariants.{Home}
use Rattle.mb_status.specs.Mailbox.{Mailbox, word_of}
use Rattle.mb_gate.specs.View.{View, claim_alone, winning, reading}
use Rattle.mb_gate.specs.Rule.{is_some_item}
use Rattle.mb_gate.specs.Claims.{claimed}
use Rattle.mb_gate.specs.TableSteps.{ExtendsSeen, StaysClosed}
use Rattle.mb_gate.specs.Accessors.{claim_id, claim_view, held_actor, status_of, gave_last, recorded_by}
use Rattle.mb_gate.specs.declared.claim.Claim.{Claim}
use Rattle.mb_gate.specs.declared.schedule.ScheduleOutcome.{ScheduleOutcome}
use Rattle.mb_gate.specs.declared.schedule.ScheduleOutcome.TheVariants.{Got, Already, Closed, Lost}

-- The status is neither closed nor scheduled.
pub record IsFree (seen : Mailbox) : Type 0 where
  pub open_yet : seen.closed ≡ false
  pub free : seen.scheduled ≡ false

-- A free status, and the same one scheduled (`Mailbox.setAsScheduled`).
pub record BecomesScheduled (old new : Mailbox) : Type 0 where
  pub free : IsFree old
  pub scheduled : new ≡ record old { scheduled = true }

-- What the seat has once its exchange won: the claim of the actor with this status, the cell, and nothing else.
pub record WonClaim {H : Type 0} (facts : H → HomeFacts) (actor : ℕ) (status : Mailbox) (me : Me (Slot H) View) : Type 0 where
  pub home : H
  pub carried : me.1 ≡ (slot_at actor 0, Home home) ∷ []
  pub gave : Bool
  pub claim : me.0.claim ≡ Some (record {
    actor = actor;
    journal = (facts home).journal;
    closed_to = (facts home).closed_to;
    word = word_of status;
    gave = gave;
    given = (facts home).given;
    drained = (facts home).drained;
  })
  pub no_list : me.0.list ≡ None
  pub share : is_some_item me.0.share ≡ true

-- The claim was split off a seat that had this: it has that seat's claim of the actor, with this status, and the cell that the seat carried. Nothing
-- was sent in its run yet.
pub record IsSplitOff {H : Type 0} (actor : ℕ) (status : Mailbox) (me : Me (Slot H) View) (split : Claim H) : Type 0 where
  pub claim : (claim_view split ≡ claim_alone me.0) × (held_actor split ≡ actor) × (status_of split ≡ status)
  pub home : me.1 ≡ (slot_at actor 0, Home split.home) ∷ []
  pub recorded : recorded_by split ≡ []

-- A claim that was got is of these gates.
abbrev pub IsClaimOf : {H : Type 0} → TableId → ScheduleOutcome H → Type 0
IsClaimOf gates (Got claim) = claim_id claim ≡ gates
IsClaimOf gates _ = Unit {0}

module _ {H : Type 0} (is_of : ℕ → H → Type 0) (facts : H → HomeFacts) (actor : ℕ) (before after : View) (seen : Mailbox) where
  -- The claim of the actor was got by the exchange of this status, which is now scheduled. Its cell is the actor's own, its word the
  -- one of its journal, and this goes on from all that the pass has seen; it knows how many its list gave; unless the last drain gave
  -- something, nothing is left beside the cell. Nothing was said for it yet, and the pass owes the actor nothing.
  pub record IsGot (claim : Claim H) : Type 0 where
    pub found : IsFree seen
    pub of : held_actor claim ≡ actor
    pub status : status_of claim ≡ record seen { scheduled = true }
    pub of_actor : is_of actor claim.home
    pub word : word_of (facts claim.home).mailbox ≡ word_of seen
    pub continues : ExtendsSeen actor (facts claim.home).journal before
    pub rest : gave_last claim ≡ false → (facts claim.home).no_backlog
    pub known : claim_view claim ≡ claimed actor (facts claim.home).journal (facts claim.home).closed_to (word_of (status_of claim)) (gave_last claim)
        (facts claim.home).given (facts claim.home).drained
    pub recorded : recorded_by claim ≡ []
    pub pass : after ≡ winning actor before

  -- What the exchange answers, the pass having known this before it: Got by that exchange; Lost with the word that it found, which is
  -- closed if the actor was seen closed.
  abbrev pub IsExchanged : ScheduleOutcome H → Type 0
  IsExchanged (Got claim) = IsGot claim
  IsExchanged (Lost found) = IsFree seen × (word_of found ≢ word_of seen) × (after ≡ reading actor (word_of found) before)
      × StaysClosed actor (word_of found) before
  IsExchanged _ = ⊥

module _ {H : Type 0} (is_of : ℕ → H → Type 0) (facts : H → HomeFacts) (actor : ℕ) (before after : View) (seen : Mailbox) where
  -- What the call answers, having read this status: Got by its own exchange; Already and Closed as it read; Lost with another word that
  -- its exchange found. An actor that was seen closed is closed: it answers neither Already nor Lost with another word than that.
  abbrev pub IsTried : ScheduleOutcome H → Type 0
  IsTried (Got claim) = IsGot is_of facts actor (reading actor (word_of seen) before) after seen claim
  IsTried Already = (seen.closed ≡ false) × (seen.scheduled ≡ true) × (after ≡ reading actor (word_of seen) before)
      × StaysClosed actor (word_of seen) before
  IsTried Closed = (seen.closed ≡ true) × (after ≡ reading actor (word_of seen) before)
  IsTried (Lost found) = IsFree seen × (word_of found ≢ word_of seen) × (after ≡ reading actor (word_of found) (reading actor (word_of seen) before))
      × StaysClosed actor (word_of found) (reading actor (word_of seen) before)
