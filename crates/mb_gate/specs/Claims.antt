-- What the seat of a claim knows and holds (this project's own profile: a dispatcher of Akka is handed the mailbox itself).
use Rattle.std.specs.Prelude.{◌≡◌, ℕ, ◌%◌, ◌==◌, ◌⊎◌, Bool, true, false, ◌||◌, List, [], ◌∷◌, Option, Some, None}
use Rattle.mb_journal.specs.Entry.{Entry}
use Rattle.mb_status.specs.Mailbox.{Mailbox, word_of, idle}
use Rattle.mb_msg.specs.declared.system.SysMsg.{SysMsg}
use Rattle.atomic_table.specs.Table.{Me}
use Rattle.mb_ghost.specs.Layout.{slot_at}
use Rattle.mb_ghost.specs.Seen.{Each}
use Rattle.mb_gate.specs.HomeFacts.{HomeFacts}
use Rattle.mb_gate.specs.declared.slot.Slot.{Slot}
use Rattle.mb_gate.specs.declared.slot.Slot.TheVariants.{Home}
use Rattle.mb_gate.specs.View.{View, Held, blank, idling}
use Rattle.mb_gate.specs.Rule.{Extends, IsAmong, HasSeenClosed, is_some_item}
use Rattle.mb_gate.specs.Returned.{GoesOn}

-- No claim: the value that stands where a view has none.
abbrev pub nobody : Held
nobody = record { actor = 0; journal = []; closed_to = []; word = 0; gave = false; given = 0; drained = [] }

-- The claim, or the empty one where there is none.
abbrev pub held_or : Option Held → Held
held_or None = nobody
held_or (Some c) = c

-- The claim that a view has.
abbrev pub held_in : View → Held
held_in v = held_or v.claim

-- The journal with which the view's claim was taken goes on from each that the view has seen of the actor.
abbrev pub ClaimGoesOn : ℕ → View → Type 0
ClaimGoesOn actor v = Each (GoesOn actor (held_in v).journal) v.log

-- The status word says that there is a claim of the actor, or that its mailbox is closed.
abbrev pub is_busy : ℕ → Bool
is_busy word = word % 4 == 2 || word == 1

-- The view of a claim that was just taken: of this actor, with this journal, these actors that its home says are closed, this status word, whether
-- the last drain gave something, how many messages the list gave so far, and those of them of which the home says so.
abbrev pub claimed : ℕ → List Entry → List ℕ → ℕ → Bool → ℕ → List (ℕ × SysMsg) → View
claimed actor journal shut word gave given drained =
    record blank {
      claim = Some (record {
        actor = actor;
        journal = journal;
        closed_to = shut;
        word = word;
        gave = gave;
        given = given;
        drained = drained;
      });
    }

-- The actor is known to be closed: the home said so when it was taken, or the status was read as closed since.
abbrev pub IsKnownClosed : ℕ → List ℕ → View → Type 0
IsKnownClosed actor shut v = IsAmong actor shut ⊎ HasSeenClosed actor v

module _ {H : Type 0} (is_of : ℕ → H → Type 0) (facts : H → HomeFacts) where
  -- The home may go back into its actor's slot, from a claim that was taken so, by whom knows this: it is the actor's own, its journal goes on from
  -- the one that was taken, its word is the one of the status once idle; it knows how many messages its list gave, and each message that it says the
  -- list gave is known to be given; each actor that it says is closed is known to be; and unless the actor is open and its last drain gave something,
  -- nothing is left beside the cell.
  pub record MayGoHome (actor : ℕ) (status : Mailbox) (taken : Held) (known : View) (home : H) : Type 0 where
    pub home_of_actor : is_of actor home
    pub extends : Extends (facts home).journal taken.journal
    pub fold : word_of (facts home).mailbox ≡ word_of (idle status)
    pub count : (facts home).given ≡ taken.given
    pub known_closed : Each (λ other. IsKnownClosed other taken.closed_to known) (facts home).closed_to
    pub drained : Each (λ m. IsAmong m taken.drained) (facts home).drained
    pub rest : (status.closed ≡ true) ⊎ (taken.gave ≡ false) → (facts home).no_backlog

  -- A seat has the claim of the actor with this status and carries its cell, which may go home.
  pub record IsReadyToRelease (actor : ℕ) (status : Mailbox) (me : Me (Slot H) View) : Type 0 where
    pub home : H
    pub carried : me.1 ≡ (slot_at actor 0, Home home) ∷ []
    pub has : me.0.claim ≡ Some (held_in me.0)
    pub of : (held_in me.0).actor ≡ actor
    pub word : (held_in me.0).word ≡ word_of status
    pub may_go_home : MayGoHome actor status (held_in me.0) me.0 home
    pub share : is_some_item me.0.share ≡ true

-- the cell that the seat carried went home, which was taken with a journal that goes on from all that the seat has seen
abbrev pub Idled : {H : Type 0} → (H → HomeFacts) → ℕ → Me (Slot H) View → Me (Slot H) View → Type 0
Idled {H} facts actor m m' = (home : H) → m.1 ≡ (slot_at actor 0, Home home) ∷ []
    → (m' ≡ (idling actor (facts home).journal m.0, [])) × ClaimGoesOn actor m.0
