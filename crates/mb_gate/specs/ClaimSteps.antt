-- What the holder of a claim does to it between the try that gave it and its release: it writes the actor's status, and looks into, drains or ends
-- the actor's list of system messages (`akka.dispatch.Mailbox`, `akka.dispatch.SystemMessageQueue`).
use Rattle.std.specs.Prelude.{◌≡◌, ℕ, Bool, List, ◌++◌}
use Rattle.mb_status.specs.Mailbox.{Mailbox, word_of}
use Rattle.mb_msg.specs.declared.system.SysMsg.{SysMsg}
use Rattle.mb_gate.specs.declared.claim.Claim.{Claim}
use Rattle.mb_gate.specs.View.{writing, given_after}
use Rattle.mb_gate.specs.Accessors.{claim_id, claim_view, held_actor, status_of, taken_with, closed_with, gave_last, given_to, drained_by, recorded_by}
use Rattle.mb_gate.specs.Accessors.{SameTaken}

module _ {H : Type 0} where
  -- The claim wrote this status of its actor's mailbox, and knows that it did. Nothing else changed: it is of the same gates and the same actor, with
  -- the same home.
  pub record ChangesStatus (old new : Claim H) (written : Mailbox) : Type 0 where
    pub same_gates : (claim_id new ≡ claim_id old) × (held_actor new ≡ held_actor old)
    pub status : status_of new ≡ written
    pub known : claim_view new ≡ writing (word_of (status_of new)) (claim_view old)
    pub home : new.home ≡ old.home
    pub taken : SameTaken old new

  -- Whatever the claim learned of its actor's list, it is the same claim: of the same gates and the same actor, with the same status and home, taken
  -- with the same journal and the same actors that are closed, and with the same record.
  pub record IsSameClaim (old new : Claim H) : Type 0 where
    pub same_gates : (claim_id new ≡ claim_id old) × (held_actor new ≡ held_actor old)
    pub same : (status_of new ≡ status_of old) × (new.home ≡ old.home)
    pub taken : (taken_with new ≡ taken_with old) × (closed_with new ≡ closed_with old)
    pub recorded : recorded_by new ≡ recorded_by old

  -- The claim notes that its actor's list gave these messages, with their numbers: how many the list gave so far, whether the last drain gave
  -- something, and all that was drained.
  pub record NotesDrained (old new : Claim H) (messages : List (ℕ × SysMsg)) (gave_some : Bool) : Type 0 where
    pub given : given_to new ≡ given_after (given_to old) messages
    pub gave : gave_last new ≡ gave_some
    pub drained : drained_by new ≡ drained_by old ++ messages
