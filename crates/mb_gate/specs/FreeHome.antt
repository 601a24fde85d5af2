-- What lay in the slot of an actor that nobody held (this project's own profile), which a claim brings with it (`Mailbox.setAsScheduled`).
use Rattle.std.specs.Prelude.{◌≡◌, ℕ, true}
use Rattle.mb_status.specs.Mailbox.{word_of, idle}
use Rattle.mb_gate.specs.HomeFacts.{HomeFacts}
use Rattle.mb_gate.specs.Tries.{IsFree}
use Rattle.mb_gate.specs.Accessors.{held_actor, status_of, taken_with}
use Rattle.mb_gate.specs.declared.claim.Claim.{Claim}
use Rattle.mb_gate.specs.declared.schedule.ScheduleOutcome.{ScheduleOutcome}
use Rattle.mb_gate.specs.declared.schedule.ScheduleOutcome.TheVariants.{Got}

module _ {H : Type 0} (is_of : ℕ → H → Type 0) (facts : H → HomeFacts) (actor : ℕ) where
  -- The home that this claim brings was the actor's own. The mailbox that its journal says is neither closed nor scheduled, and its word is
  -- the actor's status word as it was before the try scheduled it: the claim has the same status, scheduled. The claim knows this journal.
  pub record WasFold (claim : Claim H) : Type 0 where
    pub of : held_actor claim ≡ actor
    pub of_actor : is_of actor claim.home
    pub free : IsFree (facts claim.home).mailbox
    pub status : status_of claim ≡ record (facts claim.home).mailbox { scheduled = true }
    pub word : word_of (idle (status_of claim)) ≡ word_of (facts claim.home).mailbox
    pub journal : taken_with claim ≡ (facts claim.home).journal

  -- A try that got a claim found the actor so.
  abbrev pub FreeIsFold : ScheduleOutcome H → Type 0
  FreeIsFold (Got claim) = WasFold claim
  FreeIsFold _ = Unit {0}
