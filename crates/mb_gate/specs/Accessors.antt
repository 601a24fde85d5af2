-- How the contracts above speak of gates, passes and claims, without a table, a seat or a rule (this project's own profile).
use Rattle.std.specs.Prelude.{◌≡◌, ℕ, Bool, List, [], ◌∷◌, ◌++◌}
use Rattle.atomic_table.specs.Seated.{TableId}
use Rattle.mb_status.specs.Mailbox.{Mailbox}
use Rattle.mb_msg.specs.declared.system.SysMsg.{SysMsg}
use Rattle.mb_journal.specs.Entry.{Entry}
use Rattle.mb_gate.specs.declared.gates.Gates.{Gates}
use Rattle.mb_gate.specs.declared.pass.Pass.{Pass}
use Rattle.mb_gate.specs.declared.claim.Claim.{Claim}
use Rattle.mb_gate.specs.View.{View, SentSystem}
use Rattle.mb_gate.specs.Claims.{held_in}

module _ {H : Type 0} where
  -- Which gates these are.
  abbrev pub gates_id : Gates H → TableId
  gates_id gates = gates.table.shared.table_id

  -- Of which gates a pass is.
  abbrev pub pass_id : Pass H → TableId
  pass_id pass = pass.seat.table_id

  -- Of which gates a claim is.
  abbrev pub claim_id : Claim H → TableId
  claim_id claim = claim.seat.table_id

  -- How many actors the gates have.
  abbrev pub actors_of : Gates H → ℕ
  actors_of gates = gates.actors

  -- The home with which the first actor began.
  abbrev pub first_home : Gates H → H
  first_home gates = gates.table.shared.key.first.value

  -- What a pass knows and owes.
  abbrev pub pass_view : Pass H → View
  pass_view pass = pass.seat.me.0

  -- What a claim knows.
  abbrev pub claim_view : Claim H → View
  claim_view claim = claim.seat.me.0

  -- The actor that a claim is of.
  abbrev pub held_actor : Claim H → ℕ
  held_actor claim = claim.actor.0

  -- The status of the claimed actor's mailbox, as the claim knows it.
  abbrev pub status_of : Claim H → Mailbox
  status_of claim = claim.status

  -- The journal that the cell had when the claim was taken.
  abbrev pub taken_with : Claim H → List Entry
  taken_with claim = (held_in claim.seat.me.0).journal

  -- Whether the last drain of the claimed actor's list gave something.
  abbrev pub gave_last : Claim H → Bool
  gave_last claim = (held_in claim.seat.me.0).gave

  -- The messages, with their numbers, of which the home said when the claim was taken that the list gave them, and then what was drained since.
  abbrev pub drained_by : Claim H → List (ℕ × SysMsg)
  drained_by claim = (held_in claim.seat.me.0).drained

  -- How many messages the claimed actor's list gave so far, modulo 2^64, as the claim knows it.
  abbrev pub given_to : Claim H → ℕ
  given_to claim = (held_in claim.seat.me.0).given

  -- The actors of which the home said, when the claim was taken, that they are closed.
  abbrev pub closed_with : Claim H → List ℕ
  closed_with claim = (held_in claim.seat.me.0).closed_to

  -- The claim's record: the system messages that were sent in its run, the earliest first.
  abbrev pub recorded_by : Claim H → List SentSystem
  recorded_by claim = claim.sent_log

  -- The claim was taken with the same home, nothing more was drained, and nothing more was recorded.
  pub record SameTaken (old new : Claim H) : Type 0 where
    pub journal : taken_with new ≡ taken_with old
    pub closed : closed_with new ≡ closed_with old
    pub gave : gave_last new ≡ gave_last old
    pub given : given_to new ≡ given_to old
    pub drained : drained_by new ≡ drained_by old
    pub recorded : recorded_by new ≡ recorded_by old

  -- Nothing of the claim changed but its record, to which this was added.
  pub record IsRecorded (old new : Claim H) (sent_system : SentSystem) : Type 0 where
    pub id : claim_id new ≡ claim_id old
    pub known : claim_view new ≡ claim_view old
    pub actor : held_actor new ≡ held_actor old
    pub status : status_of new ≡ status_of old
    pub home : new.home ≡ old.home
    pub record_is : recorded_by new ≡ recorded_by old ++ sent_system ∷ []
