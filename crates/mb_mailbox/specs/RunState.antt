-- The state of a run: what a claim has and knows.
use Rattle.std.specs.Prelude.{ℕ, Bool, List}
use Rattle.std.specs.Global.{Box}
use Rattle.atomic_table.specs.Seated.{TableId}
use Rattle.mb_status.specs.Mailbox.{Mailbox}
use Rattle.mb_msg.specs.declared.system.SysMsg.{SysMsg}
use Rattle.mb_core.specs.declared.wake_obligation.WakeObligation.{WakeObligation}
use Rattle.mb_journal.specs.Entry.{Entry}
use Rattle.mb_gate.specs.declared.claim.Claim.{Claim}
use Rattle.mb_gate.specs.Accessors.{claim_id, claim_view, held_actor, status_of, taken_with, closed_with, gave_last, given_to, drained_by, recorded_by}
use Rattle.mb_gate.specs.View.{Observation, Release, SentSystem}
use Rattle.mb_home.specs.Contents.{Contents}

-- The gates that the claim is of; its actor; the status; what lies at the actor's home; the journal with which the claim was taken, and the actors of
-- which the home said then that they are closed; whether the last drain gave something, and how many messages the list gave, modulo 2^64; which of
-- these the home named when the claim was taken, and then those drained since; which system messages were sent for it, the earliest first; what its
-- own seat saw and did, the newest first; what that seat owes; its share of the one whole of all passes; each cell that it gave
-- back; and the actors of which it got a claim and of which it gave one back.
pub record RunState : Type 0 where
  pub gates : TableId
  pub actor : ℕ
  pub status : Mailbox
  pub home : Contents
  pub before : List Entry
  pub closed_to : List ℕ
  pub gave : Bool
  pub given : ℕ
  pub drained : List (ℕ × SysMsg)
  pub recorded : List SentSystem
  pub log : List Observation
  pub obligations : List (ℕ × WakeObligation)
  pub share : List ℕ
  pub releases : List Release
  pub got : List ℕ
  pub returned : List ℕ

-- The state of a claim's run.
abbrev pub run_state : Claim (Box Contents) → RunState
run_state claim = record {
  gates = claim_id claim;
  actor = held_actor claim;
  status = status_of claim;
  home = claim.home.value;
  before = taken_with claim;
  closed_to = closed_with claim;
  gave = gave_last claim;
  given = given_to claim;
  drained = drained_by claim;
  recorded = recorded_by claim;
  log = (claim_view claim).log;
  obligations = (claim_view claim).obligations;
  share = (claim_view claim).share;
  releases = (claim_view claim).releases;
  got = (claim_view claim).got;
  returned = (claim_view claim).returned;
}
