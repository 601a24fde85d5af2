-- What the gates' calls change of a claim, as the run sees it.
use Rattle.std.proofs.Common.{◌≡◌, ℕ, Bool, true, List, [], ◌∷◌, ◌++◌}
use Rattle.std.specs.Global.{Box}
use Rattle.mb_msg.specs.declared.system.SysMsg.{SysMsg}
use Rattle.mb_gate.specs.Claims.{held_in}
use Rattle.mb_gate.specs.declared.claim.Claim.{Claim}
use Rattle.mb_gate.specs.Accessors.{claim_id, claim_view, held_actor, status_of, taken_with, closed_with, gave_last, given_to, drained_by, recorded_by}
use Rattle.mb_gate.specs.Accessors.{IsRecorded, SameTaken}
use Rattle.mb_gate.specs.View.{SentSystem, Read, Looked, Took, Drained, Ended, reading_held, looking, writing, counting_off, draining, ending, given_after}
use Rattle.mb_home.specs.Contents.{Contents}
use Rattle.mb_mailbox.specs.RunState.{run_state}

module _ (c new : Claim (Box Contents)) (ours : (claim_id new ≡ claim_id c) × (held_actor new ≡ held_actor c)) (home : new.home ≡ c.home) where
  -- the status was written
  pub hold-written : (word : ℕ) → claim_view new ≡ writing word (claim_view c) → SameTaken c new →
      run_state new ≡ record (run_state c) { status = status_of new }
  hold-written word known same = λ i. record {
    gates = ours.0 i;
    actor = ours.1 i;
    status = status_of new;
    home = (home i).value;
    before = same.journal i;
    closed_to = same.closed i;
    gave = same.gave i;
    given = same.given i;
    drained = same.drained i;
    recorded = same.recorded i;
    log = (known i).log;
    obligations = (known i).obligations;
    share = (known i).share;
    releases = (known i).releases;
    got = (known i).got;
    returned = (known i).returned;
  }

  -- an envelope was counted as taken
  pub hold-taken : (actor n : ℕ) → status_of new ≡ status_of c → claim_view new ≡ counting_off actor n (claim_view c) → SameTaken c new →
      run_state new ≡ record (run_state c) { log = Took actor n ∷ (claim_view c).log }
  hold-taken actor n status known same = λ i. record {
    gates = ours.0 i;
    actor = ours.1 i;
    status = status i;
    home = (home i).value;
    before = same.journal i;
    closed_to = same.closed i;
    gave = same.gave i;
    given = same.given i;
    drained = same.drained i;
    recorded = same.recorded i;
    log = (known i).log;
    obligations = (known i).obligations;
    share = (known i).share;
    releases = (known i).releases;
    got = (known i).got;
    returned = (known i).returned;
  }

  -- the status word was loaded
  pub hold-read : (actor word : ℕ) → status_of new ≡ status_of c → claim_view new ≡ reading_held actor word (claim_view c) → SameTaken c new →
      run_state new ≡ record (run_state c) { log = Read actor word ∷ (claim_view c).log }
  hold-read actor word status known same = λ i. record {
    gates = ours.0 i;
    actor = ours.1 i;
    status = status i;
    home = (home i).value;
    before = same.journal i;
    closed_to = same.closed i;
    gave = same.gave i;
    given = same.given i;
    drained = same.drained i;
    recorded = same.recorded i;
    log = (known i).log;
    obligations = (known i).obligations;
    share = (known i).share;
    releases = (known i).releases;
    got = (known i).got;
    returned = (known i).returned;
  }

  -- the gate of the actor's list was read, and showed work
  pub hold-looked : (actor : ℕ) → status_of new ≡ status_of c → claim_view new ≡ looking actor true (claim_view c) → SameTaken c new →
      run_state new ≡ record (run_state c) { log = Looked actor true ∷ (claim_view c).log }
  hold-looked actor status known same = λ i. record {
    gates = ours.0 i;
    actor = ours.1 i;
    status = status i;
    home = (home i).value;
    before = same.journal i;
    closed_to = same.closed i;
    gave = same.gave i;
    given = same.given i;
    drained = same.drained i;
    recorded = same.recorded i;
    log = (known i).log;
    obligations = (known i).obligations;
    share = (known i).share;
    releases = (known i).releases;
    got = (known i).got;
    returned = (known i).returned;
  }

  module _ (status : status_of new ≡ status_of c) (taken : (taken_with new ≡ taken_with c) × (closed_with new ≡ closed_with c))
      (recorded : recorded_by new ≡ recorded_by c) (result : List (ℕ × SysMsg)) (given : given_to new ≡ given_after (given_to c) result)
      (drained : drained_by new ≡ drained_by c ++ result) where
    -- the list was drained
    pub hold-drained : (actor : ℕ) (gave : Bool) → claim_view new ≡ draining actor result gave (claim_view c) → gave_last new ≡ gave →
        run_state new ≡ record (run_state c) {
          gave = gave;
          given = given_after (given_to c) result;
          drained = drained_by c ++ result;
          log = Drained actor result ∷ (claim_view c).log;
        }
    hold-drained actor gave known last = λ i. record {
      gates = ours.0 i;
      actor = ours.1 i;
      status = status i;
      home = (home i).value;
      before = taken.0 i;
      closed_to = taken.1 i;
      gave = last i;
      given = given i;
      drained = drained i;
      recorded = recorded i;
      log = (known i).log;
      obligations = (known i).obligations;
      share = (known i).share;
      releases = (known i).releases;
      got = (known i).got;
      returned = (known i).returned;
    }

    -- it was ended
    pub hold-ended : (actor : ℕ) (gave : Bool) → claim_view new ≡ ending actor result gave (claim_view c) → gave_last new ≡ gave_last c →
        run_state new ≡ record (run_state c) {
          given = given_after (given_to c) result;
          drained = drained_by c ++ result;
          log = Ended actor result ∷ (claim_view c).log;
        }
    hold-ended actor gave known last = λ i. record {
      gates = ours.0 i;
      actor = ours.1 i;
      status = status i;
      home = (home i).value;
      before = taken.0 i;
      closed_to = taken.1 i;
      gave = last i;
      given = given i;
      drained = drained i;
      recorded = recorded i;
      log = (known i).log;
      obligations = (known i).obligations;
      share = (known i).share;
      releases = (known i).releases;
      got = (known i).got;
      returned = (known i).returned;
    }

-- a system message was sent in the run
pub hold-recorded : (c new : Claim (Box Contents)) (sent_system : SentSystem) → IsRecorded c new sent_system →
    run_state new ≡ record (run_state c) { recorded = recorded_by c ++ sent_system ∷ [] }
hold-recorded c new sent_system r = λ i. record {
  gates = r.id i;
  actor = r.actor i;
  status = r.status i;
  home = (r.home i).value;
  before = (held_in (r.known i)).journal;
  closed_to = (held_in (r.known i)).closed_to;
  gave = (held_in (r.known i)).gave;
  given = (held_in (r.known i)).given;
  drained = (held_in (r.known i)).drained;
  recorded = r.record_is i;
  log = (r.known i).log;
  obligations = (r.known i).obligations;
  share = (r.known i).share;
  releases = (r.known i).releases;
  got = (r.known i).got;
  returned = (r.known i).returned;
}
