-- A home that agrees with its journal but for some acts agrees but for others that tell the same.
use Rattle.std.proofs.Common.{◌≡◌, ◌<◌, ◌≤◌, List, ◌++◌, All, length, subst}
use Rattle.mb_actor.specs.Behaviour.{Moment, Reply}
use Rattle.mb_journal.specs.Acts.{Act}
use Rattle.mb_journal.specs.Accepted.{accepted}
use Rattle.mb_journal.specs.Tells.{AddressedBody, tells, told, envelopes_from}
use Rattle.mb_home.specs.Contents.{Contents}
use Rattle.mb_home.specs.AgreesWithJournal.{AgreesWithJournal}

pub settled-silent : (gives : Moment → Reply → Type 0) (a b : List Act) (h : Contents) → tells a ≡ tells b → AgreesWithJournal gives a h →
    AgreesWithJournal gives b h
settled-silent gives a b h same s = record {
  is_own = s.is_own;
  lawful = s.lawful;
  taken = s.taken;
  open_keeps = s.open_keeps;
  fit = record {
    present = subst (λ (ts : List AddressedBody). All (λ (t : AddressedBody). (0 < t.0.0) × (t.0.0 ≤ length h.sends)) ts) same s.fit.present;
    room = subst (λ (ts : List AddressedBody). length ts ≤ h.room) same s.fit.room;
  };
  posted = record {
    postings = s.posted.postings;
    told =
        subst (λ (ts : List AddressedBody). accepted s.posted.postings ++ envelopes_from h.cell.who.this.0 (length s.posted.postings) ts
        ≡ told h.cell.who h.cell.journal) same s.posted.told;
    sent = s.posted.sent;
    pushed = s.posted.pushed;
    dead = s.posted.dead;
  };
  counted = s.counted;
  reasons = s.reasons;
}
