-- A sender at the end: its passes, what it was answered, and what is reported of it.
use Rattle.std.proofs.Common.{◌≡◌, ℕ, suc, ◌+◌, ◌%◌, ◌^◌, ◌<◌, List, [], length, drop, sym, ap, ◌∙◌}
use Rattle.std.proofs.Common.{subst, arith, append-nil, Some}
use Rattle.std.specs.Prelude.{All, slice_get}
use Rattle.std.proofs.lemmas.List.Elements.{All-weaker}
use Rattle.mb_msg.specs.JournalMode.{Retention}
use Rattle.mb_msg.specs.declared.dead_letter.DeadLetter.{DeadLetter}
use Rattle.mb_msg.specs.declared.dead_letter.DeadLetterReason.{DeadLetterReason}
use Rattle.mb_msg.specs.declared.dead_letter.DeadLetterReason.TheVariants as why
use Rattle.mb_actor.specs.Behaviour.{Moment, Reply}
use Rattle.mb_journal.specs.Accepted.{NumbersCountUpFrom, accepted, dead_letters, queued, to_actor}
use Rattle.mb_journal.specs.Tells.{told}
use Rattle.mb_journal.specs.declared.sent_envelope.SentEnvelope.{SentEnvelope}
use Rattle.mb_queue.specs.Passes.{SendPassView}
use Rattle.mb_shutdown.specs.Joined.{queues_pushed_into}
use Rattle.mb_home.specs.AtHome.{IsHomeOf, closed_receivers}
use Rattle.mb_home.specs.Contents.{Contents}
use Rattle.mb_home.specs.Directory.{DirectoryEntry, IsBounded, queues_of}
use Rattle.mb_home.specs.AgreesWithJournal.{IsReason}
use Rattle.mb_home.proofs.NumberedLaw.{told-numbered}
use Rattle.mb_gate.specs.Rule.{IsAmong}
use Rattle.mb_shutdown.proofs.Lists.{at-place, each-place}
use Rattle.mb_shutdown.proofs.Reaching.{among-closed, dead-there}

pub record Party : Type 0 where
  pub row : List SendPassView
  pub postings : List SentEnvelope
  pub sent : ℕ × List DeadLetter × Retention

-- the party of a home that was answered this
abbrev pub party_of : Contents → List SentEnvelope → Party
party_of h postings = record { row = h.sends; postings = postings; sent = (h.sent, h.dead, h.cell.who.retention) }

module _ (directory : List DirectoryEntry) (Shut : ℕ → Type 0) where
  -- a dead letter's reason holds
  abbrev pub HasReason : DeadLetter → Type 0
  HasReason d = (d.why ≡ why.Closed → Shut d.envelope.to.0) × (d.why ≡ why.Full → IsBounded directory d.envelope.to.0)

  -- it is the sender of this number
  pub record IsParty (number : ℕ) (p : Party) : Type 0 where
    pub numbered : NumbersCountUpFrom number 0 (accepted p.postings)
    pub send_passes : queues_pushed_into p.row ≡ drop 1 (queues_of directory)
    pub by : All (λ (s : SendPassView). s.by ≡ number) p.row
    pub pushed : (i : ℕ) (s : SendPassView) → slice_get p.row i ≡ Some s → s.pushed ≡ to_actor (suc i) (queued p.postings)
    pub sent_is : p.sent.0 ≡ length p.postings % 2 ^ 64
    pub dead_is : p.sent.1 ≡ dead_letters p.postings
    pub reasons : All HasReason (dead_letters p.postings)

  full-bounded : (r : List DirectoryEntry) (w : DeadLetterReason) (to : ℕ) → r ≡ directory → IsReason r w to → w ≡ why.Full → IsBounded directory to
  full-bounded r why.Full to same is full = subst (λ l. IsBounded l to) same is
  full-bounded r why.Closed to same is full = absurd (let no : why.Closed ≡ why.Full = full in cc no)
  full-bounded r why.NoMemory to same is full = absurd (let no : why.NoMemory ≡ why.Full = full in cc no)
  full-bounded r why.Cleaned to same is full = absurd is

  module _ (gives : Moment → Reply → Type 0) (first : Contents) (actor : ℕ) (h : Contents) (same : first.directory ≡ directory)
      (own : IsHomeOf gives first actor h)
      (shut : (other : ℕ) → other < length directory → IsAmong other (closed_receivers h.dead) → Shut other) where
    own-directory : h.directory ≡ directory
    own-directory = own.directory ∙ same

    reason-at : (i : ℕ) (d : DeadLetter) → slice_get h.dead i ≡ Some d → HasReason d
    reason-at i d there =
        let lt = at-place (λ (x : DeadLetter). x.envelope.to.0 < length h.directory) h.dead i d (dead-there gives h own.settled) there in
        let many : length h.directory ≡ length directory = ap length own-directory in (
          λ is. shut d.envelope.to.0 (omega (arith, lt, many))
              (at-place (λ (x : DeadLetter). x.why ≡ why.Closed → IsAmong x.envelope.to.0 (closed_receivers h.dead)) h.dead i d
              (among-closed h.dead) there is),
          full-bounded h.directory d.why d.envelope.to.0 own-directory
              (at-place (λ (x : DeadLetter). IsReason h.directory x.why x.envelope.to.0) h.dead i d own.settled.reasons there),
        )

    -- an actor's home is a party, which was answered for all that its journal tells
    pub home-party : (postings : List SentEnvelope) × IsParty actor (party_of h postings) × (accepted postings ≡ told h.cell.who h.cell.journal)
    home-party =
        let posted = own.settled.posted in let postings = posted.postings in
        let told_are : accepted postings ≡ told h.cell.who h.cell.journal = sym (append-nil (accepted postings)) ∙ posted.told in (
          postings,
          record {
            numbered = subst (λ n. NumbersCountUpFrom n 0 (accepted postings)) own.number
                (subst (λ l. NumbersCountUpFrom h.cell.who.this.0 0 l) (sym told_are) (told-numbered gives [] h own.settled));
            send_passes = own.settled.is_own.queues ∙ ap (λ (r : List DirectoryEntry). drop 1 (queues_of r)) own-directory;
            by = All-weaker (λ (s : SendPassView). s.by ≡ h.cell.who.this.0) (λ (s : SendPassView). s.by ≡ actor) (λ s is. is ∙ own.number) h.sends
                own.settled.is_own.by;
            pushed = λ i s there. posted.pushed i s there ∙ ap (λ n. to_actor n (queued postings)) (let e : i + 1 ≡ suc i = omega arith in e);
            sent_is = posted.sent;
            dead_is = posted.dead;
            reasons = subst (λ l. All HasReason l) posted.dead (each-place HasReason h.dead reason-at);
          },
          told_are,
        )
