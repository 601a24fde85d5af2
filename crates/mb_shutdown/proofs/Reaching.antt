-- What an actor told goes to actors that exist.
use Rattle.std.proofs.Common.{◌≡◌, ℕ, ◌+◌, ◌<◌, Bool, true, false, List, [], ◌∷◌, ◌++◌, length, refl, sym, ap, ◌∙◌, subst, arith}
use Rattle.std.proofs.Common.{append-nil, append_assoc, Option, Some, None}
use Rattle.std.specs.Prelude.{All}
use Rattle.std.proofs.lemmas.List.Elements.{All-nil, All-cons, All-head, All-tail, All-append, All-weaker}
use Rattle.std.proofs.lemmas.Option.{slice_get_within}
use Rattle.mb_msg.specs.declared.dead_letter.DeadLetter.{DeadLetter}
use Rattle.mb_msg.specs.declared.dead_letter.DeadLetterReason.{DeadLetterReason}
use Rattle.mb_msg.specs.declared.dead_letter.DeadLetterReason.TheVariants as why
use Rattle.mb_msg.specs.declared.envelope.Envelope.{Envelope}
use Rattle.mb_msg.specs.declared.id.ActorId.{ActorId}
use Rattle.mb_actor.specs.ActorList.{has}
use Rattle.mb_actor.specs.Behaviour.{Moment, Reply}
use Rattle.mb_journal.specs.Acts.{acts}
use Rattle.mb_journal.specs.Entry.{Entry}
use Rattle.mb_journal.specs.Identity.{Identity, is_guardian}
use Rattle.mb_journal.specs.Lawful.{AreLawful}
use Rattle.mb_journal.specs.Watching.{watching}
use Rattle.mb_journal.specs.Accepted.{accepted, dead_letters, letters}
use Rattle.mb_journal.specs.Tells.{AddressedBody, envelopes_from, tells_of_journal, tells, told}
use Rattle.mb_journal.specs.declared.sent_envelope.SentEnvelope.{SentEnvelope}
use Rattle.mb_gate.specs.Rule.{IsAmong}
use Rattle.mb_home.specs.AtHome.{closed_receivers, receiver_if_closed}
use Rattle.mb_home.specs.Contents.{Contents}
use Rattle.mb_home.specs.AgreesWithJournal.{AgreesWithJournal}
use Rattle.mb_home.proofs.GuardianLemmas.{watches-none}
use Rattle.mb_home.proofs.TellLaw.{few-acts}
use Rattle.mb_home.proofs.TellLemmas.{IsThere}

not-watched : (x : ActorId) (list : List ActorId) → list ≡ [] → has list x ≡ true → ⊥
not-watched x list none t = let no : has [] x ≡ true = subst (λ l. has l x ≡ true) none t in absurd (cc no)

module _ (who : Identity) (gives : Moment → Reply → Type 0) (not_zero : is_guardian who ≡ false → 0 < who.this.0)
    (there : who.this.0 < who.actors) where
  above-zero : (journal : List Entry) → AreLawful who gives journal → (x : ActorId) → has (watching who journal) x ≡ true → 0 < who.this.0
  above-zero journal lawful x t = by_test (is_guardian who) refl
    where
      by_test : (b : Bool) → is_guardian who ≡ b → 0 < who.this.0
      by_test true guardian = absurd (not-watched x (watching who journal) (watches-none who gives guardian journal lawful) t)
      by_test false an_actor = not_zero an_actor

  -- all that it told
  tells_of_journal-there : (journal : List Entry) → AreLawful who gives journal → All (IsThere who.actors) (tells_of_journal who journal)
  unfolding AreLawful
  tells_of_journal-there [] lawful = All-nil (IsThere who.actors)
  tells_of_journal-there (e ∷ before) lawful =
      All-append (IsThere who.actors) (tells_of_journal who before) (tells (acts who before e)) (tells_of_journal-there before lawful.1)
      (few-acts who gives before e lawful.0 (above-zero before lawful.1) there).present

envelopes-there : (by number actors : ℕ) (ts : List AddressedBody) → All (IsThere actors) ts
    → All (λ (e : Envelope). e.to.0 < actors) (envelopes_from by number ts)
envelopes-there by number actors [] all = All-nil (λ (e : Envelope). e.to.0 < actors)
envelopes-there by number actors (t ∷ ts) all =
    All-cons (λ (e : Envelope). e.to.0 < actors) _ (envelopes_from by (number + 1) ts) (All-head (IsThere actors) t ts all).1
    (envelopes-there by (number + 1) actors ts (All-tail (IsThere actors) t ts all))

-- what holds of each accepted envelope holds of each dead letter's
pub letters-too : (P : Envelope → Type 0) (postings : List SentEnvelope) → All P (accepted postings)
    → All (λ (d : DeadLetter). P d.envelope) (dead_letters postings)
letters-too P [] all = All-nil (λ (d : DeadLetter). P d.envelope)
letters-too P (p ∷ postings) all =
    All-append (λ (d : DeadLetter). P d.envelope) (letters p.envelope p.refused) (dead_letters postings)
    (one p.refused (All-head P p.envelope (accepted postings) all)) (letters-too P postings (All-tail P p.envelope (accepted postings) all))
  where
    one : (o : Option DeadLetterReason) → P p.envelope → All (λ (d : DeadLetter). P d.envelope) (letters p.envelope o)
    one None h = All-nil (λ (d : DeadLetter). P d.envelope)
    one (Some w) h =
        All-cons (λ (d : DeadLetter). P d.envelope) (record { envelope = p.envelope; why = w }) [] h (All-nil (λ (d : DeadLetter). P d.envelope))

-- the dead letters of a home are to actors in its directory
pub dead-there : (gives : Moment → Reply → Type 0) (h : Contents) → AgreesWithJournal gives [] h
    → All (λ (d : DeadLetter). d.envelope.to.0 < length h.directory) h.dead
dead-there gives h s =
    let who = h.cell.who in let posted = s.posted in
    let inside : who.this.0 < who.actors
    = let lt = slice_get_within h.directory who.this.0 _ s.is_own.enrolled in let many = s.is_own.all_there in omega (arith, lt, many) in
    let all : All (λ (e : Envelope). e.to.0 < who.actors) (told who h.cell.journal)
    = envelopes-there who.this.0 0 who.actors (tells_of_journal who h.cell.journal)
    (tells_of_journal-there who gives s.is_own.not_zero inside h.cell.journal s.lawful.entries) in
    let accepted_are : accepted posted.postings ≡ told who h.cell.journal = sym (append-nil (accepted posted.postings)) ∙ posted.told in
    subst (λ l. All (λ (d : DeadLetter). d.envelope.to.0 < length h.directory) l) (sym posted.dead)
    (All-weaker (λ (d : DeadLetter). d.envelope.to.0 < who.actors) (λ (d : DeadLetter). d.envelope.to.0 < length h.directory)
    (λ d lt. let many = s.is_own.all_there in omega (arith, lt, many)) (dead_letters posted.postings)
    (letters-too (λ (e : Envelope). e.to.0 < who.actors) posted.postings
    (subst (λ l. All (λ (e : Envelope). e.to.0 < who.actors) l) (sym accepted_are) all)))

-- the receiver of a dead letter that says so is among those that are said to be closed
pub among-closed : (dead : List DeadLetter) → All (λ (d : DeadLetter). d.why ≡ why.Closed → IsAmong d.envelope.to.0 (closed_receivers dead)) dead
among-closed [] = All-nil (λ (d : DeadLetter). d.why ≡ why.Closed → IsAmong d.envelope.to.0 (closed_receivers []))
among-closed (d ∷ dead) =
    All-cons (λ (x : DeadLetter). x.why ≡ why.Closed → IsAmong x.envelope.to.0 (closed_receivers (d ∷ dead))) d dead
    (λ is. record {
      before = [];
      after = closed_receivers dead;
      joined = ap (λ w. receiver_if_closed w d.envelope.to.0 ++ closed_receivers dead) is;
    })
    (All-weaker (λ (x : DeadLetter). x.why ≡ why.Closed → IsAmong x.envelope.to.0 (closed_receivers dead))
    (λ (x : DeadLetter). x.why ≡ why.Closed → IsAmong x.envelope.to.0 (closed_receivers (d ∷ dead)))
    (λ x among is. more d.why x.envelope.to.0 (among is)) dead (among-closed dead))
  where
    more : (w : DeadLetterReason) (to : ℕ) → IsAmong to (closed_receivers dead) → IsAmong to (receiver_if_closed w d.envelope.to.0 ++ closed_receivers dead)
    more w to among =
        record {
          before = receiver_if_closed w d.envelope.to.0 ++ among.before;
          after = among.after;
          joined = ap (λ l. receiver_if_closed w d.envelope.to.0 ++ l) among.joined
              ∙ sym (append_assoc (receiver_if_closed w d.envelope.to.0) among.before (to ∷ among.after));
        }
