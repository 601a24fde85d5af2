-- What is kept of an actor's tells, envelope by envelope.
use Rattle.std.proofs.Common.{◌≡◌, ℕ, ◌+◌, ◌%◌, ◌^◌, ◌==◌, true, false, List, [], ◌∷◌, ◌++◌, length, map, filter, refl, sym, ap}
use Rattle.std.proofs.Common.{◌∙◌, arith, length-append}
use Rattle.std.proofs.Common.{append-nil, append_assoc}
use Rattle.std.proofs.lemmas.List.{map-append, length-map}
use Rattle.std.specs.Prelude.{cond, Option, Some, None}
use Rattle.std.proofs.lemmas.List.Concat.{flat_map-append}
use Rattle.std.proofs.lemmas.List.Elements.{filter-append}
use Rattle.mb_msg.specs.declared.dead_letter.DeadLetterReason.{DeadLetterReason}
use Rattle.mb_msg.specs.declared.envelope.Envelope.{Envelope}
use Rattle.mb_journal.specs.Acts.{acts}
use Rattle.mb_journal.specs.Entry.{Entry}
use Rattle.mb_journal.specs.Identity.{Identity}
use Rattle.mb_journal.specs.Accepted.{accepted, queued, is_queued, dead_letters, letter_of, to_actor}
use Rattle.mb_journal.specs.Tells.{AddressedBody, tells, tells_of_journal, told, envelopes_from}
use Rattle.mb_journal.specs.declared.sent_envelope.SentEnvelope.{SentEnvelope}

pub length-envelopes : (by n : ℕ) (ts : List AddressedBody) → length (envelopes_from by n ts) ≡ length ts
length-envelopes by n [] = refl
length-envelopes by n (t ∷ ts) = omega (arith, length-envelopes by (n + 1) ts)

pub envelopes-append : (by n : ℕ) (a b : List AddressedBody) → envelopes_from by n (a ++ b) ≡ envelopes_from by n a ++ envelopes_from by (n + length a) b
envelopes-append by n [] b = ap (λ k. envelopes_from by k b) (omega arith)
envelopes-append by n (t ∷ a) b =
    ap (λ l. record { by = record { 0 = by }; to = t.0; number = n % 2 ^ 64; body = t.1 } ∷ l) (envelopes-append by (n + 1) a b)
    ∙ ap (λ k. record { by = record { 0 = by }; to = t.0; number = n % 2 ^ 64; body = t.1 } ∷ (envelopes_from by (n + 1) a ++ envelopes_from by k b))
    (omega arith)

-- after one entry more: what was answered, and then what its acts tell, is all that the journal tells
pub told-more : (who : Identity) (before : List Entry) (e : Entry) (ps : List SentEnvelope) →
    accepted ps ++ envelopes_from who.this.0 (length ps) [] ≡ told who before →
    accepted ps ++ envelopes_from who.this.0 (length ps) (tells (acts who before e)) ≡ told who (e ∷ before)
told-more who before e ps all =
    let same : accepted ps ≡ told who before = sym (append-nil (accepted ps)) ∙ all in
    let count : length ps ≡ length (tells_of_journal who before) =
    sym (length-map ps (λ (p : SentEnvelope). p.envelope)) ∙ ap length same ∙ length-envelopes who.this.0 0 (tells_of_journal who before) in
    ap (λ l. l ++ envelopes_from who.this.0 (length ps) (tells (acts who before e))) same
    ∙ ap (λ k. told who before ++ envelopes_from who.this.0 k (tells (acts who before e))) (count ∙ omega arith)
    ∙ sym (envelopes-append who.this.0 0 (tells_of_journal who before) (tells (acts who before e)))

abbrev pub posting : Envelope → Option DeadLetterReason → SentEnvelope
posting e refused = record { envelope = e; refused = refused }

pub accepted-more : (ps : List SentEnvelope) (e : Envelope) (refused : Option DeadLetterReason) → accepted (ps ++ posting e refused ∷ []) ≡ accepted ps ++ e ∷ []
accepted-more ps e refused = map-append (λ (p : SentEnvelope). p.envelope) ps (posting e refused ∷ [])

-- what was answered grows by the envelope that is told next
pub told-one : (all : List Envelope) (ps : List SentEnvelope) (e : Envelope) (refused : Option DeadLetterReason) (by : ℕ) (t : AddressedBody) (ts : List AddressedBody) →
    e ≡ record { by = record { 0 = by }; to = t.0; number = length ps % 2 ^ 64; body = t.1 } →
    accepted ps ++ envelopes_from by (length ps) (t ∷ ts) ≡ all →
    accepted (ps ++ posting e refused ∷ []) ++ envelopes_from by (length (ps ++ posting e refused ∷ [])) ts ≡ all
told-one all ps e refused by t ts is before =
    ap (λ l. l ++ envelopes_from by (length (ps ++ posting e refused ∷ [])) ts) (accepted-more ps e refused)
    ∙ ap (λ k. (accepted ps ++ e ∷ []) ++ envelopes_from by k ts) (length-append ps (posting e refused ∷ []) ∙ omega arith)
    ∙ append_assoc (accepted ps) (e ∷ []) (envelopes_from by (length ps + 1) ts)
    ∙ ap (λ (x : Envelope). accepted ps ++ x ∷ envelopes_from by (length ps + 1) ts) is
    ∙ before

pub queued-more : (ps : List SentEnvelope) (e : Envelope) → queued (ps ++ posting e None ∷ []) ≡ queued ps ++ e ∷ []
queued-more ps e =
    ap (map (λ (p : SentEnvelope). p.envelope)) (filter-append is_queued ps (posting e None ∷ []))
    ∙ map-append (λ (p : SentEnvelope). p.envelope) (filter is_queued ps) (posting e None ∷ [])

pub queued-same : (ps : List SentEnvelope) (e : Envelope) (why : DeadLetterReason) → queued (ps ++ posting e (Some why) ∷ []) ≡ queued ps
queued-same ps e why =
    ap (map (λ (p : SentEnvelope). p.envelope)) (filter-append is_queued ps (posting e (Some why) ∷ []) ∙ append-nil (filter is_queued ps))

pub dead-same : (ps : List SentEnvelope) (e : Envelope) → dead_letters (ps ++ posting e None ∷ []) ≡ dead_letters ps
dead-same ps e = flat_map-append letter_of ps (posting e None ∷ []) ∙ append-nil (dead_letters ps)

pub dead-more : (ps : List SentEnvelope) (e : Envelope) (why : DeadLetterReason) →
    dead_letters (ps ++ posting e (Some why) ∷ []) ≡ dead_letters ps ++ record { envelope = e; why = why } ∷ []
dead-more ps e why = flat_map-append letter_of ps (posting e (Some why) ∷ [])

-- one more to this receiver, or to another
pub to-more : (to : ℕ) (es : List Envelope) (e : Envelope) → (e.to.0 == to) ≡ true → to_actor to (es ++ e ∷ []) ≡ to_actor to es ++ e ∷ []
to-more to es e is =
    filter-append (λ (x : Envelope). x.to.0 == to) es (e ∷ []) ∙ ap (λ b. to_actor to es ++ cond b (e ∷ []) []) is

pub to-same : (to : ℕ) (es : List Envelope) (e : Envelope) → (e.to.0 == to) ≡ false → to_actor to (es ++ e ∷ []) ≡ to_actor to es
to-same to es e is =
    filter-append (λ (x : Envelope). x.to.0 == to) es (e ∷ [])
    ∙ ap (λ b. to_actor to es ++ cond b (e ∷ []) []) is
    ∙ append-nil (to_actor to es)
