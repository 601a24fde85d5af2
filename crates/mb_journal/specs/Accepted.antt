-- What a sender was answered for the envelopes that it sent, to all receivers, in the order of their numbers (this
-- project's own profile: Akka answers a sender nothing).
use Rattle.std.specs.Prelude.{◌≡◌, ℕ, ◌+◌, ◌==◌, ◌&&◌, ◌||◌, Bool, false, not, List, [], ◌∷◌, map, filter, is_none, Option, Some, None}
use Rattle.std.specs.List.{flat_map}
use Rattle.mb_msg.specs.declared.envelope.Envelope.{Envelope}
use Rattle.mb_msg.specs.declared.dead_letter.DeadLetterReason.{DeadLetterReason}
use Rattle.mb_msg.specs.declared.dead_letter.DeadLetter.{DeadLetter}
use Rattle.mb_journal.specs.declared.sent_envelope.SentEnvelope.{SentEnvelope}

-- the accepted envelopes: those that it was given an answer for, queued or dead
abbrev pub accepted : List SentEnvelope → List Envelope
accepted = map (λ (p : SentEnvelope). p.envelope)

-- it was queued, and is no dead letter
abbrev pub is_queued : SentEnvelope → Bool
is_queued p = is_none p.refused

-- those that were queued
abbrev pub queued : List SentEnvelope → List Envelope
queued postings = map (λ (p : SentEnvelope). p.envelope) (filter is_queued postings)

-- the dead letter of an envelope, if it is one
abbrev pub letters : Envelope → Option DeadLetterReason → List DeadLetter
letters e None = []
letters e (Some why) = record { envelope = e; why = why } ∷ []

-- the dead letter of an envelope that was sent, if it is one
abbrev pub letter_of : SentEnvelope → List DeadLetter
letter_of p = letters p.envelope p.refused

-- those that are dead letters, each with its reason
abbrev pub dead_letters : List SentEnvelope → List DeadLetter
dead_letters = flat_map letter_of

-- the envelopes of dead letters
abbrev pub envelopes_of : List DeadLetter → List Envelope
envelopes_of = map (λ (d : DeadLetter). d.envelope)

-- those to the actor of this number
abbrev pub to_actor : ℕ → List Envelope → List Envelope
to_actor to = filter (λ e. e.to.0 == to)

-- the two have the same sender and number, which name an envelope
abbrev pub is_same_name : Envelope → Envelope → Bool
is_same_name e x = (x.by.0 == e.by.0) && (x.number == e.number)

-- the envelopes are by this sender, and their numbers count up from this one
abbrev pub NumbersCountUpFrom : ℕ → ℕ → List Envelope → Type 0
NumbersCountUpFrom by number [] = Unit {0}
NumbersCountUpFrom by number (e ∷ es) = (e.by.0 ≡ by) × (e.number ≡ number) × NumbersCountUpFrom by (number + 1) es

-- those of one sender, in their order
abbrev pub sent_by : ℕ → List Envelope → List Envelope
sent_by by = filter (λ e. e.by.0 == by)

-- whether one of these has the name of the envelope
abbrev pub has_name : List Envelope → Envelope → Bool
has_name [] e = false
has_name (x ∷ xs) e = is_same_name x e || has_name xs e

-- the second list without the envelopes that are named in the first
abbrev pub without_named : List Envelope → List Envelope → List Envelope
without_named gone = filter (λ e. not (has_name gone e))
