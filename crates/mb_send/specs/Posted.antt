-- What a sender's log holds.
use Rattle.std.specs.Prelude.{ℕ, ◌+◌, List, [], ◌∷◌, map, Option}
use Rattle.mb_msg.specs.declared.envelope.Envelope.{Envelope}
use Rattle.mb_msg.specs.declared.dead_letter.DeadLetterReason.{DeadLetterReason}
use Rattle.mb_msg.specs.declared.envelope.Body.{Body}
use Rattle.mb_msg.specs.declared.id.ActorId.{ActorId}
use Rattle.mb_msg.specs.declared.id.SenderId.{SenderId}
use Rattle.mb_journal.specs.declared.sent_envelope.SentEnvelope.{SentEnvelope}

-- The envelope of this sender, receiver, number and body.
abbrev pub envelope_of : SenderId → ActorId → ℕ → Body → Envelope
envelope_of by to number body = record { by = by; to = to; number = number; body = body }

-- An envelope with what the sender was answered for it.
abbrev pub posting : Envelope → Option DeadLetterReason → SentEnvelope
posting envelope refused = record { envelope = envelope; refused = refused }

-- The names of envelopes: the sender's number and their own.
abbrev pub names_of : List Envelope → List (ℕ × ℕ)
names_of = map (λ (e : Envelope). (e.by.0, e.number))

-- The names of as many envelopes of this sender, numbered one after another from this number on.
abbrev pub names_from : ℕ → ℕ → List Envelope → List (ℕ × ℕ)
names_from by number [] = []
names_from by number (e ∷ es) = (by, number) ∷ names_from by (number + 1) es
