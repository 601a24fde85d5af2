-- What an actor sends: the envelopes of the acts of its journal, in order.
use Rattle.std.specs.Prelude.{ℕ, ◌+◌, ◌%◌, ◌^◌, List, [], ◌∷◌, ◌++◌}
use Rattle.mb_msg.specs.declared.envelope.Body.{Body}
use Rattle.mb_msg.specs.declared.envelope.Envelope.{Envelope}
use Rattle.mb_msg.specs.declared.id.ActorId.{ActorId}
use Rattle.mb_journal.specs.Acts.{Act, Tell, Sys, SuspendSelf, ResumeSelf, CloseSelf, acts}
use Rattle.mb_journal.specs.Entry.{Entry}
use Rattle.mb_journal.specs.Identity.{Identity}

-- an envelope to send: to whom, and its body
abbrev pub AddressedBody : Type 0
AddressedBody = ActorId × Body

-- the tells among acts
abbrev pub tells : List Act → List AddressedBody
tells [] = []
tells (Tell to body ∷ rest) = (to, body) ∷ tells rest
tells (Sys to message ∷ rest) = tells rest
tells (SuspendSelf ∷ rest) = tells rest
tells (ResumeSelf ∷ rest) = tells rest
tells (CloseSelf ∷ rest) = tells rest

-- all that an actor with this journal sent, the earliest first
abbrev pub tells_of_journal : Identity → List Entry → List AddressedBody
tells_of_journal who [] = []
tells_of_journal who (e ∷ before) = tells_of_journal who before ++ tells (acts who before e)

-- these as envelopes by this sender, numbered from this number on, modulo 2^64
abbrev pub envelopes_from : ℕ → ℕ → List AddressedBody → List Envelope
envelopes_from by number [] = []
envelopes_from by number (t ∷ ts) =
    record { by = record { 0 = by }; to = t.0; number = number % 2 ^ 64; body = t.1 } ∷ envelopes_from by (number + 1) ts

-- the envelopes that an actor with this journal sent: an actor's number as a sender is its own
abbrev pub told : Identity → List Entry → List Envelope
told who journal = envelopes_from who.this.0 0 (tells_of_journal who journal)
