-- The sender's order in a control-aware mailbox (`akka.dispatch.UnboundedControlAwareMailbox`), which has two parts: control messages, and all
-- others.
use Rattle.std.specs.Prelude.{◌≡◌, ℕ, List, ◌++◌}
use Rattle.mb_msg.specs.declared.envelope.Envelope.{Envelope}
use Rattle.mb_queue.specs.Parts.{controls, others}
use Rattle.mb_journal.specs.Accepted.{accepted, dead_letters, envelopes_of, sent_by, to_actor, without_named}
use Rattle.mb_journal.specs.declared.sent_envelope.SentEnvelope.{SentEnvelope}

-- The sender's order within one part: its envelopes of the part among the receiver's are those of the part that it was answered for, without the dead
-- letters among these, in the same order.
abbrev pub IsPartInOrder : (List Envelope → List Envelope) → ℕ → ℕ → List SentEnvelope → List Envelope → Type 0
IsPartInOrder part by to postings fates =
    sent_by by (part fates) ≡ part (to_actor to (without_named (envelopes_of (dead_letters postings)) (accepted postings)))

-- The sender's order holds within each of the two parts.
abbrev pub ArePartsInOrder : ℕ → ℕ → List SentEnvelope → List Envelope → Type 0
ArePartsInOrder by to postings fates = IsPartInOrder controls by to postings fates × IsPartInOrder others by to postings fates

-- Control messages stand before all others.
abbrev pub IsControlsFirst : List Envelope → Type 0
IsControlsFirst envelopes = envelopes ≡ controls envelopes ++ others envelopes
