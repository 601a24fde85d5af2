-- What holds of one sender and one receiver at the end.
use Rattle.std.specs.Prelude.{◌≡◌, ℕ, ◌+◌, Bool, List, count_by, Contains}
use Rattle.mb_msg.specs.declared.envelope.Envelope.{Envelope}
use Rattle.mb_journal.specs.declared.sent_envelope.SentEnvelope.{SentEnvelope}
use Rattle.mb_journal.specs.Accepted.{accepted, queued, dead_letters, envelopes_of, to_actor, sent_by, is_same_name, without_named}

-- the sender's envelopes among the receiver's fates are those that were queued to it, each as often
abbrev pub QueuedMatchFates : ℕ → ℕ → List SentEnvelope → List Envelope → Type 0
QueuedMatchFates by to postings fates = (test : Envelope → Bool) →
    count_by test (to_actor to (queued postings)) ≡ count_by test (sent_by by fates)

-- and in the sender's order
abbrev pub QueuedInFateOrder : ℕ → ℕ → List SentEnvelope → List Envelope → Type 0
QueuedInFateOrder by to postings fates = to_actor to (queued postings) ≡ sent_by by fates

-- The sender's order: its envelopes among the receiver's fates are its accepted envelopes, in order, without the dead
-- letters among these.
abbrev pub FatesInSendOrder : ℕ → ℕ → List SentEnvelope → List Envelope → Type 0
FatesInSendOrder by to postings fates =
    sent_by by fates ≡ to_actor to (without_named (envelopes_of (dead_letters postings)) (accepted postings))

-- Each envelope to this receiver is among its fates or the sender's dead letters as often as it was accepted, and no other
-- envelope of this sender is.
abbrev pub AcceptedMatchFates : ℕ → ℕ → List SentEnvelope → List Envelope → Type 0
AcceptedMatchFates by to postings fates = (test : Envelope → Bool) →
    count_by test (to_actor to (accepted postings))
    ≡ count_by test (sent_by by fates) + count_by test (to_actor to (envelopes_of (dead_letters postings)))

-- Each accepted envelope to this receiver is exactly once among its fates or the sender's dead letters.
abbrev pub EachHasOneFate : ℕ → List SentEnvelope → List Envelope → Type 0
EachHasOneFate to postings fates = (e : Envelope) → Contains (accepted postings) e → e.to.0 ≡ to
    → count_by (is_same_name e) fates + count_by (is_same_name e) (to_actor to (envelopes_of (dead_letters postings))) ≡ 1
