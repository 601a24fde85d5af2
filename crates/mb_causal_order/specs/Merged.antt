-- One order of the entries of all journals that agrees with what caused what. An order is a list of places, here with the LAST FIRST: what
-- is behind a place in the list stands before it.
use Rattle.std.specs.Prelude.{◌≡◌, ℕ, ◌+◌, ◌<◌, ◌≤◌, Bool, List, [], ◌∷◌, length, slice_get, Some, ⊤}
use Rattle.mb_msg.specs.declared.envelope.Envelope.{Envelope}
use Rattle.mb_msg.specs.declared.order.SenderOrder.{SenderOrder}
use Rattle.mb_msg.specs.declared.system.SysMsg.{SysMsg}
use Rattle.mb_msg.specs.declared.system.SysMsg.TheVariants as system
use Rattle.mb_journal.specs.Entry.{Entry}
use Rattle.mb_journal.specs.Entry.Entry.{Handled, System, Dropped}
use Rattle.mb_journal.specs.Identity.{Identity}
use Rattle.mb_report.specs.declared.report.ActorReport.{ActorReport}
use Rattle.mb_causal_order.specs.Places.{earliest, entry_at, journal_of, entries_placed}
use Rattle.mb_causal_order.specs.Sent.{sent}
use Rattle.mb_causal_order.specs.SystemMessages.{HasAnswered, messages_come, messages_sent, sent_from_outside}
use Rattle.mb_causal_order.specs.declared.place.Place.{Place}

-- where the sender of the envelope is an actor, the entry by which it sent it is one of those that stand before: they send more envelopes
-- than its number, which counts from 0
abbrev pub IsSentBefore : List Identity → List ActorReport → List Place → Envelope → Type 0
IsSentBefore who actors before envelope =
    envelope.by.0 < length actors
    → envelope.number < sent (slice_get who envelope.by.0) (earliest (entries_placed envelope.by.0 before) (journal_of actors envelope.by.0))

-- where the message tells of the end of an actor, all entries of that actor stand before
abbrev pub IsEndedBefore : List ActorReport → List Place → SysMsg → Type 0
IsEndedBefore actors before (system.Died x) = x.0 < length actors → entries_placed x.0 before ≡ length (journal_of actors x.0)
IsEndedBefore actors before _ = ⊤

-- what caused the entry stands before it: an envelope was sent, and an actor that died has ended
abbrev pub IsCaused : List Identity → List ActorReport → List Place → Entry → Type 0
IsCaused who actors before (Handled envelope reading outcome) = IsSentBefore who actors before envelope
IsCaused who actors before (System number message outcome) = IsEndedBefore actors before message
IsCaused who actors before (Dropped envelope) = IsSentBefore who actors before envelope

-- the place may come after those before it: it is that of the actor's next entry, and what caused the entry stands before. Of the system
-- messages that pass a test, whatever the test, no more have come than the entries before and senders outside have sent; with a Died the test is
-- passed by what it may answer. `who` are the actors, and `orders` is what senders outside were to send
pub record IsNext (who : List Identity) (orders : List SenderOrder) (actors : List ActorReport) (before : List Place) (p : Place) : Type 0 where
  pub next : p.index ≡ entries_placed p.actor before
  pub caused : (e : Entry) → entry_at actors p ≡ Some e → IsCaused who actors before e
  pub sent : (test : ℕ → SysMsg → Bool) → HasAnswered who test
      → messages_come actors test (p ∷ before) ≤ messages_sent who actors test before + sent_from_outside orders test

-- each place may come after those before it
unfoldable pub AreInOrder : List Identity → List SenderOrder → List ActorReport → List Place → Type 0
AreInOrder who orders actors [] = ⊤
AreInOrder who orders actors (p ∷ before) = IsNext who orders actors before p × AreInOrder who orders actors before

-- an order of all entries in which each journal's order is kept and causes come first
pub record IsMerged (who : List Identity) (orders : List SenderOrder) (actors : List ActorReport) (order : List Place) : Type 0 where
  pub in_order : AreInOrder who orders actors order
  pub all : (a : ℕ) → entries_placed a order ≡ length (journal_of actors a)
