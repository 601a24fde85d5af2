-- Which system messages were sent, and which came, by an order of the entries. Messages are told apart by a test of the receiver's number and the
-- message.
use Rattle.std.specs.Prelude.{◌≡◌, ℕ, ◌+◌, ◌==◌, Bool, true, false, ◌&&◌, if◌then◌else◌, List, count_by, sum_by, slice_get, Option, Some}
use Rattle.mb_msg.specs.declared.id.ActorId.{ActorId}
use Rattle.mb_msg.specs.declared.order.OrderKind.{OrderKind}
use Rattle.mb_msg.specs.declared.order.OrderKind.TheVariants as kind
use Rattle.mb_msg.specs.declared.order.SenderOrder.{SenderOrder}
use Rattle.mb_msg.specs.declared.system.SysMsg.{SysMsg}
use Rattle.mb_msg.specs.declared.system.SysMsg.TheVariants as system
use Rattle.mb_journal.specs.Acts.{Act}
use Rattle.mb_journal.specs.Acts.Act.{Sys}
use Rattle.mb_journal.specs.Aside.{next_number}
use Rattle.mb_journal.specs.Entry.{Entry}
use Rattle.mb_journal.specs.Entry.Entry.{System}
use Rattle.mb_journal.specs.Identity.{Identity}
use Rattle.mb_report.specs.declared.report.ActorReport.{ActorReport}
use Rattle.mb_causal_order.specs.Places.{earliest, entry_at, journal_of}
use Rattle.mb_causal_order.specs.Sent.{acts_at}
use Rattle.mb_causal_order.specs.declared.place.Place.{Place}

-- the act sends a system message that passes the test
abbrev pub sends : (ℕ → SysMsg → Bool) → Act → Bool
sends test (Sys x message) = test x.0 message
sends test _ = false

-- how many such messages the entries at these places send
abbrev pub messages_sent : List Identity → List ActorReport → (ℕ → SysMsg → Bool) → List Place → ℕ
messages_sent who actors test order = sum_by (λ p. count_by (sends test) (acts_at who actors p)) order

abbrev pub is_stop : OrderKind → Bool
is_stop kind.Stop = true
is_stop _ = false

-- how many such messages a sender outside sends by this order: it can send a Terminate alone
abbrev pub stops : (ℕ → SysMsg → Bool) → SenderOrder → ℕ
stops test o = if is_stop o.order.what && test o.order.to.0 system.Terminate then o.order.times else 0

-- how many such messages no entry sends: those of senders outside, and the Create of the guardian, whose number is 0
abbrev pub sent_from_outside : List SenderOrder → (ℕ → SysMsg → Bool) → ℕ
sent_from_outside orders test = sum_by (stops test) orders + (if test 0 system.Create then 1 else 0)

-- the entry is of a system message that passes the test and is new: its number is the next. One that was set aside before is not new
abbrev pub is_of_new : (SysMsg → Bool) → List Entry → Option Entry → Bool
is_of_new test before (Some (System number message outcome)) = (number == next_number before) && test message
is_of_new test before _ = false

-- by the entry at a place such a message comes
abbrev pub comes : List ActorReport → (ℕ → SysMsg → Bool) → Place → Bool
comes actors test p = is_of_new (test p.actor) (earliest p.index (journal_of actors p.actor)) (entry_at actors p)

-- how many such messages came by the entries at these places
abbrev pub messages_come : List ActorReport → (ℕ → SysMsg → Bool) → List Place → ℕ
messages_come actors test order = count_by (comes actors test) order

-- Whoever has ended answers a Watch that comes too late by a Died to the watcher, and a Create by a Died to the parent. So a test that is passed by the
-- Died of x to a is passed by the Watch of a to x, and, if a is the parent of x, by the Create of x too
pub record HasAnswered (who : List Identity) (test : ℕ → SysMsg → Bool) : Type 0 where
  pub watch : (a x : ActorId) → test a.0 (system.Died x) ≡ true → test x.0 (system.Watch a) ≡ true
  pub create : (a x : ActorId) (child : Identity) → slice_get who x.0 ≡ Some child → child.parent ≡ Some a → test a.0 (system.Died x) ≡ true
      → test x.0 system.Create ≡ true

-- the second test is passed by each message that passes the first, and by each Died that may answer one that does
pub record Covers (who : List Identity) (test covering : ℕ → SysMsg → Bool) : Type 0 where
  pub same : (to : ℕ) (m : SysMsg) → test to m ≡ true → covering to m ≡ true
  pub watch : (a x : ActorId) → test x.0 (system.Watch a) ≡ true → covering a.0 (system.Died x) ≡ true
  pub create : (a x : ActorId) (child : Identity) → slice_get who x.0 ≡ Some child → child.parent ≡ Some a → test x.0 system.Create ≡ true
      → covering a.0 (system.Died x) ≡ true
