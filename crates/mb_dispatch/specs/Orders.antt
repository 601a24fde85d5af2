-- What a sender is to send, and what it sent.
use Rattle.std.specs.Prelude.{◌≡◌, ◌⊎◌, ℕ, zero, suc, ◌+◌, ◌<◌, List, [], ◌∷◌, ◌++◌, length, map, reverse}
use Rattle.mb_msg.specs.Payload.{body_of}
use Rattle.mb_msg.specs.declared.envelope.Body.{Body}
use Rattle.mb_msg.specs.declared.envelope.Envelope.{Envelope}
use Rattle.mb_msg.specs.declared.id.ActorId.{ActorId}
use Rattle.mb_msg.specs.declared.system.SysMsg.{SysMsg}
use Rattle.mb_msg.specs.declared.system.SysMsg.TheVariants.{Terminate}
use Rattle.mb_journal.specs.declared.sent_envelope.SentEnvelope.{SentEnvelope}
use Rattle.mb_journal.specs.Accepted.{accepted, queued, to_actor}
use Rattle.mb_msg.specs.declared.order.Order.{Order}
use Rattle.mb_msg.specs.declared.order.OrderKind.{OrderKind}
use Rattle.mb_msg.specs.declared.order.OrderKind.TheVariants.{Tell, Stop}
use Rattle.mb_gate.specs.Accessors.{pass_view}
use Rattle.mb_gate.specs.Rule.{IsPart}
use Rattle.mb_gate.specs.View.{SentSystem, View}
use Rattle.mb_gate.specs.Waiting.{off_by, on_by}
use Rattle.mb_mailbox.specs.RunSends.{FindsEndedAsSent, PutsAsSent}
use Rattle.mb_register.specs.Views.{GivesBackUnchanged}
use Rattle.mb_system.specs.Members.{OutsideSender}

-- the order to send this to that actor, so many times
abbrev pub order_for : ActorId → OrderKind → ℕ → Order
order_for to what times = record { to = to; what = what; times = times }

-- a list so many times over
abbrev pub over : {T : Type 0} → ℕ → List T → List T
over zero xs = []
over (suc n) xs = xs ++ over n xs

-- The envelope that this is, if it is one: its receiver and its body.
abbrev pub envelopes_of_one : ActorId → OrderKind → List (ActorId × Body)
envelopes_of_one to (Tell payload) = (to, body_of payload) ∷ []
envelopes_of_one to Stop = []

-- All envelopes of these orders, in order: each receiver with the body.
abbrev pub envelopes_of : List Order → List (ActorId × Body)
envelopes_of [] = []
envelopes_of (o ∷ orders) = over o.times (envelopes_of_one o.to o.what) ++ envelopes_of orders

-- The Terminate that this is, if it is one, with its receiver.
abbrev pub terminates_of_one : ActorId → OrderKind → List (ℕ × SysMsg)
terminates_of_one to (Tell payload) = []
terminates_of_one to Stop = (to.0, Terminate) ∷ []

-- The Terminates of these orders, in order, each with its receiver.
abbrev pub terminates_of : List Order → List (ℕ × SysMsg)
terminates_of [] = []
terminates_of (o ∷ orders) = over o.times (terminates_of_one o.to o.what) ++ terminates_of orders

-- The receiver and the body of each of these envelopes.
abbrev pub addressed : List Envelope → List (ActorId × Body)
addressed = map (λ (e : Envelope). (e.to, e.body))

-- The receiver and the message of each of these system messages.
abbrev pub addressed_system : List SentSystem → List (ℕ × SysMsg)
addressed_system = map (λ (s : SentSystem). (s.to, s.message))

-- Between these views a pass counted as waiting, of each actor, as many envelopes as it was answered "queued" for among these: what it counted beside
-- them it took back.
abbrev pub CountsQueued : List SentEnvelope → View → View → Type 0
CountsQueued postings old new = (actor : ℕ)
    → on_by actor new + off_by actor old ≡ on_by actor old + off_by actor new + length (to_actor actor (queued postings))

-- The sender was answered for the envelopes of these orders, in order, after all that it was answered for before, and for nothing else. It counted
-- as waiting those of them that were queued, and nothing else. It sent their Terminates, or found the list ended, in order, and sent no other system
-- message; these stand newest first. What it put into lists is what it sent so, and each that found its list ended is noted. It still knows what it saw
-- before, kept its share, and gave each cell back as it was taken. Of its dead letters it keeps what it kept before: all, or as many of the newest.
pub record HasSent (orders : List Order) (old new : OutsideSender) : Type 0 where
  pub by : new.send_log.by ≡ old.send_log.by
  pub keep_letters : new.send_log.dead.retention ≡ old.send_log.dead.retention
  pub more : List SentEnvelope
  pub posted : new.send_log.posted ≡ old.send_log.posted ++ more
  pub accepted_are : addressed (accepted more) ≡ envelopes_of orders
  pub counted : CountsQueued more (pass_view old.registrar.pass) (pass_view new.registrar.pass)
  pub system_sent : addressed_system (pass_view new.registrar.pass).sent_system ≡ reverse (terminates_of orders) ++ addressed_system (pass_view old.registrar.pass).sent_system
  pub put : PutsAsSent (pass_view old.registrar.pass) (pass_view new.registrar.pass)
  pub refused : FindsEndedAsSent (pass_view old.registrar.pass) (pass_view new.registrar.pass)
  pub log_kept : IsPart (pass_view old.registrar.pass).log (pass_view new.registrar.pass).log
  pub share : (pass_view new.registrar.pass).share ≡ (pass_view old.registrar.pass).share
  pub gives_back : GivesBackUnchanged (pass_view old.registrar.pass) (pass_view new.registrar.pass)

-- The sender carried out these orders, one after another, and then this one fewer times than it says, and nothing else.
pub record HasSentUpTo (done : List Order) (next : Order) (old new : OutsideSender) : Type 0 where
  pub times : ℕ
  pub fewer : times < next.times
  pub sent : HasSent (done ++ order_for next.to next.what times ∷ []) old new

-- The sender stopped at one of these orders: it carried out those before it, and this one fewer times than it says, and nothing else.
pub record StopsWithin (orders : List Order) (old new : OutsideSender) : Type 0 where
  pub done : List Order
  pub next : Order
  pub left : List Order
  pub are : orders ≡ done ++ next ∷ left
  pub sent : HasSentUpTo done next old new

-- The sender carried out all of these orders, or stopped at one of them.
abbrev pub HasSentSome : List Order → OutsideSender → OutsideSender → Type 0
HasSentSome orders old new = HasSent orders old new ⊎ StopsWithin orders old new
