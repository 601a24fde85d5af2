-- All that the senders were to send, and the run after it.
use Rattle.std.specs.Prelude.{◌≡◌, ℕ, List, ◌∷◌, Some, length, slice_get}
use Rattle.std.specs.Global.{Box}
use Rattle.mb_actor.specs.Behaviour.{Moment, Reply}
use Rattle.mb_gate.specs.Accessors.{actors_of}
use Rattle.mb_gate.specs.declared.gates.Gates.{Gates}
use Rattle.mb_home.specs.Contents.{Contents}
use Rattle.mb_register.specs.ActorSet.{IsNobody}
use Rattle.mb_system.specs.Obligations.{KeepsObligations, HasNoObligationTo, OwesNobody}
use Rattle.mb_system.specs.Members.{OutsideSender, handle_caller, sender_caller}
use Rattle.mb_dispatch.specs.Found.{FoundPoolEmpty}
use Rattle.mb_dispatch.specs.Orders.{HasSent}
use Rattle.mb_system.specs.declared.handle.WorkerHandle.{WorkerHandle}
use Rattle.mb_msg.specs.declared.order.Order.{Order}

-- The sender carried out all of these orders, forgot nothing that it owed, and owes nobody a look.
abbrev pub HasSentAndRetried : Gates (Box Contents) → List Order → OutsideSender → OutsideSender → Type 0
HasSentAndRetried gates orders old new = HasSent orders old new × OwesNobody gates new
    × KeepsObligations (actors_of gates) (sender_caller old.registrar) (sender_caller new.registrar)

-- Each of these senders carried out all that was ordered at its place.
pub record HaveSent (gates : Gates (Box Contents)) (orders : List (List Order)) (old new : List OutsideSender) : Type 0 where
  pub same_count : length new ≡ length old
  pub each : (place : ℕ) (of : List Order) (before after : OutsideSender) → slice_get orders place ≡ Some of → slice_get old place ≡ Some before
      → slice_get new place ≡ Some after → HasSentAndRetried gates of before after

module _ {A K : Type 0} where
  -- The first of these handles owes nobody a look, and no actor anything. At its last take it kept no claim, and each place of the pool in which it looks
  -- was empty at some moment.
  pub record FoundNothing (gives : ℕ → Moment → Reply → Type 0) (gates : Gates (Box Contents)) (handles : List (WorkerHandle A K)) : Type 0 where
    pub first : WorkerHandle A K
    pub rest : List (WorkerHandle A K)
    pub are : handles ≡ (first ∷ rest)
    pub nobody : IsNobody first.registrar.owed
    pub settled : HasNoObligationTo (actors_of gates) (handle_caller first.registrar)
    pub empty : FoundPoolEmpty gives first
