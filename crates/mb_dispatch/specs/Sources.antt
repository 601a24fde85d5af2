-- What senders sent whose orders came from sources (this project's own profile: in Akka whoever has a reference sends).
use Rattle.std.specs.Prelude.{◌≡◌, ◌⊎◌, ℕ, ◌-◌, List, Option}
use Rattle.std.specs.Global.{Box}
use Rattle.std.specs.List.{AllZip}
use Rattle.mb_actor.specs.Behaviour.{Moment, Reply}
use Rattle.mb_gate.specs.Accessors.{actors_of, pass_view}
use Rattle.mb_gate.specs.declared.gates.Gates.{Gates}
use Rattle.mb_home.specs.Contents.{Contents}
use Rattle.mb_msg.specs.declared.order.Order.{Order}
use Rattle.mb_source.specs.Given.{Gave, GaveAll, given_since, sendable}
use Rattle.mb_source.specs.RecordedSource.{RecordedSource}
use Rattle.mb_system.specs.Members.{IsSenderOf, OutsideSender, sender_caller}
use Rattle.mb_system.specs.Obligations.{KeepsObligations, OwesNobody}
use Rattle.mb_system.specs.declared.handle.WorkerHandle.{WorkerHandle}
use Rattle.mb_system.specs.declared.failure.RunError.{RunError}
use Rattle.mb_system.specs.declared.system.System.{System}
use Rattle.mb_dispatch.specs.Claims.{SenderLosesNoClaim}
use Rattle.mb_dispatch.specs.Faults.{BreaksSending, BreaksWork, HasWorked}
use Rattle.mb_dispatch.specs.Orders.{HasSent, HasSentSome}
use Rattle.mb_dispatch.specs.Parallel.{FirstZip}

-- How many actors there are beside the guardian.
abbrev pub others_of : Gates (Box Contents) → ℕ
others_of gates = actors_of gates - 1

-- The orders that the source gave between these two times, and that can go to an actor.
abbrev pub orders_since : {S : Type 0} → Gates (Box Contents) → RecordedSource S → RecordedSource S → List Order
orders_since gates old new = sendable (others_of gates) (given_since old new)

module _ {S : Type 0} (gates : Gates (Box Contents)) where
  -- The sender of a pair is of the gates.
  abbrev pub IsPairOf : OutsideSender × RecordedSource S → Type 0
  IsPairOf both = IsSenderOf gates both.0

  -- Sending what the source gave was broken off for this reason.
  abbrev pub BreaksPair : OutsideSender × RecordedSource S → OutsideSender × RecordedSource S → RunError → Type 0
  BreaksPair old new = BreaksSending gates (orders_since gates old.1 new.1)

module _ {S : Type 0} (gates : Gates (Box Contents)) (gives : S → Option Order → S → Type 0) (takes_back : S → Order → S → Type 0) where
  -- The sender is the same as before, and carried out what its source gave and can go to an actor, all of it or up to where it stopped, and
  -- nothing else. No claim was lost.
  pub record KeepsPair (old new : OutsideSender × RecordedSource S) : Type 0 where
    pub same_gates : IsPairOf gates new
    pub by : new.0.send_log.by ≡ old.0.send_log.by
    pub gave : Gave gives takes_back (others_of gates) old.1 new.1
    pub sent : HasSentSome (orders_since gates old.1 new.1) old.0 new.0
    pub claims : SenderLosesNoClaim old.0 new.0

  -- The source gave all that it had, and the sender carried out what can go to an actor. It forgot nothing that it owed, and owes nobody a look.
  pub record IsPairDone (old new : OutsideSender × RecordedSource S) : Type 0 where
    pub gave : GaveAll gives takes_back (others_of gates) old.1 new.1
    pub sent : HasSent (orders_since gates old.1 new.1) old.0 new.0
    pub nobody : OwesNobody gates new.0
    pub obligations : KeepsObligations (actors_of gates) (sender_caller old.0.registrar) (sender_caller new.0.registrar)

module _ {A K S : Type 0} (gates : Gates (Box Contents)) (gives : S → Option Order → S → Type 0) (takes_back : S → Order → S → Type 0) where
  -- A run by these handles of the system, beside senders with their sources, each given before and after it, is broken off for this reason: that of
  -- the first handle that was broken off, or, if all have worked to their end, that of the first sender that was.
  abbrev pub BreaksRunFrom : (ℕ → Moment → Reply → Type 0) → System A K → List (WorkerHandle A K) → List (WorkerHandle A K)
      → List (OutsideSender × RecordedSource S) → List (OutsideSender × RecordedSource S) → RunError → Type 0
  BreaksRunFrom behaviours system old new before after error =
      FirstZip (λ o n. HasWorked behaviours system (pass_view o.registrar.pass) n)
      (λ o n. BreaksWork behaviours system (pass_view o.registrar.pass) n error) old new
      ⊎ (AllZip (λ o n. HasWorked behaviours system (pass_view o.registrar.pass) n) old new
      × FirstZip (IsPairDone gates gives takes_back) (λ o n. BreaksPair gates o n error) before after)
