-- What it leaves of a system that its senders send all that they are to send, and its handles run what that leaves to run (this project's own profile:
-- Akka's systems do not end by themselves).
use Rattle.std.specs.Prelude.{◌≡◌, ℕ, List}
use Rattle.mb_actor.specs.Behaviour.{Moment, Reply}
use Rattle.mb_gate.specs.Untouched.{origin_of}
use Rattle.mb_msg.specs.declared.order.Order.{Order}
use Rattle.mb_system.specs.Belonging.{BelongsTogether}
use Rattle.mb_system.specs.Members.{AreHandlesOf, StillSee, handle_numbers}
use Rattle.mb_system.specs.declared.built.Built.{Built}
use Rattle.heddleorange.specs.Sent.{HaveSent}
use Rattle.heddleorange.specs.Workers.{AllOnlyRuns}

module _ {A K : Type 0} where
  -- However that ends, the system is the same, and it has the same handles by their numbers, all of its gates.
  pub record IsSameSystem (old new : Built A K) : Type 0 where
    pub system : new.system ≡ old.system
    pub handles : handle_numbers new.handles.items ≡ handle_numbers old.handles.items
    pub same_gates : AreHandlesOf old.system.gates new.handles.items

  -- Where that ends well, all handles and senders belong together still. Each sender carried out the orders of its place. The handles forgot nothing that
  -- they saw, and only made runs of mailboxes of this system.
  pub record HasSentAndRun (gives : ℕ → Moment → Reply → Type 0) (orders : List (List Order)) (old new : Built A K) : Type 0 where
    pub together : BelongsTogether new
    pub sent : HaveSent old.system.gates orders old.senders.items new.senders.items
    pub log_kept : StillSee old.handles.items new.handles.items
    pub runs : AllOnlyRuns gives (origin_of old.system.gates) old.system.throughput old.handles.items new.handles.items
