-- What the first handle of a system tells of a quiet run (this project's own profile: Akka's dispatchers run on threads of their own).
use Rattle.std.specs.Prelude.{◌≡◌, ℕ, List, [], ◌∷◌, ◌++◌}
use Rattle.std.specs.Global.{Box}
use Rattle.mb_actor.specs.Behaviour.{Moment, Reply}
use Rattle.mb_dispatch.specs.Runs.{MadeRuns, turns_in}
use Rattle.mb_dispatch.specs.declared.turns.Turns.{Turns}
use Rattle.mb_gate.specs.Accessors.{pass_view}
use Rattle.mb_gate.specs.Untouched.{Origin, origin_of}
use Rattle.mb_home.specs.Contents.{Contents}
use Rattle.mb_mailbox.specs.declared.turn.Turn.{Turn}
use Rattle.mb_msg.specs.JournalMode.{retention_of}
use Rattle.mb_msg.specs.declared.journal_mode.JournalMode.{JournalMode}
use Rattle.mb_msg.specs.declared.order.Order.{Order}
use Rattle.mb_msg.specs.declared.plan.Plan.{Plan}
use Rattle.mb_startup.specs.Begun.{IsBegun}
use Rattle.mb_system.specs.declared.built.Built.{Built}
use Rattle.mb_system.specs.declared.handle.WorkerHandle.{WorkerHandle}
use Rattle.heddleorange.specs.Sent.{FoundNothing, HaveSent}

module _ {A K : Type 0} where
  -- The first of these handles only made runs of mailboxes of these gates, by this throughput: these turns, in order. The others did nothing.
  abbrev pub OnlyFirstMade : (ℕ → Moment → Reply → Type 0) → Origin (Box Contents) → ℕ → List (WorkerHandle A K) → List (WorkerHandle A K)
      → List Turn → Type 0
  OnlyFirstMade gives origin throughput [] new turns = ⊥
  OnlyFirstMade gives origin throughput (before ∷ others) [] turns = ⊥
  OnlyFirstMade gives origin throughput (before ∷ others) (after ∷ same) turns =
      MadeRuns gives origin throughput (pass_view before.registrar.pass) turns (pass_view after.registrar.pass) × (same ≡ others)

  -- The first handle ran what there was to run, and found nothing more. These are its turns. As many are kept as a journal of this mode keeps of its
  -- entries.
  pub record HasRunQuietly (gives : ℕ → Moment → Reply → Type 0) (keeps : JournalMode) (old new : Built A K) (turns : Turns) : Type 0 where
    pub found_nothing : FoundNothing gives old.system.gates new.handles.items
    pub made : OnlyFirstMade gives (origin_of old.system.gates) old.system.throughput old.handles.items new.handles.items (turns_in turns)
    pub kept : turns.list.retention ≡ retention_of keeps

  -- Behind the earlier turns stand those that the first handle made from the old system to the new one. As many are kept as of the earlier.
  pub record AddsTurns (gives : ℕ → Moment → Reply → Type 0) (old new : Built A K) (earlier turns : Turns) : Type 0 where
    pub later : List Turn
    pub joined : turns_in turns ≡ turns_in earlier ++ later
    pub made : OnlyFirstMade gives (origin_of old.system.gates) old.system.throughput old.handles.items new.handles.items later
    pub kept : turns.list.retention ≡ earlier.list.retention

  -- It is the system that was built of this plan, whose senders carried out these orders, each its list. Since it was built only its first handle ran, and
  -- made these turns. As many are kept as the plan's journals keep of their entries.
  pub record HasRunTurns (gives : ℕ → Moment → Reply → Type 0) (plan : Plan) (orders : List (List Order)) (now : Built A K) (turns : Turns) : Type 0 where
    pub first : Built A K
    pub begun : IsBegun gives plan first
    pub system : now.system ≡ first.system
    pub sent : HaveSent first.system.gates orders first.senders.items now.senders.items
    pub made : OnlyFirstMade gives (origin_of first.system.gates) plan.throughput first.handles.items now.handles.items (turns_in turns)
    pub kept : turns.list.retention ≡ retention_of plan.journal
