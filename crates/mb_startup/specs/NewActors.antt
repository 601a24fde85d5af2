-- The actors of a new system, as its words and slots show them (`akka.actor.ActorCell` before its Create; that all actors of a plan are made at once is
-- this project's own profile).
use Rattle.std.specs.Prelude.{◌≡◌, ◌⊎◌, ℕ, zero, suc, ◌+◌, ◌%◌, ◌^◌, List, [], ◌∷◌, slice_get, Some}
use Rattle.std.specs.Global.{Box}
use mathlib.Core.Option.{some}
use Rattle.mb_status.specs.Mailbox.{fresh, word_of}
use Rattle.mb_msg.specs.declared.actor_plan.ActorPlan.{ActorPlan}
use Rattle.mb_msg.specs.declared.plan.Plan.{Plan}
use Rattle.mb_msg.specs.declared.system.SysMsg.{SysMsg}
use Rattle.mb_msg.specs.declared.system.SysMsg.TheVariants.{Create}
use Rattle.mb_syslist.specs.MessageList.{numbered}
use Rattle.mb_actor.specs.Behaviour.{Moment, Reply}
use Rattle.mb_journal.specs.Identity.{Identity}
use Rattle.mb_ghost.specs.Layout.{Spot}
use Rattle.mb_gate.specs.Accessors.{actors_of, first_home}
use Rattle.mb_gate.specs.NotRun.{InEachState}
use Rattle.mb_gate.specs.Rule.{Word, Status, Waiting, SlotName, CellSlot, Ghost}
use Rattle.mb_gate.specs.View.{View}
use Rattle.mb_gate.specs.declared.gates.Gates.{Gates}
use Rattle.mb_gate.specs.declared.slot.Slot.{Slot}
use Rattle.mb_gate.specs.declared.slot.Slot.TheVariants.{Home}
use Rattle.mb_home.specs.AtHome.{IsHomeOf, facts_of}
use Rattle.mb_home.specs.Contents.{Contents}
use Rattle.mb_home.specs.Directory.{DirectoryEntry}
use Rattle.mb_home.specs.UnusedHome.{IsUnusedHome}
use Rattle.mb_build.specs.Planned.{actors_in, HasMailbox}

-- What is put into an actor's list as its system is built: the guardian's Create, and nothing into any other.
abbrev pub first_messages : ℕ → List SysMsg
first_messages zero = Create ∷ []
first_messages (suc actor) = []

-- This actor of the plan is new. Its home lies in its slot: its cell has the actor's identity, with the parent, the strategy and the limit of the
-- journal that are planned, and its queue is of the planned mailbox's kind; and nothing came to it. Its status word is that of a new mailbox: open, idle,
-- and suspended once, as before the start. No envelope is counted as waiting. All that was ever put into its list is what building puts there; that is
-- listed still, or lies beside the cell.
pub record IsNewActor (plan : Plan) (directory : List DirectoryEntry) (actor : ℕ) (who : Identity) (x : Spot Word SlotName (Slot (Box Contents)) Ghost) :
    Type 0 where
  pub home : Box Contents
  pub present : x.slot CellSlot ≡ some (some (Home home))
  pub entry : DirectoryEntry
  pub enrolled : slice_get directory actor ≡ Some entry
  pub planned : entry.who ≡ who
  pub mailbox : (place : ℕ) (a : ActorPlan) → actor ≡ place + 1 → slice_get plan.actors.items place ≡ Some a → HasMailbox a entry
  pub unused : IsUnusedHome entry home.value
  pub word : x.row Status ≡ word_of fresh
  pub waiting : x.row Waiting % 2 ^ 64 ≡ 0
  pub put : x.ghost.pushed ≡ first_messages actor
  pub beside : (home.value.rest ≡ []) ⊎ (home.value.rest ≡ numbered 0 (first_messages actor))

-- In each state of these gates in which some seats, no two of which are the same, have these views, each actor of the plan is new.
abbrev pub AreNewActors : (ℕ → Moment → Reply → Type 0) → Plan → Gates (Box Contents) → List View → Type 0
AreNewActors gives plan gates known =
    InEachState (λ (actor : ℕ) (home : Box Contents). IsHomeOf (gives actor) (first_home gates).value actor home.value)
    (λ (home : Box Contents). facts_of home.value) (actors_of gates) known
    (λ actor x. (who : Identity) → slice_get (actors_in plan) actor ≡ Some who → IsNewActor plan (first_home gates).value.directory actor who x)
