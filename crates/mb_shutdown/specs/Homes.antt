-- What the gates give back of each actor: its home, in a box.
use Rattle.std.specs.Prelude.{◌≡◌, ℕ, ◌+◌, ◌%◌, ◌^◌, ◌<◌, false, if◌then◌else◌, List, Option, Some, length, slice_get}
use Rattle.std.specs.Global.{Box}
use Rattle.mb_actor.specs.Behaviour.{Moment, Reply}
use Rattle.mb_journal.specs.Aside.{ever_aside, next_number}
use Rattle.mb_journal.specs.Identity.{Identity}
use Rattle.mb_journal.specs.Life.{closed}
use Rattle.mb_gate.specs.Returned.{AreReturned}
use Rattle.mb_gate.specs.ClaimCounts.{claims_got, claims_returned}
use Rattle.mb_gate.specs.PutIn.{put_by}
use Rattle.mb_gate.specs.View.{View}
use Rattle.mb_gate.specs.declared.returned_actor.ReturnedActor.{ReturnedActor}
use Rattle.mb_home.specs.AtHome.{IsHomeOf, facts_of}
use Rattle.mb_home.specs.Contents.{Contents}
use Rattle.mb_queue.specs.Passes.{SendPassView}
use Rattle.mb_report.specs.declared.report.ActorReport.{ActorReport}
use Rattle.mb_report.specs.declared.report.Report.{Report}
use Rattle.mb_report.specs.declared.report.SenderReport.{SenderReport}
use Rattle.mb_ghost.specs.Shares.{IsWhole}
use Rattle.mb_ghost.specs.Summed.{total}
use Rattle.mb_msg.specs.declared.system.SysMsg.{SysMsg}
use Rattle.mb_syslist.specs.MessageList.{numbered}
use Rattle.mb_shutdown.specs.CompleteReport.{CountsSystems}
use Rattle.mb_shutdown.specs.Mismatched.{IsMismatch}
use Rattle.mb_shutdown.specs.declared.mismatch.Mismatch.{Mismatch}
use Rattle.mb_shutdown.specs.declared.mismatch.Mismatch.TheVariants.{Held, List as Listed, Waiting}

-- What the gates give back of one actor.
abbrev pub ReturnedHome : Type 0
ReturnedHome = ReturnedActor (Box Contents)

-- What gates with this first home gave back of so many actors, by what the last pass knows.
abbrev pub AreHomes : (ℕ → Moment → Reply → Type 0) → Contents → ℕ → View → List (Option ReturnedHome) → Type 0
AreHomes gives first =
    AreReturned {H = Box Contents} (λ actor home. IsHomeOf (gives actor) first actor home.value) (λ home. facts_of home.value)

-- If this pass is the only one, a claim of the actor is out: one was got and not given back.
abbrev pub HasClaimOut : View → ℕ → Type 0
HasClaimOut v id = IsWhole v.share → claims_got id v ≡ claims_returned id v + 1

-- If this pass is the only one, no claim of the actor is out: all that were got were given back.
abbrev pub HasNoClaimOut : View → ℕ → Type 0
HasNoClaimOut v id = IsWhole v.share → claims_got id v ≡ claims_returned id v

-- If the actor's home is said to be missing, a claim of the actor is out.
abbrev pub HasClaimOutIfHeld : View → Mismatch → Type 0
HasClaimOutIfHeld v (Held whom) = HasClaimOut v whom.0
HasClaimOutIfHeld v (Listed whom) = Unit {0}
HasClaimOutIfHeld v (Waiting whom) = Unit {0}

-- All messages that the actor's list ever gave, so many modulo 2^64, have an entry in the journal or are dead. Nothing else is dead but what was set
-- aside when the actor ended.
abbrev pub CountsGiven : Identity → ℕ → ActorReport → Type 0
CountsGiven who given a = (given + (if closed who a.journal.entries then length (ever_aside a.journal.entries) else 0)) % 2 ^ 64
    ≡ (next_number a.journal.entries + a.dead_system) % 2 ^ 64

module _ (gives : ℕ → Moment → Reply → Type 0) (first : Contents) (actors : ℕ) (v : View) where
  -- By what the gates gave back of each actor, this does not agree.
  pub record Disagrees (outside : List (List SendPassView)) (waiting : List ℕ) (what : Mismatch) : Type 0 where
    pub all : List (Option ReturnedHome)
    pub left : AreHomes gives first actors v all
    pub why : IsMismatch all outside waiting what
    pub held : HasClaimOutIfHeld v what

  -- Each home came back. The report shows each home's journal, counts all that each actor's list gave, shows as cleaned up what the home's clean-up
  -- took out, and as the actor's dead letters those of the home. If this pass is the only one, the system messages that it counts are what this pass
  -- put into the actor's list.
  pub record HomesReturned (report : Report) : Type 0 where
    pub all : List (Option ReturnedHome)
    pub left : AreHomes gives first actors v all
    pub came : (id : ℕ) → id < actors → HasNoClaimOut v id
    pub journal : (id : ℕ) (l : ReturnedHome) (a : ActorReport) → slice_get all id ≡ Some (Some l) → slice_get report.actors.items id ≡ Some a
        → a.journal.entries ≡ l.home.value.cell.journal
    pub given : (id : ℕ) (l : ReturnedHome) (a : ActorReport) → slice_get all id ≡ Some (Some l) → slice_get report.actors.items id ≡ Some a
        → (l.listed ≡ false) × CountsGiven l.home.value.cell.who l.given a
    pub put : (id : ℕ) (l : ReturnedHome) (a : ActorReport) → slice_get all id ≡ Some (Some l) → slice_get report.actors.items id ≡ Some a
        → (counts : CountsSystems v.log l.home.value.cell.who a)
        × (IsWhole v.share → (measure : ℕ × SysMsg → ℕ) → put_by id measure v ≡ total measure (numbered 0 counts.pushed))
    pub cleaned : (id : ℕ) (l : ReturnedHome) (a : ActorReport) → slice_get all id ≡ Some (Some l) → slice_get report.actors.items id ≡ Some a
        → a.cleaned.items ≡ l.home.value.cleaned
    pub dead : (id : ℕ) (l : ReturnedHome) (s : SenderReport) → slice_get all id ≡ Some (Some l) → slice_get report.senders.items id ≡ Some s
        → s.dead.items ≡ l.home.value.dead
