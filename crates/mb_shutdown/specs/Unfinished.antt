-- What is left of the actors of a run that was broken off (this project's own profile: Akka shows nothing of such a run).
use Rattle.std.specs.Prelude.{◌≡◌, ℕ, List, [], ◌∷◌, ◌++◌, All, Option, Some, None}
use Rattle.std.specs.Global.{Box}
use Rattle.std.specs.List.{AllZip}
use Rattle.mb_actor.specs.Behaviour.{Moment, Reply}
use Rattle.mb_cell.specs.CellView.{CellView}
use Rattle.mb_gate.specs.Accessors.{actors_of, claim_view, first_home, held_actor, pass_view}
use Rattle.mb_gate.specs.Rule.{IsPart}
use Rattle.mb_gate.specs.View.{View, idling, taking_in, taking_over}
use Rattle.mb_gate.specs.declared.claim.Claim.{Claim}
use Rattle.mb_home.specs.AtHome.{facts_of}
use Rattle.mb_home.specs.Contents.{Contents}
use Rattle.mb_home.specs.Fresh.{IsFreshClaim}
use Rattle.mb_journal.specs.Aside.{aside}
use Rattle.mb_journal.specs.Life.{phase}
use Rattle.mb_journal.specs.Suspension.{count}
use Rattle.mb_pool.specs.Moves.{WasEmpty}
use Rattle.mb_pool.specs.Places.{ports_of}
use Rattle.mb_pool.specs.WorkerPorts.{TakesClaim, WorkerPortView}
use Rattle.mb_shutdown.specs.Homes.{AreHomes, ReturnedHome}
use Rattle.mb_shutdown.specs.declared.unfinished.UnfinishedActor.{UnfinishedActor}
use Rattle.mb_system.specs.declared.built.Built.{Built}
use Rattle.mb_system.specs.declared.handle.WorkerHandle.{WorkerHandle}

-- It shows the journal of this cell, and what this journal says of the actor.
pub record ShowsCellNow (cell : CellView) (a : UnfinishedActor) : Type 0 where
  pub phase_is : a.phase ≡ phase cell.who cell.journal
  pub count_is : a.count ≡ count cell.who cell.journal
  pub journal_is : a.journal.entries ≡ cell.journal
  pub kept_is : a.journal.retention ≡ cell.who.retention
  pub aside_is : a.aside.items ≡ aside cell.who cell.journal

-- The home came back, and its cell is shown; or it did not come back, and nothing is shown.
abbrev pub ShowsHome : Option ReturnedHome → Option UnfinishedActor → Type 0
ShowsHome (Some left) (Some a) = ShowsCellNow left.home.value.cell a
ShowsHome (Some left) None = ⊥
ShowsHome None (Some a) = ⊥
ShowsHome None None = Unit {0}

-- What gates with this first home gave back of so many actors is shown, by what was known at the end.
pub record ShowsHomes (gives : ℕ → Moment → Reply → Type 0) (first : Contents) (actors : ℕ) (view : View) (shown : List (Option UnfinishedActor))
    : Type 0 where
  pub all : List (Option ReturnedHome)
  pub left : AreHomes gives first actors view all
  pub shows : AllZip ShowsHome all shown

-- By this port claims were taken until it kept none and found the pool empty, and each went back to its actor. By that the first view became the second.
pub data GivesBack (gives : ℕ → Moment → Reply → Type 0) : WorkerPortView (Box Contents) → View → View → Type 0 where
  found_none : (port : WorkerPortView (Box Contents)) (view : View) → port.next ≡ [] → All (WasEmpty (IsFreshClaim gives)) (ports_of port.handle)
      → GivesBack gives port view view
  gave_one : (old new : WorkerPortView (Box Contents)) (claim : Claim (Box Contents)) (before after : View) → TakesClaim (IsFreshClaim gives) old claim new
      → GivesBack gives new (idling (held_actor claim) (facts_of claim.home.value).journal (taking_in (claim_view claim) before)) after
      → GivesBack gives old before after

-- Each of these workers' handles did so, one after another. What they know then is put together in this view.
pub data HaveGivenBack {A K : Type 0} (gives : ℕ → Moment → Reply → Type 0) : List (WorkerHandle A K) → View → Type 0 where
  by_first : (handle : WorkerHandle A K) (view : View) → GivesBack gives handle.registrar.run_queue (pass_view handle.registrar.pass) view
      → HaveGivenBack gives (handle ∷ []) view
  by_one_more : (handles : List (WorkerHandle A K)) (handle : WorkerHandle A K) (view other : View) → HaveGivenBack gives handles view
      → GivesBack gives handle.registrar.run_queue (pass_view handle.registrar.pass) other
      → HaveGivenBack gives (handles ++ handle ∷ []) (taking_over view other)

-- It shows what the gates of this system gave back of each actor. All that its handles saw was known then, and each claim that they found in the pool had
-- gone back to its actor.
pub record AreUnfinished {A K : Type 0} (gives : ℕ → Moment → Reply → Type 0) (built : Built A K) (shown : List (Option UnfinishedActor)) : Type 0 where
  pub view : View
  pub seen : All (λ (e : WorkerHandle A K). IsPart (pass_view e.registrar.pass).log view.log) built.handles.items
  pub back : HaveGivenBack gives built.handles.items view
  pub homes : ShowsHomes gives (first_home built.system.gates).value (actors_of built.system.gates) view shown
