-- What a worker's handle did in a run that was broken off (this project's own profile: in Akka a thread that fails leaves its dispatcher).
use Rattle.std.specs.Prelude.{◌⊎◌, ℕ, List, [], ◌∷◌, ◌++◌, Some}
use Rattle.std.specs.Global.{Box}
use Rattle.mb_actor.specs.Behaviour.{Moment, Reply}
use Rattle.mb_dispatch.specs.Runs.{OnlyRuns}
use Rattle.mb_gate.specs.Untouched.{Origin}
use Rattle.mb_gate.specs.View.{View, taking_over}
use Rattle.mb_gate.specs.declared.claim.Claim.{Claim}
use Rattle.mb_home.specs.Contents.{Contents}
use Rattle.mb_home.specs.Fresh.{IsFreshClaim}
use Rattle.mb_journal.specs.Entry.{Entry}
use Rattle.mb_journal.specs.Run.Stopped.{NoRoom}
use Rattle.mb_mailbox.specs.Ran.{LeavesRun}
use Rattle.mb_mailbox.specs.declared.turn.Turn.{Turn}
use Rattle.mb_pool.specs.WorkerPorts.{WorkerPortView}
use Rattle.mb_shutdown.specs.Unfinished.{GivesBack}

module _ (gives : ℕ → Moment → Reply → Type 0) (origin : Origin (Box Contents)) (throughput : ℕ) where
  -- The last run of a mailbox that the handle made had no room for all that it took.
  pub record HadNoRoom (start end : View) : Type 0 where
    pub before : View
    pub earlier : OnlyRuns gives origin throughput start before
    pub claim : Claim (Box Contents)
    pub fresh : IsFreshClaim gives (Some origin) claim
    pub journal : List Entry
    pub turn : Turn
    pub left : LeavesRun throughput claim before end journal turn NoRoom

  -- From the first view to the second the handle only made runs of mailboxes of these gates. The last of them may have had no room.
  abbrev pub OnlyRunsToLast : View → View → Type 0
  OnlyRunsToLast start end = OnlyRuns gives origin throughput start end ⊎ HadNoRoom start end

-- Handles with these ports of the pool and these views gave back each claim that they found, one handle after another. What they know then, and nothing
-- else, is put together in this view.
pub data KnowTogether (gives : ℕ → Moment → Reply → Type 0) : List (WorkerPortView (Box Contents)) → List View → View → Type 0 where
  first_knows : (port : WorkerPortView (Box Contents)) (before after : View) → GivesBack gives port before after
      → KnowTogether gives (port ∷ []) (before ∷ []) after
  one_more_knows : (ports : List (WorkerPortView (Box Contents))) (views : List View) (port : WorkerPortView (Box Contents)) (before after all : View)
      → KnowTogether gives ports views all → GivesBack gives port before after
      → KnowTogether gives (ports ++ port ∷ []) (views ++ before ∷ []) (taking_over all after)
