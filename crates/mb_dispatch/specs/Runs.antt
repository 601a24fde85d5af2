-- The runs of mailboxes that a worker's handle made, as a chain of what it knew.
use Rattle.std.specs.Prelude.{◌≡◌, ℕ, List, [], ◌∷◌, ◌++◌, Some}
use Rattle.std.specs.Global.{Box}
use Rattle.mb_actor.specs.Behaviour.{Moment, Reply}
use Rattle.mb_journal.specs.Entry.{Entry}
use Rattle.mb_journal.specs.Run.{Stopped}
use Rattle.mb_gate.specs.Untouched.{Origin}
use Rattle.mb_gate.specs.View.{View}
use Rattle.mb_gate.specs.declared.claim.Claim.{Claim}
use Rattle.mb_home.specs.Contents.{Contents}
use Rattle.mb_home.specs.Fresh.{IsFreshClaim}
use Rattle.mb_mailbox.specs.Ran.{HadRoom, LeavesRun}
use Rattle.mb_mailbox.specs.declared.turn.Turn.{Turn}
use Rattle.mb_dispatch.specs.declared.turns.Turns.{Turns}
use Rattle.mb_system.specs.OnlyLooks.{OnlyLooks}

-- What each run of a mailbox did in a quiet run, in the order in which they were made.
abbrev pub turns_in : Turns → List Turn
turns_in turns = turns.list.items

module _ (gives : ℕ → Moment → Reply → Type 0) (origin : Origin (Box Contents)) (throughput : ℕ) where
  -- The handle ran the mailbox of a claim of these gates, by this throughput, and there was room for all that the run took. The result names the actor
  -- and counts the entries that the run added to its journal.
  pub record RanMailbox (old new : View) (turn : Turn) : Type 0 where
    pub claim : Claim (Box Contents)
    pub fresh : IsFreshClaim gives (Some origin) claim
    pub journal : List Entry
    pub stopped : Stopped
    pub room : HadRoom stopped
    pub left : LeavesRun throughput claim old new journal turn stopped

  -- These are the results of all runs that the handle made, in order, each of a run that began with what the handle knew then. Between them it only looked
  -- at actors.
  abbrev pub MadeRuns : View → List Turn → View → Type 0
  MadeRuns old [] new = OnlyLooks old new
  MadeRuns old (turn ∷ turns) new =
      (before : View) × (after : View) × OnlyLooks old before × RanMailbox before after turn × MadeRuns after turns new

  -- Behind the earlier turns stand those of all runs that the handle made from the old view to the new one.
  pub record MadeMoreRuns (old : View) (earlier turns : List Turn) (new : View) : Type 0 where
    pub later : List Turn
    pub joined : turns ≡ earlier ++ later
    pub made : MadeRuns old later new

  -- The handle made runs, one after another, and only looked at actors between them. It took nothing and sent nothing beside these runs.
  pub record OnlyRuns (old new : View) : Type 0 where
    pub turns : List Turn
    pub made : MadeRuns old turns new
