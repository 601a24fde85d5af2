-- Chains of runs of mailboxes.
use Rattle.std.proofs.Common.{◌≡◌, ℕ, List, [], ◌∷◌, ◌++◌, ap, append_assoc, subst, sym, ◌∙◌}
use Rattle.std.proofs.lemmas.List.{append-nil}
use Rattle.std.specs.Prelude.{Some}
use Rattle.std.specs.Global.{Box}
use Rattle.mb_actor.specs.Behaviour.{Moment, Reply}
use Rattle.mb_journal.specs.Entry.{Entry}
use Rattle.mb_journal.specs.Run.{Stopped}
use Rattle.mb_gate.specs.Untouched.{Origin}
use Rattle.mb_gate.specs.View.{View}
use Rattle.mb_gate.specs.declared.claim.Claim.{Claim}
use Rattle.mb_home.specs.Contents.{Contents}
use Rattle.mb_home.specs.Fresh.{IsFreshClaim}
use Rattle.mb_mailbox.specs.Ran.{HadRoom, LeavesRun}
use Rattle.mb_mailbox.specs.declared.turn.Turn.{Turn}
use Rattle.mb_system.specs.OnlyLooks.{OnlyLooks}
use Rattle.mb_system.proofs.Looking.{only-none, only-then}
use Rattle.mb_dispatch.specs.Runs.{MadeMoreRuns, MadeRuns, OnlyRuns, RanMailbox}

module _ (gives : ℕ → Moment → Reply → Type 0) (origin : Origin (Box Contents)) (throughput : ℕ) where
  -- then it only read
  pub runs-looks : (u v w : View) (turns : List Turn) → MadeRuns gives origin throughput u turns v → OnlyLooks v w
      → MadeRuns gives origin throughput u turns w
  runs-looks u v w [] made looks = only-then u v w made looks
  runs-looks u v w (t ∷ turns) made looks = (made.0, made.1, made.2, made.3, runs-looks made.1 v w turns made.4 looks)

  -- then it made a run more
  pub runs-more : (u v w : View) (turns : List Turn) (turn : Turn) → MadeRuns gives origin throughput u turns v
      → RanMailbox gives origin throughput v w turn → MadeRuns gives origin throughput u (turns ++ turn ∷ []) w
  runs-more u v w [] turn made ran = (v, w, made, ran, only-none w)
  runs-more u v w (t ∷ turns) turn made ran = (made.0, made.1, made.2, made.3, runs-more made.1 v w turns turn made.4 ran)

  -- first it only read
  looks-runs : (u v w : View) (turns : List Turn) → OnlyLooks u v → MadeRuns gives origin throughput v turns w
      → MadeRuns gives origin throughput u turns w
  looks-runs u v w [] looks made = only-then u v w looks made
  looks-runs u v w (t ∷ turns) looks made = (made.0, made.1, only-then u v made.0 looks made.2, made.3, made.4)

  pub made-then : (u v w : View) (before turns : List Turn) → MadeRuns gives origin throughput u before v → MadeRuns gives origin throughput v turns w
      → MadeRuns gives origin throughput u (before ++ turns) w
  made-then u v w [] turns looks made = looks-runs u v w turns looks made
  made-then u v w (t ∷ before) turns first made = (first.0, first.1, first.2, first.3, made-then first.1 v w before turns first.4 made)

  -- behind earlier turns it made none yet, then it only read, and then it made a run more
  pub more-none : (u v : View) (earlier : List Turn) → OnlyLooks u v → MadeMoreRuns gives origin throughput u earlier earlier v
  more-none u v earlier looks = record { later = []; joined = sym (append-nil earlier); made = looks }

  pub more-looks : (u v w : View) (earlier turns : List Turn) → MadeMoreRuns gives origin throughput u earlier turns v → OnlyLooks v w
      → MadeMoreRuns gives origin throughput u earlier turns w
  more-looks u v w earlier turns more looks =
      record { later = more.later; joined = more.joined; made = runs-looks u v w more.later more.made looks }

  pub more-runs : (u v w : View) (earlier turns : List Turn) (turn : Turn) → MadeMoreRuns gives origin throughput u earlier turns v
      → RanMailbox gives origin throughput v w turn → MadeMoreRuns gives origin throughput u earlier (turns ++ turn ∷ []) w
  more-runs u v w earlier turns turn more ran = record {
    later = more.later ++ turn ∷ [];
    joined = ap (λ l. l ++ turn ∷ []) more.joined ∙ append_assoc earlier more.later (turn ∷ []);
    made = runs-more u v w more.later turn more.made ran;
  }

  -- where there are no earlier turns, all turns are of these runs
  pub more-all : (u w : View) (earlier turns : List Turn) → earlier ≡ [] → MadeMoreRuns gives origin throughput u earlier turns w
      → MadeRuns gives origin throughput u turns w
  more-all u w earlier turns none more =
      subst (λ l. MadeRuns gives origin throughput u l w) (sym (more.joined ∙ ap (λ l. l ++ more.later) none)) more.made

  -- it did nothing, only read, or made one run, as a run of a mailbox answers it
  pub no-run : (v : View) → OnlyRuns gives origin throughput v v
  no-run v = record { turns = []; made = only-none v }

  pub of-looks : (u v : View) → OnlyLooks u v → OnlyRuns gives origin throughput u v
  of-looks u v looks = record { turns = []; made = looks }

  pub ran-mailbox : (u v : View) (claim : Claim (Box Contents)) (turn : Turn) → IsFreshClaim gives (Some origin) claim
      → (journal : List Entry) × ((stopped : Stopped) × HadRoom stopped × LeavesRun throughput claim u v journal turn stopped)
      → RanMailbox gives origin throughput u v turn
  ran-mailbox u v claim turn fresh ran =
      record { claim = claim; fresh = fresh; journal = ran.0; stopped = ran.1.0; room = ran.1.1; left = ran.1.2 }

  pub one-run : (u v : View) (turn : Turn) → RanMailbox gives origin throughput u v turn → OnlyRuns gives origin throughput u v
  one-run u v turn ran = record { turns = turn ∷ []; made = (u, v, only-none u, ran, only-none v) }

  -- it made runs, and then others
  pub runs-then : (u v w : View) → OnlyRuns gives origin throughput u v → OnlyRuns gives origin throughput v w
      → OnlyRuns gives origin throughput u w
  runs-then u v w first made = record { turns = first.turns ++ made.turns; made = made-then u v w first.turns made.turns first.made made.made }
