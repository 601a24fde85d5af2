-- What the runs of mailboxes that a handle made are in the words of the plan.
use Rattle.std.proofs.Common.{◌≡◌, ◌+◌, ◌<◌, ◌≤◌, ℕ, List, [], ◌∷◌, length, subst, sym, ◌∙◌}
use Rattle.std.specs.Prelude.{All, Err, IfOk, Ok, Result}
use Rattle.std.specs.Global.{Box}
use Rattle.std.proofs.lemmas.List.Elements.{All-cons, All-nil, All-weaker}
use Rattle.mb_actor.specs.Behaviour.{Moment, Reply}
use Rattle.mb_build.proofs.NewHomesLemmas.{length-who}
use Rattle.mb_dispatch.specs.Runs.{MadeRuns}
use Rattle.mb_gate.specs.Accessors.{actors_of}
use Rattle.mb_gate.specs.Untouched.{Origin}
use Rattle.mb_gate.specs.View.{View}
use Rattle.mb_home.specs.Contents.{Contents}
use Rattle.mb_journal.specs.Run.{most_envelopes}
use Rattle.mb_mailbox.specs.declared.turn.Turn.{Turn}
use Rattle.mb_msg.specs.declared.plan.Plan.{Plan}
use Rattle.mb_report.specs.declared.report.Report.{Report}
use Rattle.mb_startup.proofs.Directories.{actors-there}
use Rattle.mb_startup.specs.Begun.{IsBegun}
use Rattle.mb_system.specs.declared.built.Built.{Built}
use Rattle.heddleorange.specs.Turns.{AreTurnsOf, CoverJournals, HaveTheirTurns, IsTurnOf}

-- each is of one of the actors, and began at most as many envelopes as the throughput says
pub made-turns : (gives : ℕ → Moment → Reply → Type 0) (origin : Origin (Box Contents)) (throughput : ℕ) (old : View) (turns : List Turn) (new : View)
    → MadeRuns gives origin throughput old turns new → All (IsTurnOf origin.actors throughput) turns
made-turns gives origin throughput old [] new made = All-nil (IsTurnOf origin.actors throughput)
made-turns gives origin throughput old (turn ∷ turns) new made =
    let ran = made.3 in
    All-cons (IsTurnOf origin.actors throughput) turn turns (record {
      actor = subst (λ n. n < origin.actors) (sym ran.left.actor) ran.fresh.same_gates.present;
      at_most = subst (λ n. n ≤ most_envelopes throughput) ran.left.envelopes ran.left.run.at_most;
    }) (made-turns gives origin throughput made.1 turns new made.4)

-- the same of a system of this plan
pub turns-of : {A K : Type 0} (gives : ℕ → Moment → Reply → Type 0) (plan : Plan) (built : Built A K) (begun : IsBegun gives plan built)
    (turns : List Turn) → All (IsTurnOf (actors_of built.system.gates) plan.throughput) turns → AreTurnsOf plan turns
turns-of gives plan built begun turns are =
    let actors : actors_of built.system.gates ≡ length plan.actors.items + 1 =
    actors-there gives plan built begun ∙ length-who plan.journal plan.journal_limit plan.actors.items in
    subst (λ n. All (IsTurnOf n plan.throughput) turns) actors are

-- they cover the journals of a report of this plan's actors, if each journal has the entries of its turns
pub covers-of : (plan : Plan) (report : Report) (turns : List Turn) → length report.actors.items ≡ length plan.actors.items + 1 → AreTurnsOf plan turns
    → HaveTheirTurns report turns → CoverJournals report turns
covers-of plan report turns many are all = record {
  known = All-weaker (IsTurnOf (length plan.actors.items + 1) plan.throughput) (λ (t : Turn). t.actor.0 < length report.actors.items)
      (λ t is. subst (λ n. t.actor.0 < n) (sym many) is.actor) turns are;
  all = all;
}

pub ok-weaker : {T E : Type 0} (P Q : T → Type 0) (r : Result T E) → ((x : T) → P x → Q x) → IfOk r P → IfOk r Q
ok-weaker P Q (Ok x) weaker holds = weaker x holds
ok-weaker P Q (Err e) weaker holds = tt
