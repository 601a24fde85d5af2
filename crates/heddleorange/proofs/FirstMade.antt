-- The turns of a system in which the first handle alone ran.
use Rattle.std.proofs.Common.{◌≡◌, ℕ, ◌+◌, List, [], ◌∷◌, ◌++◌, ap, get_or, length, refl, subst, sym, ◌∙◌}
use Rattle.std.specs.Prelude.{◌≢◌, All, slice_set}
use Rattle.std.specs.Global.{Box}
use Rattle.std.proofs.lemmas.List.Elements.{All-head}
use Rattle.mb_actor.specs.Behaviour.{Moment, Reply}
use Rattle.mb_build.proofs.NewHomesLemmas.{length-who}
use Rattle.mb_dispatch.proofs.Runs.{made-then}
use Rattle.mb_dispatch.specs.Alone.{FirstAlone}
use Rattle.mb_dispatch.specs.Runs.{MadeMoreRuns, MadeRuns, turns_in}
use Rattle.mb_dispatch.specs.declared.turns.Turns.{Turns}
use Rattle.mb_gate.specs.Accessors.{actors_of, pass_view}
use Rattle.mb_gate.specs.Untouched.{Origin, origin_of}
use Rattle.mb_gate.specs.View.{View}
use Rattle.mb_home.specs.Contents.{Contents}
use Rattle.mb_mailbox.specs.declared.turn.Turn.{Turn}
use Rattle.mb_msg.specs.declared.order.Order.{Order}
use Rattle.mb_msg.specs.declared.plan.Plan.{Plan}
use Rattle.mb_report.specs.declared.report.Report.{Report}
use Rattle.mb_shutdown.specs.Belonging.{HasRead, OnlyFirstHandleRead}
use Rattle.mb_shutdown.specs.Refused.{FindsBusy, ReleasesAddUpTo}
use Rattle.mb_shutdown.specs.Seen.{ReportExtendsAll}
use Rattle.mb_startup.proofs.Directories.{actors-there}
use Rattle.mb_startup.proofs.There.{senders-there}
use Rattle.mb_system.specs.Members.{OutsideSender}
use Rattle.mb_system.specs.OnlyLooks.{OnlyLooks}
use Rattle.mb_system.proofs.Looking.{only-then}
use Rattle.mb_system.specs.declared.built.Built.{Built}
use Rattle.mb_system.specs.declared.handle.WorkerHandle.{WorkerHandle}
use Rattle.mb_system.specs.declared.system.System.{System}
use Rattle.heddleorange.specs.RanQuietly.{AddsTurns, HasRunTurns, OnlyFirstMade}
use Rattle.heddleorange.specs.Sent.{HaveSent}
use Rattle.heddleorange.specs.TellsTurns.{TellsTurns}
use Rattle.heddleorange.specs.Turns.{AreStretches, HaveTheirTurns, IsTurnOf}
use Rattle.heddleorange.proofs.Covering.{all-turns, all-turns-since}
use Rattle.heddleorange.proofs.GoingOn.{found-looks}
use Rattle.heddleorange.proofs.MadeTurns.{covers-of, made-turns, turns-of}
use Rattle.heddleorange.proofs.Stretches.{stretches-of}
use Rattle.heddleorange.proofs.Unchanged.{changed-none, of-handle}

module _ {A K : Type 0} (gives : ℕ → Moment → Reply → Type 0) (origin : Origin (Box Contents)) (throughput : ℕ) where
  -- it made turns, and then others
  pub first-then : (old between new : List (WorkerHandle A K)) (earlier later : List Turn) → OnlyFirstMade gives origin throughput old between earlier
      → OnlyFirstMade gives origin throughput between new later → OnlyFirstMade gives origin throughput old new (earlier ++ later)
  first-then [] between new earlier later one other = absurd one
  first-then (x ∷ xs) [] new earlier later one other = absurd one
  first-then (x ∷ xs) (y ∷ ys) [] earlier later one other = absurd other
  first-then (x ∷ xs) (y ∷ ys) (z ∷ zs) earlier later one other =
      (made-then gives origin throughput (of-handle x) (of-handle y) (of-handle z) earlier later one.0 other.0, other.1 ∙ one.1)

  -- the first alone made them
  pub first-made : (old new : List (WorkerHandle A K)) (turns : List Turn)
      → FirstAlone (λ o n. MadeRuns gives origin throughput (of-handle o) turns (of-handle n)) old new → OnlyFirstMade gives origin throughput old new turns
  first-made [] new turns did = absurd did
  first-made (x ∷ old) [] turns did = absurd did
  first-made (x ∷ old) (y ∷ new) turns did = did

  -- the first alone made them behind others
  pub adds-made : (old new : List (WorkerHandle A K)) (earlier all : List Turn)
      → FirstAlone (λ o n. MadeMoreRuns gives origin throughput (of-handle o) earlier all (of-handle n)) old new
      → (later : List Turn) × (all ≡ earlier ++ later) × OnlyFirstMade gives origin throughput old new later
  adds-made [] new earlier all did = absurd did
  adds-made (x ∷ old) [] earlier all did = absurd did
  adds-made (x ∷ old) (y ∷ new) earlier all did = (did.0.later, did.0.joined, (did.0.made, did.1))

  -- it only looked
  first-looked : (old new : Built A K) (before after : View) → OnlyFirstHandleRead old new before after → OnlyLooks before after
      → OnlyFirstMade gives origin throughput old.handles.items new.handles.items []
  first-looked old new before after read looks =
      let seen = subst (λ (p : View × View). OnlyLooks p.0 p.1) (λ i. (sym read.knew i, sym read.knows i)) looks in
      let made : OnlyFirstMade gives origin throughput (read.first ∷ read.rest) (read.first' ∷ read.rest) [] = (seen, refl) in
      subst (λ (p : List (WorkerHandle A K) × List (WorkerHandle A K)). OnlyFirstMade gives origin throughput p.0 p.1 [])
      (λ i. (sym read.was i, sym read.is i)) made

  first-turns : (old new : List (WorkerHandle A K)) (turns : List Turn) → OnlyFirstMade gives origin throughput old new turns
      → All (IsTurnOf origin.actors throughput) turns
  first-turns [] new turns made = absurd made
  first-turns (x ∷ xs) [] turns made = absurd made
  first-turns (x ∷ xs) (y ∷ ys) turns made = made-turns gives origin throughput (of-handle x) turns (of-handle y) made.0

  first-stretches : (report : Report) (old new : List (WorkerHandle A K)) (turns : List Turn) → OnlyFirstMade gives origin throughput old new turns
      → All (λ (e : WorkerHandle A K). ReportExtendsAll report (of-handle e)) new → AreStretches report turns
  first-stretches report [] new turns made extends = absurd made
  first-stretches report (x ∷ xs) [] turns made extends = absurd made
  first-stretches report (x ∷ xs) (y ∷ ys) turns made extends =
      stretches-of gives origin throughput report (of-handle x) turns (of-handle y) made.0
      (All-head (λ (e : WorkerHandle A K). ReportExtendsAll report (of-handle e)) y ys extends)

module _ {A K : Type 0} (gives : ℕ → Moment → Reply → Type 0) (plan : Plan) (orders : List (List Order)) where
  -- an actor was found to have something to run, and the first handle ran on
  pub turns-on : (id : ℕ) (old left new : Built A K) (turns all : Turns) → HasRead (FindsBusy id) old left → new.system ≡ left.system
      → new.senders.items ≡ left.senders.items → AddsTurns gives left new turns all → HasRunTurns gives plan orders old turns
      → HasRunTurns gives plan orders new all
  turns-on id old left new turns all (before, after, read, found) same senders adds ran =
      let first = ran.first in let origin = origin_of first.system.gates in
      let of_system = subst (λ (s : System A K). OnlyFirstMade gives (origin_of s.gates) s.throughput left.handles.items new.handles.items adds.later)
      (read.system ∙ ran.system) adds.made in
      let more = subst (λ n. OnlyFirstMade gives origin n left.handles.items new.handles.items adds.later) ran.begun.numbers.2 of_system in
      let looked = first-looked gives origin plan.throughput old left before after read (found-looks id before after found) in record {
        first = first;
        begun = ran.begun;
        system = same ∙ read.system ∙ ran.system;
        sent = subst (HaveSent first.system.gates orders first.senders.items) (sym (senders ∙ read.senders)) ran.sent;
        made = subst (OnlyFirstMade gives origin plan.throughput first.handles.items new.handles.items) (sym adds.joined)
            (first-then gives origin plan.throughput first.handles.items old.handles.items new.handles.items (turns_in turns) adds.later ran.made
            (first-then gives origin plan.throughput old.handles.items left.handles.items new.handles.items [] adds.later looked more));
        kept = adds.kept ∙ ran.kept;
      }

  -- its report tells its turns
  pub tells-turns : (now : Built A K) (turns : Turns) → length orders ≡ plan.senders → HasRunTurns gives plan orders now turns → (report : Report)
      → length report.actors.items ≡ actors_of now.system.gates
      → All (λ (e : WorkerHandle A K). ReportExtendsAll report (pass_view e.registrar.pass)) now.handles.items → ReleasesAddUpTo now report
      → TellsTurns plan report turns
  tells-turns now turns right ran report lines extends releases =
      let first = ran.first in let origin = origin_of first.system.gates in let made = turns_in turns in
      let many : length report.actors.items ≡ length plan.actors.items + 1 =
      lines ∙ ap (λ (s : System A K). actors_of s.gates) ran.system ∙ actors-there gives plan first ran.begun
      ∙ length-who plan.journal plan.journal_limit plan.actors.items in
      let are = turns-of gives plan first ran.begun made (first-turns gives origin plan.throughput first.handles.items now.handles.items made ran.made) in
      let covers = all-turns-since first.system.gates orders first.handles.items first.senders.items now.senders.items now.senders.items
      ((senders-there gives plan first ran.begun).0 ∙ sym right) ran.sent refl (HaveTheirTurns report made)
      (λ whole none. all-turns gives origin plan.throughput first.handles.items now.handles.items now.senders.items made ran.made whole none report extends
      releases) ran.begun.whole (changed-none gives plan first ran.begun) in record {
        turns = are;
        stretches = first-stretches gives origin plan.throughput report first.handles.items now.handles.items made ran.made extends;
        covers = covers-of plan report made many are covers;
        kept_turns = ran.kept;
      }
