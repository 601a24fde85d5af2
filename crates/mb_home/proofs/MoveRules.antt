-- How the acts of each rule change the actor's own mailbox.
use Rattle.std.proofs.Common.{◌≡◌, Bool, true, false, List, [], ◌∷◌, ◌++◌, refl, sym, ap, ◌∙◌}
use Rattle.std.specs.Prelude.{not, ◌&&◌, if◌then◌else◌, is_some, Option, Some, None}
use Rattle.mb_msg.specs.declared.envelope.Body.{Body}
use Rattle.mb_msg.specs.declared.envelope.Body.TheVariants as body
use Rattle.mb_msg.specs.declared.id.ActorId.{ActorId}
use Rattle.mb_msg.specs.declared.supervision.Cause.{Cause}
use Rattle.mb_msg.specs.declared.supervision.Cause.TheVariants as cause
use Rattle.mb_msg.specs.declared.supervision.Directive.{Directive}
use Rattle.mb_msg.specs.declared.supervision.Directive.TheVariants as directive
use Rattle.mb_msg.specs.declared.system.SysMsg.TheVariants as system
use Rattle.mb_actor.specs.ActorList.{has}
use Rattle.mb_actor.specs.Behaviour.{Moment, Reply}
use Rattle.mb_actor.specs.OutboxView.{spawns_of}
use Rattle.mb_actor.specs.declared.answer.Answer.{Answer}
use Rattle.mb_actor.specs.declared.effect.Effect.{Effect}
use Rattle.mb_actor.specs.declared.phase.Phase.TheVariants.{Ending}
use Rattle.mb_journal.specs.Acts.{Act, to_each, effect_acts, fail_acts, create_acts, restart_acts, supervision_acts, end_acts}
use Rattle.mb_journal.specs.Acts.{terminate_acts, died_acts, failure_acts, envelope_acts}
use Rattle.mb_journal.specs.Acts.Act.{Tell, SuspendSelf, ResumeSelf, CloseSelf}
use Rattle.mb_journal.specs.Entry.{Entry, is_failed}
use Rattle.mb_journal.specs.Failure.{is_nobody, is_escalate, failed, failure_of}
use Rattle.mb_journal.specs.declared.failed_by.FailedBy.TheVariants.{Nobody}
use Rattle.mb_journal.specs.Identity.{Identity, is_guardian}
use Rattle.mb_journal.specs.Lawful.{IsGiven, envelope_call}
use Rattle.mb_journal.specs.Life.{children, phase, is_empty, is_alone}
use Rattle.mb_journal.specs.Phase.{phase_is}
use Rattle.mb_journal.specs.Retries.{meant_by, carried_out, is_restart_directive, may_restart}
use Rattle.mb_journal.specs.Supervision.{directive_of}
use Rattle.mb_journal.specs.Watching.{watchers, watching}
use Rattle.mb_journal.proofs.TestLemmas.{and-false, if_same}
use Rattle.mb_home.proofs.MoveLemmas.{moves, moves-behind, moves-to_each, moves-effects, moves-fail, moves-restarts, moves-end}

-- a suspension, if this is so
abbrev pub suspend_if : Bool → List Act
suspend_if b = if b then SuspendSelf ∷ [] else []

both-true : (a b : Bool) → suspend_if (a && b) ≡ (if b then suspend_if a else [])
both-true true true = refl
both-true true false = refl
both-true false true = refl
both-true false false = refl

suspend-not : (a : Bool) → suspend_if (a && false) ≡ []
suspend-not a = ap suspend_if (and-false a)

-- the directive that is carried out is to pass up exactly if it was decided so
carried-up : (d : Directive) (may : Bool) → is_escalate (if is_restart_directive d && not may then directive.Stop else d) ≡ is_escalate d
carried-up directive.Resume may = refl
carried-up directive.Restart true = refl
carried-up directive.Restart false = refl
carried-up directive.Stop may = refl
carried-up directive.Escalate may = refl

module _ (who : Identity) (before : List Entry) where
  moves-if : (b : Bool) (list : List Act) (l : List Act) → moves list ≡ l → moves (if b then list else []) ≡ (if b then l else [])
  moves-if true list l is = is
  moves-if false list l is = refl

  -- effects, and then others
  moves-then : (effects : List Effect) (list : List Act) → moves (effect_acts who.this (watching who before) effects ++ list) ≡ moves list
  moves-then effects list =
      moves-behind (effect_acts who.this (watching who before) effects) list (moves-effects who.this (watching who before) effects)

  moves-failure : (f : Option Cause) (effects : List Effect) →
      moves (failure_acts who before f effects) ≡ suspend_if (is_nobody (failed who before) && is_some f)
  moves-failure None effects = sym (suspend-not (is_nobody (failed who before)))
  moves-failure (Some c) effects =
      moves-fail who (failed who before) (children who before ++ spawns_of effects) c []
      ∙ sym (both-true (is_nobody (failed who before)) true)

  pub moves-body : (gives : Moment → Reply → Type 0) (b : Body) (a : Option Answer) (effects : List Effect) →
      IsGiven who gives before (envelope_call b) a effects →
      moves (envelope_acts who before b a effects) ≡ suspend_if (is_nobody (failed who before) && is_some (failure_of b a))
  moves-body gives (body.User kind value) a effects given =
      moves-then effects (failure_acts who before (failure_of (body.User kind value) a) effects)
      ∙ moves-failure (failure_of (body.User kind value) a) effects
  moves-body gives (body.Control kind value) a effects given =
      moves-then effects (failure_acts who before (failure_of (body.Control kind value) a) effects)
      ∙ moves-failure (failure_of (body.Control kind value) a) effects
  moves-body gives body.PoisonPill a effects given =
      sym (ap (λ x. suspend_if (is_nobody (failed who before) && is_some (failure_of body.PoisonPill x))) given.0
      ∙ suspend-not (is_nobody (failed who before)))
  moves-body gives body.Kill a effects given =
      moves-then effects (failure_acts who before (failure_of body.Kill a) effects) ∙ moves-failure (failure_of body.Kill a) effects
  moves-body gives (body.Terminated x) a effects given =
      moves-then effects (failure_acts who before (failure_of (body.Terminated x) a) effects)
      ∙ moves-failure (failure_of (body.Terminated x) a) effects

  pub moves-create : (a : Option Answer) (effects : List Effect) → (is_guardian who ≡ true → is_failed a ≡ false) → failed who before ≡ Nobody →
      moves (create_acts who before a effects) ≡ ResumeSelf ∷ suspend_if (is_failed a)
  moves-create a effects silent nobody = by_test (is_guardian who) silent
    where
      by_fail : moves (if is_failed a then fail_acts who (failed who before) (children who before ++ spawns_of effects) cause.Init [] else [])
          ≡ suspend_if (is_failed a)
      by_fail =
          moves-if (is_failed a) (fail_acts who (failed who before) (children who before ++ spawns_of effects) cause.Init []) (SuspendSelf ∷ [])
          (moves-fail who (failed who before) (children who before ++ spawns_of effects) cause.Init [] ∙ ap (λ by. suspend_if (is_nobody by)) nobody)

      by_test : (b : Bool) → (b ≡ true → is_failed a ≡ false) → moves (if b then ResumeSelf ∷ to_each system.Create who.prepared
          else ResumeSelf ∷ effect_acts who.this (watching who before) effects
          ++ (if is_failed a then fail_acts who (failed who before) (children who before ++ spawns_of effects) cause.Init [] else []))
          ≡ ResumeSelf ∷ suspend_if (is_failed a)
      by_test true none = ap (λ l. ResumeSelf ∷ l) (moves-to_each system.Create who.prepared) ∙ sym (ap (λ b. ResumeSelf ∷ suspend_if b) (none refl))
      by_test false none =
          ap (λ l. ResumeSelf ∷ l) (moves-then effects (if is_failed a then fail_acts who (failed who before)
          (children who before ++ spawns_of effects) cause.Init [] else []) ∙ by_fail)

  pub moves-restart : (c : Cause) (a : Option Answer) (effects : List Effect) → moves (restart_acts who before c a effects)
      ≡ ResumeSelf ∷ suspend_if (is_failed a)
  moves-restart c a effects = ap (λ l. ResumeSelf ∷ l) (by_test (is_failed a))
    where
      by_test : (b : Bool) → moves (effect_acts who.this (watching who before) effects
          ++ (if b then fail_acts who Nobody (children who before ++ spawns_of effects) cause.Init (children who before)
          else to_each (system.Recreate c) (children who before))) ≡ suspend_if b
      by_test true =
          moves-then effects (fail_acts who Nobody (children who before ++ spawns_of effects) cause.Init (children who before))
          ∙ moves-fail who Nobody (children who before ++ spawns_of effects) cause.Init (children who before)
      by_test false = moves-then effects (to_each (system.Recreate c) (children who before))
          ∙ moves-to_each (system.Recreate c) (children who before)

  pub moves-terminate : (effects : List Effect) →
      moves (terminate_acts who before effects) ≡ (if is_empty (children who before) then CloseSelf ∷ [] else SuspendSelf ∷ [])
  moves-terminate effects =
      moves-behind (to_each (system.Unwatch who.this) (watching who before) ++ to_each system.Terminate (children who before))
      (if is_empty (children who before) then end_acts who (watchers before) effects else SuspendSelf ∷ [])
      (moves-behind (to_each (system.Unwatch who.this) (watching who before)) (to_each system.Terminate (children who before))
      (moves-to_each (system.Unwatch who.this) (watching who before))
      ∙ moves-to_each system.Terminate (children who before))
      ∙ by_test (is_empty (children who before))
    where
      by_test : (b : Bool) → moves (if b then end_acts who (watchers before) effects else SuspendSelf ∷ []) ≡ (if b then CloseSelf ∷ []
          else SuspendSelf ∷ [])
      by_test true = moves-end who (watchers before) effects
      by_test false = refl

  pub moves-died : (x : ActorId) (effects : List Effect) →
      moves (died_acts who before x effects) ≡ (if phase_is (phase who before) Ending && is_alone (children who before) x then CloseSelf ∷ []
      else [])
  moves-died x effects =
      moves-behind (if has (watching who before) x then Tell who.this (body.Terminated x) ∷ [] else [])
      (if phase_is (phase who before) Ending && is_alone (children who before) x then end_acts who (watchers before) effects else [])
      (moves-if (has (watching who before) x) (Tell who.this (body.Terminated x) ∷ []) [] refl
      ∙ if_same {A = List Act} (has (watching who before) x) [])
      ∙ moves-if (phase_is (phase who before) Ending && is_alone (children who before) x) (end_acts who (watchers before) effects) (CloseSelf ∷ [])
      (moves-end who (watchers before) effects)

  moves-directive : (x : ActorId) (c : Cause) (d : Directive) →
      moves (supervision_acts who before x c d) ≡ (if is_escalate d then suspend_if (is_nobody (failed who before)) else [])
  moves-directive x c directive.Resume = refl
  moves-directive x c directive.Restart = moves-restarts x c (meant_by who before x)
  moves-directive x c directive.Stop = moves-to_each system.Terminate (meant_by who before x)
  moves-directive x c directive.Escalate = moves-fail who (failed who before) (children who before) c (x ∷ [])

  pub moves-failed : (x : ActorId) (c : Cause) →
      moves (if has (children who before) x then supervision_acts who before x c (carried_out who before x c) else [])
      ≡ suspend_if (is_nobody (failed who before) && (has (children who before) x && is_escalate (directive_of who c)))
  moves-failed x c = by_child (has (children who before) x)
    where
      up : moves (supervision_acts who before x c (carried_out who before x c)) ≡ suspend_if (is_nobody (failed who before) && is_escalate
          (directive_of who c))
      up =
          moves-directive x c (carried_out who before x c)
          ∙ ap (λ b. if b then suspend_if (is_nobody (failed who before)) else []) (carried-up (directive_of who c) (may_restart who before x))
          ∙ sym (both-true (is_nobody (failed who before)) (is_escalate (directive_of who c)))

      by_child : (b : Bool) → moves (if b then supervision_acts who before x c (carried_out who before x c) else [])
          ≡ suspend_if (is_nobody (failed who before) && (b && is_escalate (directive_of who c)))
      by_child true = up
      by_child false = sym (suspend-not (is_nobody (failed who before)))
