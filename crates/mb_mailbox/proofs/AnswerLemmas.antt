-- Who is told that a receiver has ended, and how that changes a run.
use Rattle.std.proofs.Common.{◌≡◌, ℕ, true, List, [], ◌∷◌, ◌++◌, Option, Some, None, refl, sym, ap, ◌∙◌, subst}
use Rattle.std.specs.Global.{Box}
use Rattle.mb_msg.specs.declared.id.ActorId.{ActorId}
use Rattle.mb_msg.specs.declared.system.SysMsg.{SysMsg}
use Rattle.mb_msg.specs.declared.system.SysMsg.TheVariants as system
use Rattle.mb_actor.specs.Behaviour.{Moment, Reply}
use Rattle.mb_journal.specs.Acts.{Act}
use Rattle.mb_journal.specs.Acts.Act.{Sys}
use Rattle.mb_gate.specs.declared.claim.Claim.{Claim}
use Rattle.mb_gate.specs.Accessors.{IsRecorded}
use Rattle.mb_gate.specs.SentSystem.{answered_to, notice}
use Rattle.mb_gate.specs.View.{Observation, SentSystem}
use Rattle.mb_home.specs.Contents.{Contents}
use Rattle.mb_gate.specs.Untouched.{Origin}
use Rattle.mb_mailbox.specs.RunState.{RunState, run_state}
use Rattle.mb_mailbox.specs.Notice.{IsAnswered, asker}
use Rattle.mb_mailbox.specs.Running.{IsRunning}
use Rattle.mb_mailbox.proofs.RunStateLemmas.{hold-recorded}
use Rattle.mb_mailbox.proofs.RunningSteps.{running-answered, running-dropped}

abbrev pub number_of : Option ActorId → Option ℕ
number_of None = None
number_of (Some whom) = Some whom.0

-- the claim's own actor is the parent of the actors that it starts
pub asker-told : (actor : ActorId) (message : SysMsg) → answered_to actor.0 message ≡ number_of (asker (Some actor) message)
asker-told actor system.Create = refl
asker-told actor (system.Recreate c) = refl
asker-told actor system.Suspend = refl
asker-told actor (system.Resume f) = refl
asker-told actor system.Terminate = refl
asker-told actor (system.Watch w) = refl
asker-told actor (system.Unwatch w) = refl
asker-told actor (system.Failed x c) = refl
asker-told actor (system.Died x) = refl

module _ (gives : ℕ → Moment → Reply → Type 0) (origin : Origin (Box Contents)) (seen : List Observation) (rest : List Act) (to : ActorId)
    (message : SysMsg)
    (c mid new : Claim (Box Contents)) (r : IsRunning gives origin (Sys to message ∷ rest) seen (run_state c))
    (sent_system : IsRecorded c mid (record { to = to.0; message = message; was_ended = true })) where
  refused : run_state mid ≡ record (run_state c) { recorded = (run_state c).recorded ++ record { to = to.0; message = message; was_ended = true } ∷ [] }
  refused = hold-recorded c mid (record { to = to.0; message = message; was_ended = true }) sent_system

  -- a message that found its list ended was answered for, where somebody waits
  pub running-answer : (asked : Option ActorId) → answered_to (run_state c).actor message ≡ number_of asked → IsAnswered asked to.0 mid new →
      IsRunning gives origin rest seen (run_state new)
  running-answer None nobody same =
      subst (IsRunning gives origin rest seen) (sym (ap (λ (x : Claim (Box Contents)). run_state x) same ∙ refused))
      (running-dropped gives origin seen (run_state c) rest to message r nobody)
  running-answer (Some whom) right n =
      let note : SentSystem = record { to = whom.0; message = notice to.0; was_ended = n.was_ended } in
      subst (IsRunning gives origin rest seen)
      (sym (hold-recorded mid new note n.recorded ∙ ap (λ (h : RunState). record h { recorded = h.recorded ++ note ∷ [] }) refused))
      (running-answered gives origin seen (run_state c) rest to message r whom.0 n.was_ended right)
