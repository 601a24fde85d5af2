-- How a system message that was sent changes a run.
use Rattle.std.proofs.Common.{◌≡◌, ℕ, Bool, true, false, List, [], ◌∷◌, ◌++◌, Option, Some, None, refl, sym, ap, ◌∙◌, subst}
use Rattle.std.specs.Global.{Box}
use Rattle.mb_msg.specs.declared.id.ActorId.{ActorId}
use Rattle.mb_msg.specs.declared.system.SysMsg.{SysMsg}
use Rattle.mb_actor.specs.Behaviour.{Moment, Reply}
use Rattle.mb_journal.specs.Acts.{Act}
use Rattle.mb_journal.specs.Acts.Act.{Sys}
use Rattle.mb_gate.specs.declared.claim.Claim.{Claim}
use Rattle.mb_gate.specs.Accessors.{held_actor, recorded_by, IsRecorded}
use Rattle.mb_gate.specs.SentSystem.{answered_to, notice}
use Rattle.mb_gate.specs.Untouched.{Origin}
use Rattle.mb_gate.specs.View.{Observation, SentSystem}
use Rattle.mb_home.specs.Contents.{Contents}
use Rattle.mb_register.specs.Caller.{Caller, CallerAdvances}
use Rattle.mb_mailbox.specs.RunState.{RunState, run_state}
use Rattle.mb_mailbox.specs.Notice.{IsAnswered, IsNotified, asker}
use Rattle.mb_mailbox.specs.Running.{IsRunning, BacklogAgrees, KeepsJournal}
use Rattle.mb_mailbox.proofs.AnswerLemmas.{asker-told, running-answer}
use Rattle.mb_mailbox.proofs.BacklogLemmas.{backlog-recorded, keeps-same}
use Rattle.mb_mailbox.proofs.EmptiedLemmas.{takes-same}
use Rattle.mb_mailbox.proofs.RunStateLemmas.{hold-recorded}
use Rattle.mb_mailbox.proofs.RunningSteps.{running-seen, running-listed}

-- the pass saw more
pub running-caller_advances : (gives : ℕ → Moment → Reply → Type 0) (origin : Origin (Box Contents)) (pending : List Act) (a b : Caller (Box Contents))
    (h : RunState) → CallerAdvances a b → IsRunning gives origin pending a.view.log h → IsRunning gives origin pending b.view.log h
running-caller_advances gives origin pending a b h g r =
    subst (λ log. IsRunning gives origin pending log h) (sym g.log) (running-seen gives origin pending g.more a.view.log h r)

-- ---- a system message was sent

pub notified : (whom ended : ℕ) (m : SysMsg) (was_ended : Bool) (old new : Claim (Box Contents)) → m ≡ notice ended →
    IsRecorded old new (record { to = whom; message = m; was_ended = was_ended }) → IsNotified whom ended old new
notified whom ended m was_ended old new same sent_system = record {
  was_ended = was_ended;
  recorded = subst (λ x. IsRecorded old new (record { to = whom; message = x; was_ended = was_ended })) same sent_system;
}

module _ (c new : Claim (Box Contents)) (sent_system : SentSystem) (r : IsRecorded c new sent_system) where
  pub keeps-recorded : KeepsJournal (run_state c) (run_state new)
  keeps-recorded =
      subst (KeepsJournal (run_state c)) (sym (hold-recorded c new sent_system r))
      (record {
        same = record { actor = refl; who = refl; before = refl; takes = takes-same _ _ refl; counted = refl };
        journal = refl;
        loaded = refl;
      })

  pub backlog-sent_system : BacklogAgrees (run_state c) → BacklogAgrees (run_state new)
  backlog-sent_system s = subst BacklogAgrees (sym (hold-recorded c new sent_system r)) (backlog-recorded (run_state c) s (recorded_by c ++ sent_system ∷ []))

-- who waits was told, or nobody waits
module _ (ended : ℕ) (c new : Claim (Box Contents)) where
  pub keeps-answered : (asked : Option ActorId) → IsAnswered asked ended c new → KeepsJournal (run_state c) (run_state new)
  keeps-answered None same = subst (λ x. KeepsJournal (run_state c) (run_state x)) (sym same) (keeps-same (run_state c))
  keeps-answered (Some whom) n = keeps-recorded c new _ n.recorded

  pub backlog-answered : (asked : Option ActorId) → IsAnswered asked ended c new → BacklogAgrees (run_state c) → BacklogAgrees (run_state new)
  backlog-answered None same s = subst (λ x. BacklogAgrees (run_state x)) (sym same) s
  backlog-answered (Some whom) n s = backlog-sent_system c new _ n.recorded s

  pub home-answered : (asked : Option ActorId) → IsAnswered asked ended c new → new.home ≡ c.home
  home-answered None same = ap (λ (x : Claim (Box Contents)). x.home) same
  home-answered (Some whom) n = n.recorded.home

-- ---- in a run

module _ (gives : ℕ → Moment → Reply → Type 0) (origin : Origin (Box Contents)) (seen : List Observation) (to : ActorId) (message : SysMsg)
    (c : Claim (Box Contents)) (r : IsRunning gives origin (Sys to message ∷ c.home.value.cell.acts) seen (run_state c)) where
  -- a list took the message
  pub running-sent_system : (new : Claim (Box Contents)) → IsRecorded c new (record { to = to.0; message = message; was_ended = false }) →
      IsRunning gives origin new.home.value.cell.acts seen (run_state new)
  running-sent_system new sent_system =
      subst (λ (x : RunState). IsRunning gives origin x.home.cell.acts seen x) (sym (hold-recorded c new _ sent_system))
      (running-listed gives origin seen (run_state c) c.home.value.cell.acts to message r)

  -- it found its list ended, and who waits for an answer was told: of a Create this actor, which is the parent
  pub running-refused : (mid new : Claim (Box Contents)) (left : SysMsg) (own : ActorId) → left ≡ message → own.0 ≡ held_actor mid →
      IsRecorded c mid (record { to = to.0; message = message; was_ended = true }) → IsAnswered (asker (Some own) left) to.0 mid new →
      IsRunning gives origin new.home.value.cell.acts seen (run_state new)
  running-refused mid new left own same here sent_system answered =
      let asked = asker (Some own) message in
      let answered' : IsAnswered asked to.0 mid new = subst (λ x. IsAnswered (asker (Some own) x) to.0 mid new) same answered in
      let actor : held_actor c ≡ own.0 = sym sent_system.actor ∙ sym here in
      subst (λ (b : Box Contents). IsRunning gives origin b.value.cell.acts seen (run_state new))
      (sym (home-answered to.0 mid new asked answered' ∙ sent_system.home))
      (running-answer gives origin seen c.home.value.cell.acts to message c mid new r sent_system asked
      (ap (λ n. answered_to n message) actor ∙ asker-told own message) answered')
