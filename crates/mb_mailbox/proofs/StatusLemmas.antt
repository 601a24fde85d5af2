-- How a status that was written changes a run.
use Rattle.std.proofs.Common.{◌≡◌, ℕ, List, ◌∷◌, refl, sym, ap, ◌∙◌, subst}
use Rattle.std.specs.Global.{Box}
use Rattle.mb_status.specs.Mailbox.{Mailbox, suspend, resume, closed_mailbox}
use Rattle.mb_actor.specs.Behaviour.{Moment, Reply}
use Rattle.mb_journal.specs.Acts.Act.{SuspendSelf, ResumeSelf, CloseSelf}
use Rattle.mb_gate.specs.declared.claim.Claim.{Claim}
use Rattle.mb_gate.specs.Accessors.{claim_id, claim_view, held_actor, status_of, given_to, SameTaken}
use Rattle.mb_gate.specs.Untouched.{Origin}
use Rattle.mb_gate.specs.View.{Observation, writing}
use Rattle.mb_home.specs.AtHome.{given_of}
use Rattle.mb_home.specs.Contents.{Contents}
use Rattle.mb_mailbox.specs.RunState.{RunState, run_state}
use Rattle.mb_mailbox.specs.Running.{IsRunning, BacklogAgrees, KeepsJournal}
use Rattle.mb_mailbox.proofs.BacklogLemmas.{backlog-status}
use Rattle.mb_mailbox.proofs.EmptiedLemmas.{takes-same}
use Rattle.mb_mailbox.proofs.RunStateLemmas.{hold-written}
use Rattle.mb_mailbox.proofs.RunningSteps.{running-suspend, running-resume, running-close}

module _ (c new : Claim (Box Contents)) (m : Mailbox) (word : ℕ) (ours : (claim_id new ≡ claim_id c) × (held_actor new ≡ held_actor c))
    (home : new.home ≡ c.home) (known : claim_view new ≡ writing word (claim_view c)) (taken : SameTaken c new) (status : status_of new ≡ m) where
  hold-status : run_state new ≡ record (run_state c) { status = m }
  hold-status = hold-written c new ours home word known taken ∙ ap (λ (s : Mailbox). record (run_state c) { status = s }) status

  pub keeps-written : KeepsJournal (run_state c) (run_state new)
  keeps-written =
      subst (KeepsJournal (run_state c)) (sym hold-status)
      (record {
        same = record { actor = refl; who = refl; before = refl; takes = takes-same _ _ refl; counted = refl };
        journal = refl;
        loaded = refl;
      })

  pub backlog-written : m.closed ≡ (status_of c).closed → BacklogAgrees (run_state c) → BacklogAgrees (run_state new)
  backlog-written same s = subst BacklogAgrees (sym hold-status) (backlog-status (run_state c) s m same)

  pub count-written : given_of c.home.value ≡ given_to c → given_of new.home.value ≡ given_to new
  count-written count = subst (λ (x : RunState). given_of x.home ≡ x.given) (sym hold-status) count

  module _ (gives : ℕ → Moment → Reply → Type 0) (origin : Origin (Box Contents)) (seen : List Observation) where
    pub running-suspended : m ≡ suspend (status_of c) → IsRunning gives origin (SuspendSelf ∷ c.home.value.cell.acts) seen (run_state c) →
        IsRunning gives origin new.home.value.cell.acts seen (run_state new)
    running-suspended is r =
        subst (λ (x : RunState). IsRunning gives origin x.home.cell.acts seen x)
        (sym (hold-status ∙ ap (λ (s : Mailbox). record (run_state c) { status = s }) is))
        (running-suspend gives origin seen (run_state c) c.home.value.cell.acts r).1

    pub running-resumed : m ≡ resume (status_of c) → IsRunning gives origin (ResumeSelf ∷ c.home.value.cell.acts) seen (run_state c) →
        IsRunning gives origin new.home.value.cell.acts seen (run_state new)
    running-resumed is r =
        subst (λ (x : RunState). IsRunning gives origin x.home.cell.acts seen x)
        (sym (hold-status ∙ ap (λ (s : Mailbox). record (run_state c) { status = s }) is))
        (running-resume gives origin seen (run_state c) c.home.value.cell.acts r)

    pub running-closed : m ≡ closed_mailbox → IsRunning gives origin (CloseSelf ∷ c.home.value.cell.acts) seen (run_state c) →
        IsRunning gives origin new.home.value.cell.acts seen (run_state new)
    running-closed is r =
        subst (λ (x : RunState). IsRunning gives origin x.home.cell.acts seen x)
        (sym (hold-status ∙ ap (λ (s : Mailbox). record (run_state c) { status = s }) is))
        (running-close gives origin seen (run_state c) c.home.value.cell.acts r)
