-- A system message to an actor that was never started, other than a Create and a Terminate, changes nothing but that its number
-- is used up; nor does a Failed of an actor that is no child, whenever it comes.
use Rattle.std.proofs.Common.{◌≡◌, ℕ, List, [], ◌++◌, Bool, true, false, refl, ap, sym, ◌∙◌}
use Rattle.std.specs.Prelude.{not, ◌&&◌, ◌||◌, if◌then◌else◌, None}
use Rattle.std.proofs.lemmas.List.{append-nil}
use Rattle.mb_msg.specs.declared.id.ActorId.{ActorId}
use Rattle.mb_msg.specs.declared.supervision.Cause.{Cause}
use Rattle.mb_msg.specs.declared.system.SysMsg.TheVariants as system
use Rattle.mb_actor.specs.ActorList.{has}
use Rattle.mb_actor.specs.declared.phase.Phase.TheVariants.{Fresh, Live, Broken, Ending}
use Rattle.mb_journal.specs.ActorList.{without, joined}
use Rattle.mb_journal.specs.Entry.{Entry}
use Rattle.mb_journal.specs.Entry.Entry.{System}
use Rattle.mb_journal.specs.Entry.Outcome.{Applied}
use Rattle.mb_journal.specs.Failure.{is_nobody, is_escalate, is_resume_of_failure}
use Rattle.mb_journal.specs.Identity.{Identity, is_guardian}
use Rattle.mb_journal.specs.Life.{is_alone}
use Rattle.mb_journal.specs.Phase.{phase_is}
use Rattle.mb_journal.specs.Retries.{is_restart_directive, is_given, through_refusal}
use Rattle.mb_journal.specs.Supervision.{directive_of}
use Rattle.mb_journal.proofs.Fold.{Queries, next_queries, restarts, fails, meant_on}
use Rattle.mb_journal.proofs.Steps.{tests_of, step-tests, tests-are, none_passed, passed, fails-not, phase-still, no_child, suspend_entry}
use Rattle.mb_journal.proofs.ResumeSteps.{resume_entry}
use Rattle.mb_journal.proofs.TestLemmas.{and-false, none_excepted}

module _ (who : Identity) (q : Queries) (number : ℕ) (fresh : q.phase ≡ Fresh) where
  -- a Recreate
  abbrev pub fresh_recreate_entry : Cause → Entry
  fresh_recreate_entry c = System number (system.Recreate c) (Applied None [])

  pub fresh_recreate-tests : (c : Cause) → tests_of who q (fresh_recreate_entry c) ≡ none_passed
  fresh_recreate-tests c =
      tests-are who q (fresh_recreate_entry c) none_passed refl refl no_restart (and-false (phase_is q.phase Ending))
      ((λ i. (no_restart i && false) || (is_nobody q.failed && false)) ∙ fails-not q) refl refl refl
    where
      no_restart : restarts who q (fresh_recreate_entry c) ≡ false
      no_restart = ap (λ p. not (phase_is p Fresh) && not (is_guardian who)) fresh

  pub fresh_recreate-step : (c : Cause) → next_queries who q (fresh_recreate_entry c) ≡ passed q (fresh_recreate_entry c)
  fresh_recreate-step c =
      step-tests who q (fresh_recreate_entry c) none_passed (fresh_recreate-tests c)
      ∙ (λ i. record (passed q (fresh_recreate_entry c)) {
        phase = phase-still q.phase Live i;
        children = no_child who q.children i;
        messages = append-nil q.messages i;
        unspawned = none_excepted q.unspawned i;
      })

  -- a Suspend
  pub fresh_suspend-tests : tests_of who q (suspend_entry who q number) ≡ none_passed
  fresh_suspend-tests =
      tests-are who q (suspend_entry who q number) none_passed refl refl refl (and-false (phase_is q.phase Ending)) (fails-not q)
      (ap (λ p. not (phase_is p Fresh)) fresh) refl refl

  pub fresh_suspend-step : next_queries who q (suspend_entry who q number) ≡ passed q (suspend_entry who q number)
  fresh_suspend-step =
      step-tests who q (suspend_entry who q number) none_passed fresh_suspend-tests
      ∙ (λ i. record (passed q (suspend_entry who q number)) {
        phase = phase-still q.phase Live i;
        children = no_child who q.children i;
        messages = append-nil q.messages i;
        unspawned = none_excepted q.unspawned i;
      })

  -- a Resume
  pub fresh_resume-tests : (f : Bool) → tests_of who q (resume_entry who q number f) ≡ none_passed
  fresh_resume-tests f =
      tests-are who q (resume_entry who q number f) none_passed refl refl no_restart (and-false (phase_is q.phase Ending))
      ((λ i. (no_restart i && false) || (is_nobody q.failed && false)) ∙ fails-not q) refl
      (ap (λ p. not (phase_is p Fresh)) fresh)
      (ap (λ p. (is_resume_of_failure (system.Resume f) && true) && phase_is p Live) fresh
      ∙ and-false (is_resume_of_failure (system.Resume f) && true))
    where
      no_restart : restarts who q (resume_entry who q number f) ≡ false
      no_restart = ap (λ p. phase_is p Broken && not (phase_is p Fresh) && not (is_guardian who)) fresh

  pub fresh_resume-step : (f : Bool) →
      next_queries who q (resume_entry who q number f) ≡ passed q (resume_entry who q number f)
  fresh_resume-step f =
      step-tests who q (resume_entry who q number f) none_passed (fresh_resume-tests f)
      ∙ (λ i. record (passed q (resume_entry who q number f)) {
        phase = phase-still q.phase Live i;
        children = no_child who q.children i;
        messages = append-nil q.messages i;
        unspawned = none_excepted q.unspawned i;
      })

  -- a Died: it has no children yet, and watches nobody
  abbrev pub fresh_died_entry : ActorId → Entry
  fresh_died_entry x = System number (system.Died x) (Applied None [])

  pub fresh_died-tests : (x : ActorId) → tests_of who q (fresh_died_entry x) ≡ none_passed
  fresh_died-tests x =
      tests-are who q (fresh_died_entry x) none_passed refl refl refl (ap (λ p. phase_is p Ending && is_alone q.children x) fresh) (fails-not q)
      refl refl refl

  pub fresh_died-step : (x : ActorId) → q.children ≡ [] → q.watching ≡ [] →
      next_queries who q (fresh_died_entry x) ≡ passed q (fresh_died_entry x)
  fresh_died-step x childless watches_none =
      step-tests who q (fresh_died_entry x) none_passed (fresh_died-tests x)
      ∙ (λ i. record (passed q (fresh_died_entry x)) {
        phase = phase-still q.phase Live i;
        children = still_none i;
        watching = without_none q.watching watches_none i;
        due = not_due i;
        messages = append-nil q.messages i;
        unspawned = none_excepted q.unspawned i;
      })
    where
      without_none : (list : List ActorId) → list ≡ [] → without list x ≡ list
      without_none list none = ap (λ xs. without xs x) none ∙ sym none

      still_none : without q.children x ++ (if is_guardian who then [] else []) ≡ q.children
      still_none = no_child who (without q.children x) ∙ without_none q.children childless

      not_due : (if has q.watching x then joined q.due x else q.due) ≡ q.due
      not_due = ap (λ xs. if has xs x then joined q.due x else q.due) watches_none

-- ---- a Failed of an actor that is no child

module _ (who : Identity) (q : Queries) (number : ℕ) (x : ActorId) (c : Cause) where
  abbrev pub failed_entry : Entry
  failed_entry = System number (system.Failed x c) (Applied None [])

  pub failed_stranger-tests : has q.children x ≡ false → tests_of who q failed_entry ≡ none_passed
  failed_stranger-tests stranger =
      tests-are who q failed_entry none_passed refl refl refl (and-false (phase_is q.phase Ending)) no_failure refl refl refl
    where
      no_failure : fails who q failed_entry ≡ false
      no_failure = (λ i. is_nobody q.failed && (stranger i && is_escalate (directive_of who c))) ∙ and-false (is_nobody q.failed)

  pub failed_stranger-step : has q.children x ≡ false → next_queries who q failed_entry ≡ passed q failed_entry
  failed_stranger-step stranger =
      step-tests who q failed_entry none_passed (failed_stranger-tests stranger)
      ∙ (λ i. record (passed q failed_entry) {
        phase = phase-still q.phase Live i;
        children = no_child who q.children i;
        requests = unasked i;
        messages = append-nil q.messages i;
        unspawned = none_excepted q.unspawned i;
      })
    where
      unasked : q.requests ++ (if has q.children x && is_restart_directive (directive_of who c)
          then through_refusal (is_given who q.requests) (meant_on who q x) else []) ≡ q.requests
      unasked =
          (λ i. q.requests ++ (if stranger i && is_restart_directive (directive_of who c)
          then through_refusal (is_given who q.requests) (meant_on who q x) else []))
          ∙ append-nil q.requests

  -- one that was never started has no children
  pub fresh_failed-tests : q.children ≡ [] → tests_of who q failed_entry ≡ none_passed
  fresh_failed-tests childless = failed_stranger-tests (ap (λ list. has list x) childless)

  pub fresh_failed-step : q.children ≡ [] → next_queries who q failed_entry ≡ passed q failed_entry
  fresh_failed-step childless = failed_stranger-step (ap (λ list. has list x) childless)
