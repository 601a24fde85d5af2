-- What a Resume and a Recreate make of all queries of an actor that was started and does not end.
use Rattle.std.proofs.Common.{◌≡◌, ℕ, ◌+◌, ◌-◌, List, [], ◌++◌, Bool, true, false, refl, ap, ◌∙◌}
use Rattle.std.specs.Prelude.{not, ◌&&◌, ◌||◌, if◌then◌else◌, filter, Some, None}
use Rattle.std.proofs.lemmas.List.{append-nil}
use Rattle.mb_msg.specs.declared.supervision.Cause.{Cause}
use Rattle.mb_msg.specs.declared.system.SysMsg.TheVariants as system
use Rattle.mb_actor.specs.ActorList.{has}
use Rattle.mb_actor.specs.OutboxView.{spawns_of}
use Rattle.mb_actor.specs.declared.answer.Answer.{Answer}
use Rattle.mb_actor.specs.declared.effect.Effect.{Effect}
use Rattle.mb_actor.specs.declared.phase.Phase.TheVariants.{Fresh, Live, Broken, Ending, Ended}
use Rattle.mb_journal.specs.Entry.{Entry, is_failed}
use Rattle.mb_journal.specs.Entry.Entry.{System}
use Rattle.mb_journal.specs.Entry.Outcome.{Applied}
use Rattle.mb_journal.specs.Failure.{is_nobody, is_resume_of_failure}
use Rattle.mb_journal.specs.declared.failed_by.FailedBy.TheVariants.{Nobody, Itself}
use Rattle.mb_journal.specs.Identity.{Identity, is_guardian}
use Rattle.mb_journal.specs.Phase.{phase_is}
use Rattle.mb_journal.specs.Watching.{watching_after, due_after}
use Rattle.mb_journal.proofs.CreateSteps.{fails-as_answered, running-failure}
use Rattle.mb_journal.proofs.Fold.{Queries, next_queries, restarts}
use Rattle.mb_journal.proofs.Steps.{Tests, tests_of, step-tests, tests-are, none_passed, passed, fails-not, phase-still, no_child}
use Rattle.mb_journal.proofs.TestLemmas.{and-false, none_excepted}

-- a Resume is for the actor's failure if it says so
resumes-failure : (f : Bool) → ((is_resume_of_failure (system.Resume f) && true) && true) ≡ f
resumes-failure true = refl
resumes-failure false = refl

-- ---- a message that the actor is not called for: a Resume while Live, and a Recreate of the guardian

module _ (who : Identity) (q : Queries) (number : ℕ) (f : Bool) where
  abbrev pub resume_entry : Entry
  resume_entry = System number (system.Resume f) (Applied None [])

  abbrev pub resume_tests : Tests
  resume_tests = record none_passed { resume = true; resume_of_failure = f }

  pub resume-tests : q.phase ≡ Live → tests_of who q resume_entry ≡ resume_tests
  resume-tests live =
      tests-are who q resume_entry resume_tests refl refl no_restart (and-false (phase_is q.phase Ending))
      ((λ i. (no_restart i && false) || (is_nobody q.failed && false)) ∙ fails-not q) refl
      (ap (λ p. not (phase_is p Fresh)) live)
      (ap (λ p. (is_resume_of_failure (system.Resume f) && true) && phase_is p Live) live ∙ resumes-failure f)
    where
      no_restart : restarts who q resume_entry ≡ false
      no_restart = ap (λ p. phase_is p Broken && not (phase_is p Fresh) && not (is_guardian who)) live

  -- one suspension less, and the failure that it is meant for is over
  pub resume-step : q.phase ≡ Live →
      next_queries who q resume_entry ≡ record (passed q resume_entry) {
        marked = q.marked - 1;
        failed = if f then Nobody else q.failed;
      }
  resume-step live =
      step-tests who q resume_entry resume_tests (resume-tests live)
      ∙ (λ i. record (passed q resume_entry) {
        phase = phase-still q.phase Live i;
        marked = q.marked - 1;
        failed = if f then Nobody else q.failed;
        children = no_child who q.children i;
        messages = append-nil q.messages i;
        unspawned = none_excepted q.unspawned i;
      })

module _ (who : Identity) (q : Queries) (number : ℕ) (c : Cause) where
  abbrev pub recreate_guardian_entry : Entry
  recreate_guardian_entry = System number (system.Recreate c) (Applied None [])

  pub recreate_guardian-tests : is_guardian who ≡ true → tests_of who q recreate_guardian_entry ≡ none_passed
  recreate_guardian-tests guardian =
      tests-are who q recreate_guardian_entry none_passed refl refl no_restart (and-false (phase_is q.phase Ending))
      ((λ i. (no_restart i && false) || (is_nobody q.failed && false)) ∙ fails-not q) refl refl refl
    where
      no_restart : restarts who q recreate_guardian_entry ≡ false
      no_restart = (λ i. not (phase_is q.phase Fresh) && not (guardian i)) ∙ and-false (not (phase_is q.phase Fresh))

  -- the guardian is not restarted
  pub recreate_guardian-step : is_guardian who ≡ true →
      next_queries who q recreate_guardian_entry ≡ passed q recreate_guardian_entry
  recreate_guardian-step guardian =
      step-tests who q recreate_guardian_entry none_passed (recreate_guardian-tests guardian)
      ∙ (λ i. record (passed q recreate_guardian_entry) {
        phase = phase-still q.phase Live i;
        children = no_child who q.children i;
        messages = append-nil q.messages i;
        unspawned = none_excepted q.unspawned i;
      })

-- ---- a restart: a Recreate, and a Resume while Broken

module _ (who : Identity) (q : Queries) (number : ℕ) (c : Cause) (a : Answer) (effects : List Effect) where
  abbrev pub recreate_entry : Entry
  recreate_entry = System number (system.Recreate c) (Applied (Some a) effects)

  abbrev pub recreate_tests : Tests
  recreate_tests = record none_passed { restart = true; failure = is_failed (Some a) }

  pub recreate-tests : phase_is q.phase Fresh ≡ false → is_guardian who ≡ false → tests_of who q recreate_entry ≡ recreate_tests
  recreate-tests off_fresh an_actor =
      tests-are who q recreate_entry recreate_tests refl refl a_restart (and-false (phase_is q.phase Ending))
      (fails-as_answered q (restarts who q recreate_entry) (is_failed (Some a)) a_restart) refl refl refl
    where
      a_restart : restarts who q recreate_entry ≡ true
      a_restart = λ i. not (off_fresh i) && not (an_actor i)

  -- one suspension is gone, and there is one more if it failed
  pub recreate-step : phase_is q.phase Fresh ≡ false → phase_is q.phase Ending ≡ false → phase_is q.phase Ended ≡ false →
      is_guardian who ≡ false →
      next_queries who q recreate_entry ≡ record (passed q recreate_entry) {
        phase = if is_failed (Some a) then Broken else Live;
        marked = if is_failed (Some a) then q.marked - 1 + 1 else q.marked - 1;
        failed = if is_failed (Some a) then Itself else Nobody;
        children = q.children ++ spawns_of effects;
        watching = watching_after who.this q.watching effects;
        due = due_after q.due effects;
        messages = [];
        unspawned = filter (λ x. not (has (spawns_of effects) x)) q.unspawned;
      }
  recreate-step off_fresh off_ending off_ended an_actor =
      step-tests who q recreate_entry recreate_tests (recreate-tests off_fresh an_actor)
      ∙ (λ i. record (passed q recreate_entry) {
        phase =
            if off_ended i || false then Ended
            else (if off_ending i || false then Ending
            else (if is_failed (Some a) then Broken else Live));
        marked = running-failure (q.marked - 1) (is_failed (Some a)) i;
        failed = if is_failed (Some a) then Itself else Nobody;
        children = q.children ++ (if an_actor i then [] else spawns_of effects);
        watching = watching_after who.this q.watching effects;
        due = due_after q.due effects;
        messages = [];
        unspawned = filter (λ x. not (has (spawns_of effects) x)) q.unspawned;
      })

module _ (who : Identity) (q : Queries) (number : ℕ) (f : Bool) (a : Answer) (effects : List Effect) where
  abbrev pub resume_broken_entry : Entry
  resume_broken_entry = System number (system.Resume f) (Applied (Some a) effects)

  abbrev pub resume_broken_tests : Tests
  resume_broken_tests = record none_passed { restart = true; failure = is_failed (Some a); resume = true }

  pub resume_broken-tests : q.phase ≡ Broken → is_guardian who ≡ false → tests_of who q resume_broken_entry ≡ resume_broken_tests
  resume_broken-tests broken an_actor =
      tests-are who q resume_broken_entry resume_broken_tests refl refl a_restart (and-false (phase_is q.phase Ending))
      (fails-as_answered q (restarts who q resume_broken_entry) (is_failed (Some a)) a_restart) refl
      (ap (λ p. not (phase_is p Fresh)) broken)
      (ap (λ p. (is_resume_of_failure (system.Resume f) && true) && phase_is p Live) broken
      ∙ and-false (is_resume_of_failure (system.Resume f) && true))
    where
      a_restart : restarts who q resume_broken_entry ≡ true
      a_restart = λ i. phase_is (broken i) Broken && not (phase_is (broken i) Fresh) && not (an_actor i)

  -- a Resume restarts a Broken actor
  pub resume_broken-step : q.phase ≡ Broken → is_guardian who ≡ false →
      next_queries who q resume_broken_entry ≡ record (passed q resume_broken_entry) {
        phase = if is_failed (Some a) then Broken else Live;
        marked = if is_failed (Some a) then q.marked - 1 + 1 else q.marked - 1;
        failed = if is_failed (Some a) then Itself else Nobody;
        children = q.children ++ spawns_of effects;
        watching = watching_after who.this q.watching effects;
        due = due_after q.due effects;
        messages = [];
        unspawned = filter (λ x. not (has (spawns_of effects) x)) q.unspawned;
      }
  resume_broken-step broken an_actor =
      step-tests who q resume_broken_entry resume_broken_tests (resume_broken-tests broken an_actor)
      ∙ (λ i. record (passed q resume_broken_entry) {
        phase =
            if phase_is (broken i) Ended || false then Ended
            else (if phase_is (broken i) Ending || false then Ending
            else (if is_failed (Some a) then Broken else Live));
        marked = running-failure (q.marked - 1) (is_failed (Some a)) i;
        failed = if is_failed (Some a) then Itself else Nobody;
        children = q.children ++ (if an_actor i then [] else spawns_of effects);
        watching = watching_after who.this q.watching effects;
        due = due_after q.due effects;
        messages = [];
        unspawned = filter (λ x. not (has (spawns_of effects) x)) q.unspawned;
      })
