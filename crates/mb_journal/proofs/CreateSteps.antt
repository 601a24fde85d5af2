-- What a Create makes of all queries: of an actor that was never started, of the guardian, and of one that was started.
use Rattle.std.proofs.Common.{◌≡◌, ℕ, ◌+◌, ◌-◌, List, [], ◌++◌, Bool, true, false, refl, ap, ◌∙◌}
use Rattle.std.specs.Prelude.{not, ◌&&◌, ◌||◌, if◌then◌else◌, filter, Some, None}
use Rattle.std.proofs.lemmas.List.{append-nil}
use Rattle.mb_msg.specs.declared.system.SysMsg.TheVariants as system
use Rattle.mb_actor.specs.ActorList.{has}
use Rattle.mb_actor.specs.OutboxView.{spawns_of}
use Rattle.mb_actor.specs.declared.answer.Answer.{Answer}
use Rattle.mb_actor.specs.declared.effect.Effect.{Effect}
use Rattle.mb_actor.specs.declared.phase.Phase.TheVariants.{Fresh, Live, Broken, Ending, Ended}
use Rattle.mb_journal.specs.Entry.{Entry, is_failed}
use Rattle.mb_journal.specs.Entry.Entry.{System}
use Rattle.mb_journal.specs.Entry.Outcome.{Applied}
use Rattle.mb_journal.specs.Failure.{is_nobody}
use Rattle.mb_journal.specs.declared.failed_by.FailedBy.TheVariants.{Nobody, Itself}
use Rattle.mb_journal.specs.Identity.{Identity, is_guardian}
use Rattle.mb_journal.specs.Phase.{phase_is}
use Rattle.mb_journal.specs.Suspension.{mark_if}
use Rattle.mb_journal.specs.Suspension.Mark.{Plus}
use Rattle.mb_journal.specs.Watching.{watching_after, due_after}
use Rattle.mb_journal.proofs.CountLemmas.{running}
use Rattle.mb_journal.proofs.Fold.{Queries, next_queries}
use Rattle.mb_journal.proofs.Steps.{Tests, tests_of, step-tests, tests-are, none_passed, passed, fails-not, phase-still, no_child}
use Rattle.mb_journal.proofs.TestLemmas.{and-false, or-false, none_excepted}

-- a beginning fails exactly if it is answered so
pub fails-as_answered : (q : Queries) (begins failed : Bool) → begins ≡ true →
    ((begins && failed) || (is_nobody q.failed && (false || false))) ≡ failed
fails-as_answered q begins failed is =
    (λ i. (is i && failed) || (is_nobody q.failed && false))
    ∙ (ap (λ b. failed || b) (and-false (is_nobody q.failed)) ∙ or-false failed)

-- a failure adds one to the count
pub running-failure : (n : ℕ) (failed : Bool) → running n (mark_if failed Plus ++ []) ≡ (if failed then n + 1 else n)
running-failure n true = refl
running-failure n false = refl

-- ---- the first Create, of an actor that is not the guardian

module _ (who : Identity) (q : Queries) (number : ℕ) (a : Answer) (effects : List Effect) where
  abbrev pub create_entry : Entry
  create_entry = System number system.Create (Applied (Some a) effects)

  abbrev pub create_tests : Tests
  create_tests = record none_passed { start = true; failure = is_failed (Some a) }

  pub create-tests : q.started ≡ false → tests_of who q create_entry ≡ create_tests
  create-tests unstarted =
      tests-are who q create_entry create_tests (ap not unstarted) refl refl (and-false (phase_is q.phase Ending))
      (fails-as_answered q (not q.started || false) (is_failed (Some a)) (ap (λ s. not s || false) unstarted)) refl refl refl

  -- the suspension that it began with is gone, and there is one more if it failed
  pub create-step : q.started ≡ false → q.phase ≡ Fresh → is_guardian who ≡ false → q.failed ≡ Nobody →
      next_queries who q create_entry ≡ record (passed q create_entry) {
        phase = if is_failed (Some a) then Broken else Live;
        marked = if is_failed (Some a) then q.marked - 1 + 1 else q.marked - 1;
        failed = if is_failed (Some a) then Itself else Nobody;
        children = q.children ++ spawns_of effects;
        watching = watching_after who.this q.watching effects;
        due = due_after q.due effects;
        messages = [];
        unspawned = filter (λ x. not (has (spawns_of effects) x)) q.unspawned;
      }
  create-step unstarted fresh an_actor nobody =
      step-tests who q create_entry create_tests (create-tests unstarted)
      ∙ (λ i. record (passed q create_entry) {
        phase =
            if phase_is (fresh i) Ended || false then Ended
            else (if phase_is (fresh i) Ending || false then Ending
            else (if is_failed (Some a) then Broken else Live));
        marked = running-failure (q.marked - 1) (is_failed (Some a)) i;
        failed = if is_failed (Some a) then Itself else nobody i;
        children = q.children ++ (if an_actor i then who.prepared else spawns_of effects);
        watching = watching_after who.this q.watching effects;
        due = due_after q.due effects;
        messages = [];
        unspawned = filter (λ x. not (has (spawns_of effects) x)) q.unspawned;
      })

-- ---- a Create that the actor is not called for: the guardian's, and any of an actor that was started

module _ (who : Identity) (q : Queries) (number : ℕ) where
  abbrev pub silent_create_entry : Entry
  silent_create_entry = System number system.Create (Applied None [])

  pub create_guardian-tests : q.started ≡ false → tests_of who q silent_create_entry ≡ record none_passed { start = true }
  create_guardian-tests unstarted =
      tests-are who q silent_create_entry (record none_passed { start = true }) (ap not unstarted) refl refl (and-false (phase_is q.phase Ending))
      (fails-as_answered q (not q.started || false) false (ap (λ s. not s || false) unstarted)) refl refl refl

  -- the guardian starts, and all that it may have are its children
  pub create_guardian-step : q.started ≡ false → q.phase ≡ Fresh → is_guardian who ≡ true →
      next_queries who q silent_create_entry ≡ record (passed q silent_create_entry) {
        phase = Live;
        marked = q.marked - 1;
        children = q.children ++ who.prepared;
        messages = [];
      }
  create_guardian-step unstarted fresh guardian =
      step-tests who q silent_create_entry (record none_passed { start = true }) (create_guardian-tests unstarted)
      ∙ (λ i. record (passed q silent_create_entry) {
        phase =
            if phase_is (fresh i) Ended || false then Ended
            else (if phase_is (fresh i) Ending || false then Ending
            else Live);
        marked = q.marked - 1;
        children = q.children ++ (if guardian i then who.prepared else []);
        messages = [];
        unspawned = none_excepted q.unspawned i;
      })

  pub create_again-tests : q.started ≡ true → tests_of who q silent_create_entry ≡ none_passed
  create_again-tests started =
      tests-are who q silent_create_entry none_passed (ap not started) refl refl (and-false (phase_is q.phase Ending))
      ((λ i. ((not (started i) || false) && false) || (is_nobody q.failed && false)) ∙ fails-not q) refl refl refl

  -- an actor that was started does nothing about another Create
  pub create_again-step : q.started ≡ true → next_queries who q silent_create_entry ≡ passed q silent_create_entry
  create_again-step started =
      step-tests who q silent_create_entry none_passed (create_again-tests started)
      ∙ (λ i. record (passed q silent_create_entry) {
        phase = phase-still q.phase Live i;
        children = no_child who q.children i;
        messages = append-nil q.messages i;
        unspawned = none_excepted q.unspawned i;
      })
