-- What a system message that is set aside makes of all queries: it waits with those that were set aside before.
use Rattle.std.proofs.Common.{◌≡◌, ℕ, refl, ap, ◌∙◌}
use Rattle.std.specs.Prelude.{◌&&◌}
use Rattle.std.proofs.lemmas.List.{append-nil}
use Rattle.mb_msg.specs.declared.system.SysMsg.{SysMsg}
use Rattle.mb_msg.specs.declared.system.SysMsg.TheVariants as system
use Rattle.mb_actor.specs.declared.phase.Phase.TheVariants.{Live, Ending}
use Rattle.mb_journal.specs.Entry.{Entry}
use Rattle.mb_journal.specs.Entry.Entry.{System}
use Rattle.mb_journal.specs.Entry.Outcome.{SetAside}
use Rattle.mb_journal.specs.Failure.{is_resume_of_failure}
use Rattle.mb_journal.specs.Identity.{Identity}
use Rattle.mb_journal.specs.Phase.{phase_is}
use Rattle.mb_journal.proofs.Fold.{Queries, next_queries}
use Rattle.mb_journal.proofs.Steps.{tests_of, step-tests, tests-are, none_passed, passed, fails-not, phase-still, no_child}
use Rattle.mb_journal.proofs.TestLemmas.{and-false, none_excepted}

module _ (who : Identity) (q : Queries) (number : ℕ) where
  abbrev pub set_aside_entry : SysMsg → Entry
  set_aside_entry m = System number m SetAside

  -- each message by itself, as what an entry passes is seen by the message
  pub set_aside-tests : (m : SysMsg) → tests_of who q (set_aside_entry m) ≡ none_passed
  set_aside-tests system.Create =
      tests-are who q (set_aside_entry system.Create) none_passed refl refl refl (and-false (phase_is q.phase Ending)) (fails-not q) refl refl refl
  set_aside-tests (system.Resume f) =
      tests-are who q (set_aside_entry (system.Resume f)) none_passed refl refl refl (and-false (phase_is q.phase Ending)) (fails-not q) refl refl
      (ap (λ b. b && phase_is q.phase Live) (and-false (is_resume_of_failure (system.Resume f))))
  set_aside-tests m =
      tests-are who q (set_aside_entry m) none_passed refl refl refl (and-false (phase_is q.phase Ending)) (fails-not q) refl refl refl

  pub set_aside-step : (m : SysMsg) → next_queries who q (set_aside_entry m) ≡ passed q (set_aside_entry m)
  set_aside-step system.Create =
      step-tests who q (set_aside_entry system.Create) none_passed (set_aside-tests system.Create)
      ∙ (λ i. record (passed q (set_aside_entry system.Create)) {
        phase = phase-still q.phase Live i;
        children = no_child who q.children i;
        messages = append-nil q.messages i;
        unspawned = none_excepted q.unspawned i;
      })
  set_aside-step m =
      step-tests who q (set_aside_entry m) none_passed (set_aside-tests m)
      ∙ (λ i. record (passed q (set_aside_entry m)) {
        phase = phase-still q.phase Live i;
        children = no_child who q.children i;
        messages = append-nil q.messages i;
        unspawned = none_excepted q.unspawned i;
      })
