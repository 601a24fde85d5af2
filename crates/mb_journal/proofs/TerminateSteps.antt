-- What a Terminate makes of all queries: of an actor with children and without, and of one that was told to end before.
use Rattle.std.proofs.Common.{◌≡◌, ℕ, ◌+◌, List, [], true, false, refl, ap, ◌∙◌}
use Rattle.std.specs.Prelude.{not, ◌&&◌, ◌||◌, if◌then◌else◌, Option}
use Rattle.std.proofs.lemmas.List.{append-nil}
use Rattle.mb_msg.specs.declared.system.SysMsg.TheVariants as system
use Rattle.mb_actor.specs.declared.answer.Answer.{Answer}
use Rattle.mb_actor.specs.declared.effect.Effect.{Effect}
use Rattle.mb_actor.specs.declared.phase.Phase.{Phase}
use Rattle.mb_actor.specs.declared.phase.Phase.TheVariants.{Fresh, Live, Broken, Ending, Ended}
use Rattle.mb_journal.specs.Entry.{Entry}
use Rattle.mb_journal.specs.Entry.Entry.{System}
use Rattle.mb_journal.specs.Entry.Outcome.{Applied}
use Rattle.mb_journal.specs.declared.failed_by.FailedBy.TheVariants.{Itself}
use Rattle.mb_journal.specs.Identity.{Identity}
use Rattle.mb_journal.specs.Life.{is_empty}
use Rattle.mb_journal.specs.Phase.{phase_is}
use Rattle.mb_journal.proofs.Fold.{Queries, next_queries}
use Rattle.mb_journal.proofs.Steps.{tests_of, step-tests, tests-are, none_passed, passed, fails-not, phase-still, no_child}
use Rattle.mb_journal.proofs.TestLemmas.{and-false, none_excepted}

-- the last entry is followed by Ended, whatever the phase was
pub phase-last : (p other : Phase) → (if phase_is p Ended || true then Ended else other) ≡ Ended
phase-last Fresh other = refl
phase-last Live other = refl
phase-last Broken other = refl
phase-last Ending other = refl
phase-last Ended other = refl

-- the ending is followed by Ending, unless the actor ended
pub phase-ending : (p other : Phase) → phase_is p Ended ≡ false →
    (if phase_is p Ended || false then Ended else (if phase_is p Ending || true then Ending else other)) ≡ Ending
phase-ending Fresh other off_ended = refl
phase-ending Live other off_ended = refl
phase-ending Broken other off_ended = refl
phase-ending Ending other off_ended = refl
phase-ending Ended other off_ended = absurd (cc off_ended)

module _ (who : Identity) (q : Queries) (number : ℕ) (a : Option Answer) (effects : List Effect) where
  abbrev pub terminate_entry : Entry
  terminate_entry = System number system.Terminate (Applied a effects)

  -- ---- the first one, of an actor that has children

  pub ending-tests : q.ended ≡ false → is_empty q.children ≡ false → tests_of who q terminate_entry ≡ record none_passed { ending = true }
  ending-tests unended children =
      tests-are who q terminate_entry (record none_passed { ending = true }) refl (ap not unended) refl
      ((λ i. (not (unended i) && children i) || (phase_is q.phase Ending && false)) ∙ and-false (phase_is q.phase Ending))
      (fails-not q) refl refl refl

  -- it waits for its children, suspended once more and failed by itself, and watches nobody
  pub ending-step : q.ended ≡ false → is_empty q.children ≡ false → phase_is q.phase Ended ≡ false →
      next_queries who q terminate_entry ≡ record (passed q terminate_entry) {
        phase = Ending;
        was_live = phase_is q.phase Live;
        marked = q.marked + 1;
        failed = Itself;
        watching = [];
        due = [];
      }
  ending-step unended children off_ended =
      step-tests who q terminate_entry (record none_passed { ending = true }) (ending-tests unended children)
      ∙ (λ i. record (passed q terminate_entry) {
        phase = phase-ending q.phase q.phase off_ended i;
        was_live = phase_is q.phase Live;
        marked = q.marked + 1;
        failed = Itself;
        children = no_child who q.children i;
        watching = [];
        due = [];
        messages = append-nil q.messages i;
        unspawned = none_excepted q.unspawned i;
      })

  -- ---- the first one, of an actor without children

  pub ended-tests : q.ended ≡ false → is_empty q.children ≡ true →
      tests_of who q terminate_entry ≡ record none_passed { ending = true; last = true }
  ended-tests unended empty =
      tests-are who q terminate_entry (record none_passed { ending = true; last = true }) refl (ap not unended) refl
      (λ i. (not (unended i) && empty i) || (phase_is q.phase Ending && false))
      (fails-not q) refl refl refl

  -- it has ended
  pub ended-step : q.ended ≡ false → is_empty q.children ≡ true →
      next_queries who q terminate_entry ≡ record (passed q terminate_entry) {
        phase = Ended;
        was_live = phase_is q.phase Live;
        watching = [];
        due = [];
      }
  ended-step unended empty =
      step-tests who q terminate_entry (record none_passed { ending = true; last = true }) (ended-tests unended empty)
      ∙ (λ i. record (passed q terminate_entry) {
        phase = phase-last q.phase (if phase_is q.phase Ending || true then Ending else q.phase) i;
        was_live = phase_is q.phase Live;
        children = no_child who q.children i;
        watching = [];
        due = [];
        messages = append-nil q.messages i;
        unspawned = none_excepted q.unspawned i;
      })

  -- ---- another one

  pub ending_again-tests : q.ended ≡ true → tests_of who q terminate_entry ≡ none_passed
  ending_again-tests ended =
      tests-are who q terminate_entry none_passed refl (ap not ended) refl
      ((λ i. (not (ended i) && is_empty q.children) || (phase_is q.phase Ending && false)) ∙ and-false (phase_is q.phase Ending))
      (fails-not q) refl refl refl

  pub ending_again-step : q.ended ≡ true → next_queries who q terminate_entry ≡ passed q terminate_entry
  ending_again-step ended =
      step-tests who q terminate_entry none_passed (ending_again-tests ended)
      ∙ (λ i. record (passed q terminate_entry) {
        phase = phase-still q.phase Live i;
        children = no_child who q.children i;
        messages = append-nil q.messages i;
        unspawned = none_excepted q.unspawned i;
      })
