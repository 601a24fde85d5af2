-- What the Died of another actor makes of all queries: while others are left, and when the last child that was waited for is gone.
use Rattle.std.proofs.Common.{◌≡◌, ℕ, List, Bool, true, false, refl, ◌∙◌}
use Rattle.std.specs.Prelude.{◌&&◌, ◌||◌, if◌then◌else◌, Option}
use Rattle.std.proofs.lemmas.List.{append-nil}
use Rattle.mb_msg.specs.declared.id.ActorId.{ActorId}
use Rattle.mb_msg.specs.declared.system.SysMsg.TheVariants as system
use Rattle.mb_actor.specs.ActorList.{has}
use Rattle.mb_actor.specs.declared.answer.Answer.{Answer}
use Rattle.mb_actor.specs.declared.effect.Effect.{Effect}
use Rattle.mb_actor.specs.declared.phase.Phase.TheVariants.{Live, Ending, Ended}
use Rattle.mb_journal.specs.ActorList.{without, joined}
use Rattle.mb_journal.specs.Entry.{Entry}
use Rattle.mb_journal.specs.Entry.Entry.{System}
use Rattle.mb_journal.specs.Entry.Outcome.{Applied}
use Rattle.mb_journal.specs.Identity.{Identity}
use Rattle.mb_journal.specs.Life.{is_alone}
use Rattle.mb_journal.specs.Phase.{phase_is}
use Rattle.mb_journal.proofs.Fold.{Queries, next_queries}
use Rattle.mb_journal.proofs.Steps.{tests_of, step-tests, tests-are, none_passed, passed, fails-not, phase-still, no_child}
use Rattle.mb_journal.proofs.TerminateSteps.{phase-last}
use Rattle.mb_journal.proofs.TestLemmas.{none_excepted}

module _ (who : Identity) (q : Queries) (number : ℕ) (x : ActorId) (a : Option Answer) (effects : List Effect) where
  abbrev pub died_entry : Entry
  died_entry = System number (system.Died x) (Applied a effects)

  pub died-tests : (last : Bool) → (phase_is q.phase Ending && is_alone q.children x) ≡ last →
      tests_of who q died_entry ≡ record none_passed { last = last }
  died-tests last is = tests-are who q died_entry (record none_passed { last = last }) refl refl refl is (fails-not q) refl refl refl

  -- it is no child any more, nor watched; and if it was watched, the actor is to be told
  pub died-step : (phase_is q.phase Ending && is_alone q.children x) ≡ false →
      next_queries who q died_entry ≡ record (passed q died_entry) {
        children = without q.children x;
        watching = without q.watching x;
        due = if has q.watching x then joined q.due x else q.due;
      }
  died-step others =
      step-tests who q died_entry none_passed (died-tests false others)
      ∙ (λ i. record (passed q died_entry) {
        phase = phase-still q.phase Live i;
        children = no_child who (without q.children x) i;
        watching = without q.watching x;
        due = if has q.watching x then joined q.due x else q.due;
        messages = append-nil q.messages i;
        unspawned = none_excepted q.unspawned i;
      })

  -- the same, and the actor has ended
  pub died_last-step : (phase_is q.phase Ending && is_alone q.children x) ≡ true →
      next_queries who q died_entry ≡ record (passed q died_entry) {
        phase = Ended;
        children = without q.children x;
        watching = without q.watching x;
        due = if has q.watching x then joined q.due x else q.due;
      }
  died_last-step last =
      step-tests who q died_entry (record none_passed { last = true }) (died-tests true last)
      ∙ (λ i. record (passed q died_entry) {
        phase = phase-last q.phase (if phase_is q.phase Ending || false then Ending else q.phase) i;
        children = no_child who (without q.children x) i;
        watching = without q.watching x;
        due = if has q.watching x then joined q.due x else q.due;
        messages = append-nil q.messages i;
        unspawned = none_excepted q.unspawned i;
      })
