-- What a Watch and an Unwatch make of all queries: one watcher more, or one less.
use Rattle.std.proofs.Common.{◌≡◌, ℕ, [], refl, ◌∙◌}
use Rattle.std.specs.Prelude.{None}
use Rattle.std.proofs.lemmas.List.{append-nil}
use Rattle.mb_msg.specs.declared.id.ActorId.{ActorId}
use Rattle.mb_msg.specs.declared.system.SysMsg.TheVariants as system
use Rattle.mb_actor.specs.declared.phase.Phase.TheVariants.{Live, Ending}
use Rattle.mb_journal.specs.ActorList.{without, joined}
use Rattle.mb_journal.specs.Entry.{Entry}
use Rattle.mb_journal.specs.Entry.Entry.{System}
use Rattle.mb_journal.specs.Entry.Outcome.{Applied}
use Rattle.mb_journal.specs.Identity.{Identity}
use Rattle.mb_journal.specs.Phase.{phase_is}
use Rattle.mb_journal.proofs.Fold.{Queries, next_queries}
use Rattle.mb_journal.proofs.Steps.{tests_of, step-tests, tests-are, none_passed, passed, fails-not, phase-still, no_child}
use Rattle.mb_journal.proofs.TestLemmas.{and-false, none_excepted}

module _ (who : Identity) (q : Queries) (number : ℕ) (w : ActorId) where
  -- ---- Watch

  abbrev pub watch_entry : Entry
  watch_entry = System number (system.Watch w) (Applied None [])

  pub watch-tests : tests_of who q watch_entry ≡ none_passed
  watch-tests = tests-are who q watch_entry none_passed refl refl refl (and-false (phase_is q.phase Ending)) (fails-not q) refl refl refl

  -- the actor that watches joins
  pub watch-step : next_queries who q watch_entry ≡ record (passed q watch_entry) { watchers = joined q.watchers w }
  watch-step =
      step-tests who q watch_entry none_passed watch-tests
      ∙ (λ i. record (passed q watch_entry) {
        phase = phase-still q.phase Live i;
        children = no_child who q.children i;
        watchers = joined q.watchers w;
        messages = append-nil q.messages i;
        unspawned = none_excepted q.unspawned i;
      })

  -- ---- Unwatch

  abbrev pub unwatch_entry : Entry
  unwatch_entry = System number (system.Unwatch w) (Applied None [])

  pub unwatch-tests : tests_of who q unwatch_entry ≡ none_passed
  unwatch-tests = tests-are who q unwatch_entry none_passed refl refl refl (and-false (phase_is q.phase Ending)) (fails-not q) refl refl refl

  -- the actor that watched leaves
  pub unwatch-step : next_queries who q unwatch_entry ≡ record (passed q unwatch_entry) { watchers = without q.watchers w }
  unwatch-step =
      step-tests who q unwatch_entry none_passed unwatch-tests
      ∙ (λ i. record (passed q unwatch_entry) {
        phase = phase-still q.phase Live i;
        children = no_child who q.children i;
        watchers = without q.watchers w;
        messages = append-nil q.messages i;
        unspawned = none_excepted q.unspawned i;
      })
