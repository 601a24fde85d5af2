-- `Watch` and `Unwatch`.
use Rattle.std.proofs.Common.{◌≡◌, ℕ, List, [], false, refl, ap, ◌∙◌}
use Rattle.std.specs.Prelude.{◌||◌}
use Rattle.mb_msg.specs.declared.id.ActorId.{ActorId}
use Rattle.mb_msg.specs.declared.system.SysMsg.TheVariants as system
use Rattle.mb_actor.specs.Behaviour.{Moment, Reply}
use Rattle.mb_actor.specs.OutboxView.{OutboxView}
use Rattle.mb_actor.specs.declared.phase.Phase.TheVariants.{Fresh, Ending}
use Rattle.mb_journal.specs.ActorList.{without, joined}
use Rattle.mb_journal.specs.Acts.{acts}
use Rattle.mb_journal.specs.Aside.{sets_aside}
use Rattle.mb_journal.specs.Entry.{Entry}
use Rattle.mb_journal.specs.Identity.{Identity}
use Rattle.mb_journal.specs.Life.{closed, phase}
use Rattle.mb_journal.specs.Phase.{phase_is}
use Rattle.mb_journal.proofs.Fold.{Queries, queries}
use Rattle.mb_journal.proofs.Steps.{none_passed, passed}
use Rattle.mb_journal.proofs.TestLemmas.{and-false, if_same}
use Rattle.mb_journal.proofs.WatchSteps.{watch-tests, watch-step, unwatch-tests, unwatch-step}
use Rattle.mb_cell.specs.Agrees.{Agrees}
use Rattle.mb_supervision.specs.CellStateRecord.{CellState}
use Rattle.mb_supervision.specs.Rows.{watched_by, no_longer_watched_by}
use Rattle.mb_cell.proofs.RowLaws.{cell_state-after, booked-open, blank-before}
use Rattle.mb_cell.proofs.SilentRow.{IsSilentRow, silent, silent-call}

module _ (who : Identity) (before : List Entry) (gives : Moment → Reply → Type 0) (cell_state : CellState) (tray : OutboxView)
    (kept : Agrees who before gives cell_state tray) (number : ℕ) (not_ended : closed who before ≡ false) (w : ActorId) where
  abbrev now : Queries
  now = queries who before

  -- ---- Watch

  abbrev watched : Queries
  watched = record (passed now (silent number (system.Watch w))) { watchers = joined now.watchers w }

  watch-acts : acts who before (silent number (system.Watch w)) ≡ []
  unfolding acts
  watch-acts = if_same (phase_is (phase who before) Fresh) []

  pub watch-row : (new : CellState) → new ≡ watched_by w number cell_state → IsSilentRow who before number (system.Watch w) cell_state new
  watch-row new is = record {
    calls_nothing = silent-call who before number (system.Watch w) none_passed (watch-tests who now number w) refl refl refl;
    after = watched;
    step = watch-step who now number w;
    same_unspawned = refl;
    same_messages = λ an_actor. refl;
    retries = cell_state.retries;
    counted = kept.counted;
    acts_of_it = [];
    booked =
        cell_state-after watched cell_state.retries [] cell_state.fanout false new not_ended
        (is ∙ ap (watched_by w number) (booked-open who before gives cell_state tray kept not_ended));
    acted = watch-acts;
    blank = λ fresh. let here = blank-before who before gives cell_state tray kept fresh in record {
      no_children = here.no_children;
      none_watched = here.none_watched;
      none_due = here.none_due;
      not_failed = here.not_failed;
    };
  }

  -- ---- Unwatch

  abbrev left : Queries
  left = record (passed now (silent number (system.Unwatch w))) { watchers = without now.watchers w }

  unwatch-acts : acts who before (silent number (system.Unwatch w)) ≡ []
  unfolding acts
  unwatch-acts = if_same (phase_is (phase who before) Fresh) []

  pub unwatch-row : (new : CellState) → new ≡ no_longer_watched_by w number cell_state → IsSilentRow who before number (system.Unwatch w) cell_state new
  unwatch-row new is = record {
    calls_nothing = silent-call who before number (system.Unwatch w) none_passed (unwatch-tests who now number w) refl refl refl;
    after = left;
    step = unwatch-step who now number w;
    same_unspawned = refl;
    same_messages = λ an_actor. refl;
    retries = cell_state.retries;
    counted = kept.counted;
    acts_of_it = [];
    booked =
        cell_state-after left cell_state.retries [] cell_state.fanout false new not_ended
        (is ∙ ap (no_longer_watched_by w number) (booked-open who before gives cell_state tray kept not_ended));
    acted = unwatch-acts;
    blank = λ fresh. let here = blank-before who before gives cell_state tray kept fresh in record {
      no_children = here.no_children;
      none_watched = here.none_watched;
      none_due = here.none_due;
      not_failed = here.not_failed;
    };
  }

-- neither is set aside, even while the actor ends
pub watch-applied : (who : Identity) (before : List Entry) (w : ActorId) → sets_aside who before (system.Watch w) ≡ false
watch-applied who before w = ap (λ b. b || false) (and-false (phase_is (phase who before) Ending))

pub unwatch-applied : (who : Identity) (before : List Entry) (w : ActorId) → sets_aside who before (system.Unwatch w) ≡ false
unwatch-applied who before w = ap (λ b. b || false) (and-false (phase_is (phase who before) Ending))
