-- `Suspend` of an actor that was started.
use Rattle.std.proofs.Common.{◌≡◌, ℕ, ◌+◌, List, ◌∷◌, true, false, refl, ap, ◌∙◌}
use Rattle.mb_msg.specs.declared.system.SysMsg.TheVariants as system
use Rattle.mb_actor.specs.Behaviour.{Moment, Reply}
use Rattle.mb_actor.specs.OutboxView.{OutboxView}
use Rattle.mb_actor.specs.declared.phase.Phase.TheVariants.{Fresh}
use Rattle.mb_journal.specs.Acts.{acts, to_each}
use Rattle.mb_journal.specs.Acts.Act.{SuspendSelf}
use Rattle.mb_journal.specs.Entry.{Entry}
use Rattle.mb_journal.specs.Identity.{Identity}
use Rattle.mb_journal.specs.Life.{closed, children, phase}
use Rattle.mb_journal.specs.Phase.{phase_is}
use Rattle.mb_journal.proofs.Fold.{Queries, queries}
use Rattle.mb_journal.proofs.Steps.{none_passed, passed, suspend_entry, suspend-tests, suspend-step}
use Rattle.mb_journal.proofs.TestLemmas.{if_false}
use Rattle.mb_cell.specs.Agrees.{Agrees}
use Rattle.mb_supervision.specs.CellStateRecord.{CellState}
use Rattle.mb_supervision.specs.Rows.{suspended}
use Rattle.mb_cell.proofs.RowLaws.{cell_state-after, booked-open, not-fresh}
use Rattle.mb_cell.proofs.SilentRow.{IsSilentRow, silent, silent-call}

module _ (who : Identity) (before : List Entry) (gives : Moment → Reply → Type 0) (cell_state : CellState) (tray : OutboxView)
    (kept : Agrees who before gives cell_state tray) (number : ℕ) (not_ended : closed who before ≡ false)
    (off_fresh : phase_is (phase who before) Fresh ≡ false) where
  abbrev after : Queries
  after = record (passed (queries who before) (suspend_entry who (queries who before) number)) { marked = (queries who before).marked + 1 }

  suspend-acts : acts who before (silent number system.Suspend) ≡ SuspendSelf ∷ to_each system.Suspend (children who before)
  unfolding acts
  suspend-acts = if_false _ _ _ off_fresh

  pub suspend-row : (new : CellState) → new ≡ suspended number cell_state → IsSilentRow who before number system.Suspend cell_state new
  suspend-row new is = record {
    calls_nothing =
        silent-call who before number system.Suspend (record none_passed { suspend = true })
        (suspend-tests who (queries who before) number off_fresh) refl refl refl;
    after = after;
    step = suspend-step who (queries who before) number off_fresh;
    same_unspawned = refl;
    same_messages = λ an_actor. refl;
    retries = cell_state.retries;
    counted = kept.counted;
    acts_of_it = SuspendSelf ∷ to_each system.Suspend (children who before);
    booked =
        cell_state-after after cell_state.retries (SuspendSelf ∷ to_each system.Suspend (children who before)) cell_state.fanout false new not_ended
        (is ∙ ap (suspended number) (booked-open who before gives cell_state tray kept not_ended));
    acted = suspend-acts;
    blank = λ fresh. absurd (not-fresh (phase who before) off_fresh fresh);
  }
