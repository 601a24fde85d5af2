-- The first `Terminate`, of an actor with children.
use Rattle.std.proofs.Common.{◌≡◌, ℕ, ◌+◌, List, [], ◌∷◌, ◌++◌, true, false, refl, ap, ◌∙◌}
use Rattle.std.specs.Prelude.{◌||◌, if◌then◌else◌, None}
use Rattle.mb_msg.specs.declared.system.SysMsg.TheVariants as system
use Rattle.mb_actor.specs.Behaviour.{Moment, Reply}
use Rattle.mb_actor.specs.OutboxView.{OutboxView}
use Rattle.mb_actor.specs.declared.phase.Phase.TheVariants.{Fresh, Live, Ending}
use Rattle.mb_journal.specs.Acts.{Act, acts, terminate_acts, to_each, end_acts}
use Rattle.mb_journal.specs.Acts.Act.{SuspendSelf}
use Rattle.mb_journal.specs.Aside.{sets_aside}
use Rattle.mb_journal.specs.Entry.{Entry}
use Rattle.mb_journal.specs.declared.failed_by.FailedBy.TheVariants.{Itself}
use Rattle.mb_journal.specs.Identity.{Identity}
use Rattle.mb_journal.specs.Life.{closed, phase, children, has_ending, is_empty}
use Rattle.mb_journal.specs.Phase.{phase_is}
use Rattle.mb_journal.specs.Watching.{watchers, watching}
use Rattle.mb_journal.proofs.Fold.{Queries, queries}
use Rattle.mb_journal.proofs.PhaseLemmas.{agrees}
use Rattle.mb_journal.proofs.Steps.{none_passed, passed}
use Rattle.mb_journal.proofs.TerminateSteps.{terminate_entry, ending-tests, ending-step}
use Rattle.mb_journal.proofs.TestLemmas.{and-false, if_same}
use Rattle.mb_cell.specs.Agrees.{Agrees}
use Rattle.mb_supervision.specs.CellStateRecord.{CellState}
use Rattle.mb_supervision.specs.Rows.{ending}
use Rattle.mb_cell.proofs.EndRow.{unended}
use Rattle.mb_cell.proofs.RowLaws.{cell_state-after, booked-open}
use Rattle.mb_cell.proofs.SilentRow.{IsSilentRow, silent, silent-call}

-- it is not set aside
pub terminate-applied : (who : Identity) (before : List Entry) → sets_aside who before system.Terminate ≡ false
terminate-applied who before = ap (λ b. b || false) (and-false (phase_is (phase who before) Ending))

-- an actor that does not end and has not ended was not told to end
pub not-told-to-end : (who : Identity) (journal : List Entry) → phase_is (phase who journal) Ending ≡ false → closed who journal ≡ false →
    has_ending journal ≡ false
not-told-to-end who journal off_ending not_ended =
    unended (phase who journal) (has_ending journal) off_ending not_ended (agrees who journal).1

-- the acts of the first Terminate, whether the actor was started or not
pub terminate-acts : (who : Identity) (before : List Entry) (number : ℕ) → phase_is (phase who before) Ending ≡ false →
    acts who before (silent number system.Terminate) ≡ terminate_acts who before []
unfolding acts
terminate-acts who before number off_ending =
    (λ i. if phase_is (phase who before) Fresh then terminate_acts who before []
    else (if off_ending i then [] else terminate_acts who before []))
    ∙ if_same (phase_is (phase who before) Fresh) (terminate_acts who before [])

module _ (who : Identity) (before : List Entry) (gives : Moment → Reply → Type 0) (cell_state : CellState) (tray : OutboxView)
    (kept : Agrees who before gives cell_state tray) (number : ℕ) (not_ended : closed who before ≡ false)
    (off_ending : phase_is (phase who before) Ending ≡ false) (has_children : is_empty (children who before) ≡ false) where
  abbrev now : Queries
  now = queries who before

  abbrev after : Queries
  after = record (passed now (terminate_entry who now number None [])) {
    phase = Ending;
    was_live = phase_is now.phase Live;
    marked = now.marked + 1;
    failed = Itself;
    watching = [];
    due = [];
  }

  -- it watches no more, its children are told to end, and it waits for them
  abbrev waiting : List Act
  waiting =
      to_each (system.Unwatch who.this) (watching who before) ++ to_each system.Terminate (children who before) ++ SuspendSelf ∷ []

  ending-acts : acts who before (silent number system.Terminate) ≡ waiting
  ending-acts =
      terminate-acts who before number off_ending
      ∙ (λ i. to_each (system.Unwatch who.this) (watching who before) ++ to_each system.Terminate (children who before)
      ++ (if has_children i then end_acts who (watchers before) [] else SuspendSelf ∷ []))

  not_told : has_ending before ≡ false
  not_told = not-told-to-end who before off_ending not_ended

  pub ending-row : (new : CellState) → new ≡ ending who number cell_state → IsSilentRow who before number system.Terminate cell_state new
  ending-row new is = record {
    calls_nothing =
        silent-call who before number system.Terminate (record none_passed { ending = true })
        (ending-tests who now number None [] not_told has_children) refl refl refl;
    after = after;
    step = ending-step who now number None [] not_told has_children not_ended;
    same_unspawned = refl;
    same_messages = λ an_actor. refl;
    retries = cell_state.retries;
    counted = kept.counted;
    acts_of_it = waiting;
    booked =
        cell_state-after after cell_state.retries waiting cell_state.fanout false new refl
        (is ∙ ap (ending who number) (booked-open who before gives cell_state tray kept not_ended));
    acted = ending-acts;
    blank = λ fresh. cc;
  }
