-- What a cell holds as set aside is what no entry applies.
use Rattle.std.proofs.Common.{◌≡◌, ℕ, Bool, List, [], not, filter, ap, ◌∙◌, subst}
use Rattle.std.specs.Prelude.{if◌then◌else◌}
use Rattle.mb_msg.specs.declared.system.SysMsg.{SysMsg}
use Rattle.mb_actor.specs.Behaviour.{Moment, Reply}
use Rattle.mb_actor.specs.OutboxView.{OutboxView}
use Rattle.mb_journal.specs.Acts.{Act}
use Rattle.mb_journal.specs.Entry.{Entry}
use Rattle.mb_journal.specs.Identity.{Identity}
use Rattle.mb_journal.specs.Life.{closed}
use Rattle.mb_journal.specs.Remaining.{all_set_aside, was_applied}
use Rattle.mb_journal.proofs.AsideLaw.{aside-unapplied}
use Rattle.mb_supervision.specs.CellStateRecord.{CellState}
use Rattle.mb_cell.specs.Agrees.{Agrees}
use Rattle.mb_cell.specs.CellView.{CellView}

pub held-unapplied : (who : Identity) (journal : List Entry) (gives : Moment → Reply → Type 0) (cell_state : CellState) (tray : OutboxView)
    (acts : List Act) (is_ready : Bool) (now : CellView) → Agrees who journal gives cell_state tray →
    (let seen : CellView = record { who = who; journal = journal; acts = acts; is_ready = is_ready } in seen ≡ now) →
    (held : List (ℕ × SysMsg)) → held ≡ cell_state.aside →
    held ≡ (if closed now.who now.journal then [] else filter (λ m. not (was_applied now.journal m.0)) (all_set_aside now.journal))
held-unapplied who journal gives cell_state tray acts is_ready now agrees view_is held is =
    subst
    (λ (s : CellView).
    held ≡ (if closed s.who s.journal then [] else filter (λ m. not (was_applied s.journal m.0)) (all_set_aside s.journal)))
    view_is
    (is ∙ (ap (λ (b : CellState). b.aside) agrees.booked ∙ aside-unapplied who gives journal agrees.lawful))
