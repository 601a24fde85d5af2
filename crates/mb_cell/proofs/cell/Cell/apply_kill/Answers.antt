use Rattle.std.proofs.Common.{◌≡◌, ◌≤◌, ◌++◌, [], length, sym, refl, subst, ap, ◌∙◌}
use Rattle.std.specs.Prelude.{None}
use Rattle.mb_status.specs.Mailbox.{word_of}
use Rattle.mb_journal.specs.Entry.{Entry}
use Rattle.mb_journal.specs.Entry.Entry.{Handled}
use Rattle.mb_journal.specs.Entry.Outcome.{Applied}
use Rattle.mb_journal.specs.Reading.{IsOpen}
use Rattle.mb_cell.specs.MayHandle.{MayHandle}
use Rattle.mb_supervision.specs.ActorIdentity.{identity_of}
use Rattle.mb_cell.specs.CellView.{CellView}
use Rattle.mb_cell.proofs.CellLaws.{longer, longer-forgotten, within-forgotten, count-small}
use Rattle.mb_cell.proofs.QuietEnvelope as quiet
use Rattle.mb_cell.proofs.QuietEnvelope.{IsQuietEnvelope}
use Rattle.mb_cell.proofs.QuietRows.{kill-row}
use Rattle.mb_cell.specs.Unsent.{unsent_acts}
use Rattle.mb_cell.proofs.UnsentLaws.{none-left}
use Rattle.mb_cell.proofs.cell.Cell.apply_kill.Given as given
use Rattle.mb_cell.proofs.cell.Cell.apply_kill.Goals as goal

pub handle-requires-clause-carried_out : goal.handle-requires-clause-carried_out
handle-requires-clause-carried_out g c = none-left _ _ (ap (λ (s : CellView). s.acts) c.self.view_is ∙ c.requires.may_handle.carried_out)

pub handle-requires-clause-below_bound : goal.handle-requires-clause-below_bound
handle-requires-clause-below_bound g c = count-small _ _ _ _ _ c.self.invariant.0

abbrev entry : (g : given.Over) (c : goal.After-forget_room g) → Entry
entry g c = Handled c.args.envelope c.word.result (Applied None [])

may_handle : (g : given.Over) (c : goal.After-forget_room g) →
    MayHandle (record {
      who = identity_of c.self.inside.place c.self.inside.journal.limit c.self.inside.journal.retention;
      journal = c.self.inside.journal.entries;
      acts = unsent_acts c.self.inside.unsent c.self.inside.journal.entries ++ c.self.inside.cell_state.acts;
      is_ready = c.self.inside.journal.is_ready;
    }) c.args.envelope (word_of c.args.reading)
may_handle g c = subst (λ (s : CellView). MayHandle s c.args.envelope (word_of c.args.reading)) (sym c.self.view_is) c.requires.may_handle

row : (g : given.Over) (c : goal.After-forget_room g) →
    IsQuietEnvelope (identity_of c.self.inside.place c.self.inside.journal.limit c.self.inside.journal.retention) (g.K.Behaviours.gives c.self.inside.place.this.0)
    c.self.inside.journal.entries (entry g c) c.self.inside.cell_state c.handle.new.self
row g c =
    kill-row _ _ _ _ _ c.self.invariant.0 (none-left _ _ (may_handle g c).carried_out) c.args.envelope c.word.result (may_handle g c).an_actor
    (may_handle g c).addressed (may_handle g c).live
    (subst (λ w. IsOpen (identity_of c.self.inside.place c.self.inside.journal.limit c.self.inside.journal.retention) c.self.inside.journal.entries w)
    (sym c.word.ensures.word) (may_handle g c).open_reading)
    c.requires.kill c.handle.new.self c.handle.ensures

added : (g : given.Over) (c : goal.After-forget_room g) → c.forget_room.new.self ≡ longer c.self.inside.journal (entry g c)
added g c = longer-forgotten c.self.inside.journal c.push_handled.new.self _ (entry g c) c.push_handled.ensures.added c.forget_room.ensures

within : (g : given.Over) (c : goal.After-forget_room g) → length c.forget_room.new.self.entries ≤ c.forget_room.new.self.limit
within g c = within-forgotten c.push_handled.new.self _ c.push_handled.ensures.within c.forget_room.ensures

pub invariant_of-self : goal.invariant_of-self
invariant_of-self g c =
    quiet.keeps c.self.inside.place c.self.inside.journal c.forget_room.new.self (entry g c) c.args.envelope (word_of c.args.reading)
    (g.K.Behaviours.after c.self.inside.place.this.0) (g.K.Behaviours.gives c.self.inside.place.this.0) c.self.inside.cell_state
    c.handle.new.self c.self.inside.outbox c.self.inside.unsent c.self.inside.actor (λ a. g.A.Actor.after a.actor) (λ a. g.A.Actor.gives a.actor)
    (λ a. g.A.Actor.content a.actor) (λ a. a.calls) c.args.self.now (added g c) (within g c)
    c.self.invariant c.self.view_is c.requires.may_handle.carried_out (refl, c.word.ensures.word) (row g c)

pub returns-clause-taken : goal.returns-clause-taken
returns-clause-taken g c =
    quiet.takes c.self.inside.place c.self.inside.journal c.forget_room.new.self (entry g c) c.args.envelope (word_of c.args.reading)
    (g.K.Behaviours.after c.self.inside.place.this.0) (g.K.Behaviours.gives c.self.inside.place.this.0) c.self.inside.cell_state
    c.handle.new.self c.self.inside.outbox c.self.inside.unsent c.self.inside.actor (λ a. g.A.Actor.after a.actor) (λ a. g.A.Actor.gives a.actor)
    (λ a. g.A.Actor.content a.actor) (λ a. a.calls) c.args.self.now (added g c) (within g c)
    c.self.invariant c.self.view_is c.requires.may_handle.carried_out (refl, c.word.ensures.word) (row g c)

pub returns-clause-lawful : goal.returns-clause-lawful
returns-clause-lawful g c = (invariant_of-self g c).0.lawful
