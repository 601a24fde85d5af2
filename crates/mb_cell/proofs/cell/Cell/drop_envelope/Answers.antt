use Rattle.std.proofs.Common.{◌++◌, sym, refl, subst, ap, ◌∙◌}
use Rattle.mb_status.specs.Mailbox.{word_of}
use Rattle.mb_journal.specs.Entry.{Entry}
use Rattle.mb_journal.specs.Entry.Entry.{Dropped}
use Rattle.mb_journal.specs.Lawful.{IsUnexpected}
use Rattle.mb_cell.specs.MayHandle.{MayHandle}
use Rattle.mb_supervision.specs.ActorIdentity.{identity_of}
use Rattle.mb_cell.specs.CellView.{CellView}
use Rattle.mb_cell.proofs.QuietEnvelope as quiet
use Rattle.mb_cell.proofs.QuietEnvelope.{IsQuietEnvelope}
use Rattle.mb_cell.proofs.QuietRows.{drop-row}
use Rattle.mb_cell.specs.Unsent.{unsent_acts}
use Rattle.mb_cell.proofs.UnsentLaws.{none-left}
use Rattle.mb_cell.proofs.cell.Cell.drop_envelope.Given as given
use Rattle.mb_cell.proofs.cell.Cell.drop_envelope.Goals as goal

pub discard-requires : goal.discard-requires
discard-requires g c = record { carried_out = none-left _ _ (ap (λ (s : CellView). s.acts) c.self.view_is ∙ c.requires.may_handle.carried_out) }

abbrev entry : (g : given.Over) (c : goal.After-push_dropped g) → Entry
entry g c = Dropped c.args.envelope

may_handle : (g : given.Over) (c : goal.After-push_dropped g) →
    MayHandle (record {
      who = identity_of c.self.inside.place c.self.inside.journal.limit c.self.inside.journal.retention;
      journal = c.self.inside.journal.entries;
      acts = unsent_acts c.self.inside.unsent c.self.inside.journal.entries ++ c.self.inside.cell_state.acts;
      is_ready = c.self.inside.journal.is_ready;
    }) c.args.envelope (word_of c.args.reading)
may_handle g c = subst (λ (s : CellView). MayHandle s c.args.envelope (word_of c.args.reading)) (sym c.self.view_is) c.requires.may_handle

row : (g : given.Over) (c : goal.After-push_dropped g) →
    IsQuietEnvelope (identity_of c.self.inside.place c.self.inside.journal.limit c.self.inside.journal.retention) (g.K.Behaviours.gives c.self.inside.place.this.0)
    c.self.inside.journal.entries (entry g c) c.self.inside.cell_state c.discard.new.self
row g c =
    drop-row _ _ _ _ _ c.self.invariant.0 (none-left _ _ (may_handle g c).carried_out) c.args.envelope (word_of c.args.reading) (may_handle g c).an_actor
    (may_handle g c).addressed (may_handle g c).live
    (may_handle g c).open_reading
    (subst (λ (s : CellView). IsUnexpected s.who s.journal c.args.envelope.body) (sym c.self.view_is) c.requires.unexpected)
    c.discard.new.self c.discard.ensures

pub invariant_of-self : goal.invariant_of-self
invariant_of-self g c =
    quiet.keeps c.self.inside.place c.self.inside.journal c.push_dropped.new.self (entry g c) c.args.envelope (word_of c.args.reading)
    (g.K.Behaviours.after c.self.inside.place.this.0) (g.K.Behaviours.gives c.self.inside.place.this.0) c.self.inside.cell_state
    c.discard.new.self c.self.inside.outbox c.self.inside.unsent c.self.inside.actor (λ a. g.A.Actor.after a.actor) (λ a. g.A.Actor.gives a.actor)
    (λ a. g.A.Actor.content a.actor) (λ a. a.calls) c.args.self.now c.push_dropped.ensures.added c.push_dropped.ensures.within
    c.self.invariant c.self.view_is c.requires.may_handle.carried_out refl (row g c)

pub returns-clause-taken : goal.returns-clause-taken
returns-clause-taken g c =
    quiet.takes c.self.inside.place c.self.inside.journal c.push_dropped.new.self (entry g c) c.args.envelope (word_of c.args.reading)
    (g.K.Behaviours.after c.self.inside.place.this.0) (g.K.Behaviours.gives c.self.inside.place.this.0) c.self.inside.cell_state
    c.discard.new.self c.self.inside.outbox c.self.inside.unsent c.self.inside.actor (λ a. g.A.Actor.after a.actor) (λ a. g.A.Actor.gives a.actor)
    (λ a. g.A.Actor.content a.actor) (λ a. a.calls) c.args.self.now c.push_dropped.ensures.added c.push_dropped.ensures.within
    c.self.invariant c.self.view_is c.requires.may_handle.carried_out refl (row g c)

pub returns-clause-lawful : goal.returns-clause-lawful
returns-clause-lawful g c = (invariant_of-self g c).0.lawful
