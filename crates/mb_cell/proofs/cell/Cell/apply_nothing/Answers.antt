use Rattle.std.proofs.Common.{◌≡◌, false, sym, subst}
use Rattle.std.specs.Prelude.{[]}
use Rattle.mb_journal.specs.Life.{closed}
use Rattle.mb_cell.specs.WithoutEffect.{DoesNothing}
use Rattle.mb_supervision.specs.ActorIdentity.{identity_of}
use Rattle.mb_cell.specs.CellView.{CellView}
use Rattle.mb_cell.proofs.NothingRow.{nothing-row}
use Rattle.mb_cell.proofs.SilentRow as silent
use Rattle.mb_cell.proofs.SilentRow.{IsSilentRow}
use Rattle.mb_cell.proofs.UnsentLaws.{none-left}
use Rattle.mb_cell.proofs.cell.Cell.apply_nothing.Given as given
use Rattle.mb_cell.proofs.cell.Cell.apply_nothing.Goals as goal

row : (g : given.Over) (c : goal.After-push_system g) →
    IsSilentRow (identity_of c.self.inside.place c.self.inside.journal.limit c.self.inside.journal.retention) c.self.inside.journal.entries c.args.number c.args.message
    c.self.inside.cell_state c.ignore.new.self
row g c =
    nothing-row _ _ _ _ _ c.self.invariant.0 c.args.number
    (subst (λ (s : CellView). closed s.who s.journal ≡ false) (sym c.self.view_is) c.requires.may_take.not_ended)
    (none-left _ _ (subst (λ (s : CellView). s.acts ≡ []) (sym c.self.view_is) c.requires.may_take.carried_out))
    c.args.message
    (subst (λ (s : CellView). DoesNothing s.who s.journal c.args.message) (sym c.self.view_is) c.requires.nothing)
    c.ignore.new.self c.ignore.ensures

pub invariant_of-self : goal.invariant_of-self
invariant_of-self g c =
    silent.keeps c.self.inside.place c.self.inside.journal c.push_system.new.self c.args.number c.args.message
    (g.K.Behaviours.after c.self.inside.place.this.0) (g.K.Behaviours.gives c.self.inside.place.this.0) c.self.inside.cell_state
    c.ignore.new.self c.self.inside.outbox c.self.inside.unsent c.self.inside.actor (λ a. g.A.Actor.after a.actor) (λ a. g.A.Actor.gives a.actor)
    (λ a. g.A.Actor.content a.actor) (λ a. a.calls) c.args.self.now c.push_system.ensures.added c.push_system.ensures.within
    c.self.invariant c.self.view_is c.requires.may_take c.requires.applied (row g c)

pub returns-clause-taken : goal.returns-clause-taken
returns-clause-taken g c =
    silent.takes c.self.inside.place c.self.inside.journal c.push_system.new.self c.args.number c.args.message
    (g.K.Behaviours.after c.self.inside.place.this.0) (g.K.Behaviours.gives c.self.inside.place.this.0) c.self.inside.cell_state
    c.ignore.new.self c.self.inside.outbox c.self.inside.unsent c.self.inside.actor (λ a. g.A.Actor.after a.actor) (λ a. g.A.Actor.gives a.actor)
    (λ a. g.A.Actor.content a.actor) (λ a. a.calls) c.args.self.now c.push_system.ensures.added c.push_system.ensures.within
    c.self.invariant c.self.view_is c.requires.may_take c.requires.applied (row g c)

pub returns-clause-lawful : goal.returns-clause-lawful
returns-clause-lawful g c = (invariant_of-self g c).0.lawful
