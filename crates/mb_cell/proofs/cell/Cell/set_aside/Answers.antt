use Rattle.std.proofs.Common.{ap, ◌∙◌}
use Rattle.mb_cell.specs.CellView.{CellView}
use Rattle.mb_cell.proofs.AsideRow as aside
use Rattle.mb_cell.proofs.UnsentLaws.{none-left}
use Rattle.mb_cell.proofs.cell.Cell.set_aside.Goals as goal

pub set_aside-requires-clause-carried_out : goal.set_aside-requires-clause-carried_out
set_aside-requires-clause-carried_out g c = none-left _ _ (ap (λ (s : CellView). s.acts) c.self.view_is ∙ c.requires.may_take.carried_out)

pub invariant_of-self : goal.invariant_of-self
invariant_of-self g c =
    aside.keeps c.self.inside.place c.self.inside.journal c.push_set_aside.new.self c.args.number c.args.message
    (g.K.Behaviours.after c.self.inside.place.this.0) (g.K.Behaviours.gives c.self.inside.place.this.0) c.self.inside.cell_state
    c.set_aside.new.self c.self.inside.outbox c.self.inside.unsent c.self.inside.actor (λ a. g.A.Actor.after a.actor) (λ a. g.A.Actor.gives a.actor)
    (λ a. g.A.Actor.content a.actor) (λ a. a.calls) c.args.self.now c.push_set_aside.ensures.added c.push_set_aside.ensures.within
    c.self.invariant c.self.view_is c.requires.may_take c.requires.waits c.set_aside.ensures

pub returns-clause-taken : goal.returns-clause-taken
returns-clause-taken g c =
    aside.takes c.self.inside.place c.self.inside.journal c.push_set_aside.new.self c.args.number c.args.message
    (g.K.Behaviours.after c.self.inside.place.this.0) (g.K.Behaviours.gives c.self.inside.place.this.0) c.self.inside.cell_state
    c.set_aside.new.self c.self.inside.outbox c.self.inside.unsent c.self.inside.actor (λ a. g.A.Actor.after a.actor) (λ a. g.A.Actor.gives a.actor)
    (λ a. g.A.Actor.content a.actor) (λ a. a.calls) c.args.self.now c.push_set_aside.ensures.added c.push_set_aside.ensures.within
    c.self.invariant c.self.view_is c.requires.may_take c.requires.waits c.set_aside.ensures

pub returns-clause-lawful : goal.returns-clause-lawful
returns-clause-lawful g c = (invariant_of-self g c).0.lawful
