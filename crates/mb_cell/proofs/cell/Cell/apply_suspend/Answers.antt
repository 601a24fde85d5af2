use Rattle.std.proofs.Common.{◌≡◌, false, sym, subst, ap, ◌∙◌}
use Rattle.mb_msg.specs.declared.system.SysMsg.TheVariants as system
use Rattle.mb_actor.specs.declared.phase.Phase.TheVariants.{Fresh}
use Rattle.mb_journal.specs.Life.{phase, closed}
use Rattle.mb_journal.specs.Phase.{phase_is}
use Rattle.mb_supervision.specs.ActorIdentity.{identity_of}
use Rattle.mb_cell.specs.CellView.{CellView}
use Rattle.mb_cell.proofs.CellLaws.{count-small}
use Rattle.mb_cell.proofs.SilentRow as silent
use Rattle.mb_cell.proofs.SilentRow.{IsSilentRow}
use Rattle.mb_cell.proofs.SuspendRow.{suspend-row}
use Rattle.mb_cell.proofs.UnsentLaws.{none-left}
use Rattle.mb_cell.proofs.cell.Cell.apply_suspend.Given as given
use Rattle.mb_cell.proofs.cell.Cell.apply_suspend.Goals as goal

pub suspend-requires-clause-carried_out : goal.suspend-requires-clause-carried_out
suspend-requires-clause-carried_out g c = none-left _ _ (ap (λ (s : CellView). s.acts) c.self.view_is ∙ c.requires.may_take.carried_out)

pub suspend-requires-clause-below_bound : goal.suspend-requires-clause-below_bound
suspend-requires-clause-below_bound g c = count-small _ _ _ _ _ c.self.invariant.0

row : (g : given.Over) (c : goal.After-push_system g) →
    IsSilentRow (identity_of c.self.inside.place c.self.inside.journal.limit c.self.inside.journal.retention) c.self.inside.journal.entries c.args.number system.Suspend
    c.self.inside.cell_state c.suspend.new.self
row g c =
    suspend-row _ _ _ _ _ c.self.invariant.0 c.args.number
    (subst (λ (s : CellView). closed s.who s.journal ≡ false) (sym c.self.view_is) c.requires.may_take.not_ended)
    (subst (λ (s : CellView). phase_is (phase s.who s.journal) Fresh ≡ false) (sym c.self.view_is) c.requires.not_fresh)
    c.suspend.new.self c.suspend.ensures

pub invariant_of-self : goal.invariant_of-self
invariant_of-self g c =
    silent.keeps c.self.inside.place c.self.inside.journal c.push_system.new.self c.args.number system.Suspend
    (g.K.Behaviours.after c.self.inside.place.this.0) (g.K.Behaviours.gives c.self.inside.place.this.0) c.self.inside.cell_state
    c.suspend.new.self c.self.inside.outbox c.self.inside.unsent c.self.inside.actor (λ a. g.A.Actor.after a.actor) (λ a. g.A.Actor.gives a.actor)
    (λ a. g.A.Actor.content a.actor) (λ a. a.calls) c.args.self.now c.push_system.ensures.added c.push_system.ensures.within
    c.self.invariant c.self.view_is c.requires.may_take c.requires.applied (row g c)

pub returns-clause-taken : goal.returns-clause-taken
returns-clause-taken g c =
    silent.takes c.self.inside.place c.self.inside.journal c.push_system.new.self c.args.number system.Suspend
    (g.K.Behaviours.after c.self.inside.place.this.0) (g.K.Behaviours.gives c.self.inside.place.this.0) c.self.inside.cell_state
    c.suspend.new.self c.self.inside.outbox c.self.inside.unsent c.self.inside.actor (λ a. g.A.Actor.after a.actor) (λ a. g.A.Actor.gives a.actor)
    (λ a. g.A.Actor.content a.actor) (λ a. a.calls) c.args.self.now c.push_system.ensures.added c.push_system.ensures.within
    c.self.invariant c.self.view_is c.requires.may_take c.requires.applied (row g c)

pub returns-clause-lawful : goal.returns-clause-lawful
returns-clause-lawful g c = (invariant_of-self g c).0.lawful
