use Rattle.std.proofs.Common.{◌≡◌, true, false, ap, sym, ◌∙◌, subst}
use Rattle.std.specs.Prelude.{◌&&◌, not}
use Rattle.mb_msg.specs.declared.system.SysMsg.TheVariants as system
use Rattle.mb_actor.specs.declared.phase.Phase.TheVariants.{Live, Ending}
use Rattle.mb_journal.specs.Identity.{is_guardian}
use Rattle.mb_journal.specs.Life.{phase, closed, children, is_empty}
use Rattle.mb_journal.specs.Phase.{phase_is}
use Rattle.mb_supervision.specs.ActorIdentity.{identity_of}
use Rattle.mb_cell.specs.CellView.{CellView}
use Rattle.mb_cell.proofs.SilentRow as silent
use Rattle.mb_cell.proofs.SilentRow.{IsSilentRow}
use Rattle.mb_cell.proofs.EndRow.{ended-row}
use Rattle.mb_cell.proofs.UnsentLaws.{none-left}
use Rattle.mb_cell.proofs.cell.Cell.apply_end.Given as given
use Rattle.mb_cell.proofs.cell.Cell.apply_end.Goals as goal

pub end_at_once-requires-clause-carried_out : goal.end_at_once-requires-clause-carried_out
end_at_once-requires-clause-carried_out g c = none-left _ _ (ap (λ (s : CellView). s.acts) c.self.view_is ∙ c.requires.may_take.carried_out)

row : (g : given.Over) (c : goal.After-push_system g) →
    IsSilentRow (identity_of c.self.inside.place c.self.inside.journal.limit c.self.inside.journal.retention) c.self.inside.journal.entries c.args.number system.Terminate
    c.self.inside.cell_state c.end_at_once.new.self
row g c =
    ended-row _ _ _ _ _ c.self.invariant.0 c.args.number
    (subst (λ (s : CellView). closed s.who s.journal ≡ false) (sym c.self.view_is) c.requires.may_take.not_ended)
    (none-left _ _ (ap (λ (s : CellView). s.acts) c.self.view_is ∙ c.requires.may_take.carried_out))
    (subst (λ (s : CellView). phase_is (phase s.who s.journal) Ending ≡ false) (sym c.self.view_is) c.requires.not_ending)
    (subst (λ (s : CellView). is_empty (children s.who s.journal) ≡ true) (sym c.self.view_is) c.requires.no_children)
    (subst (λ (s : CellView). (not (is_guardian s.who) && phase_is (phase s.who s.journal) Live) ≡ false) (sym c.self.view_is) c.requires.is_not_live)
    c.end_at_once.new.self c.end_at_once.ensures

pub invariant_of-self : goal.invariant_of-self
invariant_of-self g c =
    silent.keeps c.self.inside.place c.self.inside.journal c.push_system.new.self c.args.number system.Terminate
    (g.K.Behaviours.after c.self.inside.place.this.0) (g.K.Behaviours.gives c.self.inside.place.this.0) c.self.inside.cell_state
    c.end_at_once.new.self c.self.inside.outbox c.self.inside.unsent c.self.inside.actor (λ a. g.A.Actor.after a.actor) (λ a. g.A.Actor.gives a.actor)
    (λ a. g.A.Actor.content a.actor) (λ a. a.calls) c.args.self.now c.push_system.ensures.added c.push_system.ensures.within
    c.self.invariant c.self.view_is c.requires.may_take c.requires.applied (row g c)

pub returns-clause-taken : goal.returns-clause-taken
returns-clause-taken g c =
    silent.takes c.self.inside.place c.self.inside.journal c.push_system.new.self c.args.number system.Terminate
    (g.K.Behaviours.after c.self.inside.place.this.0) (g.K.Behaviours.gives c.self.inside.place.this.0) c.self.inside.cell_state
    c.end_at_once.new.self c.self.inside.outbox c.self.inside.unsent c.self.inside.actor (λ a. g.A.Actor.after a.actor) (λ a. g.A.Actor.gives a.actor)
    (λ a. g.A.Actor.content a.actor) (λ a. a.calls) c.args.self.now c.push_system.ensures.added c.push_system.ensures.within
    c.self.invariant c.self.view_is c.requires.may_take c.requires.applied (row g c)

pub returns-clause-lawful : goal.returns-clause-lawful
returns-clause-lawful g c = (invariant_of-self g c).0.lawful
