use Rattle.std.proofs.Common.{◌≡◌, ℕ, [], true, false, ap, sym, subst, ◌∙◌}
use Rattle.mb_msg.specs.declared.id.ActorId.{ActorId}
use Rattle.mb_msg.specs.declared.system.SysMsg.TheVariants as system
use Rattle.mb_actor.specs.ActorList.{has}
use Rattle.mb_actor.specs.declared.phase.Phase.TheVariants.{Fresh}
use Rattle.mb_journal.specs.Life.{phase, closed, children}
use Rattle.mb_journal.specs.Phase.{phase_is}
use Rattle.mb_supervision.specs.ActorIdentity.{identity_of}
use Rattle.mb_cell.specs.CellView.{CellView}
use Rattle.mb_cell.proofs.CellLaws.{count-small}
use Rattle.mb_cell.proofs.FailedRow.{failed-row}
use Rattle.mb_cell.proofs.RetryLaws.{retries-small}
use Rattle.mb_cell.proofs.SilentRow as silent
use Rattle.mb_cell.proofs.SilentRow.{IsSilentRow}
use Rattle.mb_cell.proofs.UnsentLaws.{none-left}
use Rattle.mb_cell.proofs.cell.Cell.apply_failed.Given as given
use Rattle.mb_cell.proofs.cell.Cell.apply_failed.Goals as goal

pub supervise-requires-clause-carried_out : goal.supervise-requires-clause-carried_out
supervise-requires-clause-carried_out g c = none-left _ _ (ap (λ (s : CellView). s.acts) c.self.view_is ∙ c.requires.may_take.carried_out)

pub supervise-requires-clause-below_bound : goal.supervise-requires-clause-below_bound
supervise-requires-clause-below_bound g c = count-small _ _ _ _ _ c.self.invariant.0

pub supervise-requires-clause-few_requests : goal.supervise-requires-clause-few_requests
supervise-requires-clause-few_requests g c = retries-small _ _ _ _ _ c.self.invariant.0

row : (g : given.Over) (c : goal.After-push_system g) →
    IsSilentRow (identity_of c.self.inside.place c.self.inside.journal.limit c.self.inside.journal.retention) c.self.inside.journal.entries c.args.number
    (system.Failed c.args.child c.args.cause) c.self.inside.cell_state c.supervise.new.self
row g c =
    failed-row _ _ _ _ _ c.self.invariant.0 c.args.number
    (subst (λ (s : CellView). closed s.who s.journal ≡ false) (sym c.self.view_is) c.requires.may_take.not_ended)
    (none-left _ _ (subst (λ (s : CellView). s.acts ≡ []) (sym c.self.view_is) c.requires.may_take.carried_out))
    (subst (λ (s : CellView). phase_is (phase s.who s.journal) Fresh ≡ false) (sym c.self.view_is) c.requires.not_fresh)
    c.args.child c.args.cause
    (subst (λ (s : CellView). has (children s.who s.journal) c.args.child ≡ true) (sym c.self.view_is) c.requires.of_child)
    c.supervise.new.self c.supervise.ensures.state
    (λ y. ap (λ (f : ActorId → ℕ). f y) c.supervise.ensures.counted)

pub invariant_of-self : goal.invariant_of-self
invariant_of-self g c =
    silent.keeps c.self.inside.place c.self.inside.journal c.push_system.new.self c.args.number (system.Failed c.args.child c.args.cause)
    (g.K.Behaviours.after c.self.inside.place.this.0) (g.K.Behaviours.gives c.self.inside.place.this.0) c.self.inside.cell_state
    c.supervise.new.self c.self.inside.outbox c.self.inside.unsent c.self.inside.actor (λ a. g.A.Actor.after a.actor) (λ a. g.A.Actor.gives a.actor)
    (λ a. g.A.Actor.content a.actor) (λ a. a.calls) c.args.self.now c.push_system.ensures.added c.push_system.ensures.within
    c.self.invariant c.self.view_is c.requires.may_take c.requires.applied (row g c)

pub returns-clause-taken : goal.returns-clause-taken
returns-clause-taken g c =
    silent.takes c.self.inside.place c.self.inside.journal c.push_system.new.self c.args.number (system.Failed c.args.child c.args.cause)
    (g.K.Behaviours.after c.self.inside.place.this.0) (g.K.Behaviours.gives c.self.inside.place.this.0) c.self.inside.cell_state
    c.supervise.new.self c.self.inside.outbox c.self.inside.unsent c.self.inside.actor (λ a. g.A.Actor.after a.actor) (λ a. g.A.Actor.gives a.actor)
    (λ a. g.A.Actor.content a.actor) (λ a. a.calls) c.args.self.now c.push_system.ensures.added c.push_system.ensures.within
    c.self.invariant c.self.view_is c.requires.may_take c.requires.applied (row g c)

pub returns-clause-lawful : goal.returns-clause-lawful
returns-clause-lawful g c = (invariant_of-self g c).0.lawful
