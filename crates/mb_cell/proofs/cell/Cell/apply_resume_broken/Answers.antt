use Rattle.std.proofs.Common.{◌++◌, ◌≡◌, false, refl, ap, sym, ◌∙◌, subst}
use Rattle.std.specs.Prelude.{Some}
use Rattle.mb_msg.specs.declared.supervision.Cause.TheVariants as cause
use Rattle.mb_msg.specs.declared.system.SysMsg.TheVariants as system
use Rattle.mb_actor.specs.declared.call.Call.TheVariants.{Restart}
use Rattle.mb_actor.specs.declared.phase.Phase.TheVariants.{Broken}
use Rattle.mb_journal.specs.Aside.{sets_aside}
use Rattle.mb_journal.specs.Entry.{Entry}
use Rattle.mb_journal.specs.Entry.Entry.{System}
use Rattle.mb_journal.specs.Entry.Outcome.{Applied}
use Rattle.mb_journal.specs.Identity.{Identity}
use Rattle.mb_journal.specs.Lawful.{IsNumbered}
use Rattle.mb_journal.specs.Life.{phase, closed}
use Rattle.mb_journal.proofs.Fold.{queries}
use Rattle.mb_cell.specs.Agrees.{FollowsBehaviour}
use Rattle.mb_supervision.specs.CellStateRecord.{CellState}
use Rattle.mb_supervision.specs.ActorIdentity.{identity_of}
use Rattle.mb_cell.specs.CellView.{CellView}
use Rattle.mb_cell.proofs.CallingRow as calling
use Rattle.mb_cell.proofs.CallingRow.{IsCallingRow, IsCalled}
use Rattle.mb_cell.proofs.CellLaws as cell
use Rattle.mb_cell.proofs.RecreateRow.{recreate_after, resume_broken-row}
use Rattle.mb_cell.specs.Unsent.{unsent_acts}
use Rattle.mb_cell.proofs.UnsentLaws.{is-unsent-none, none-left, nothing-unsent, other-acts, with-unsent}
use Rattle.mb_cell.proofs.cell.Cell.apply_resume_broken.Given as given
use Rattle.mb_cell.proofs.cell.Cell.apply_resume_broken.Goals as goal

pub recreate-requires-clause-carried_out : goal.recreate-requires-clause-carried_out
recreate-requires-clause-carried_out g c = none-left _ _ (ap (λ (s : CellView). s.acts) c.self.view_is ∙ c.requires.may_take.carried_out)

pub recreate-requires-clause-below_bound : goal.recreate-requires-clause-below_bound
recreate-requires-clause-below_bound g c = cell.count-small _ _ _ _ _ c.self.invariant.0

abbrev who : (g : given.Over) (c : goal.After-settle g) → Identity
who g c = identity_of c.self.inside.place c.self.inside.journal.limit c.self.inside.journal.retention

abbrev entry : (g : given.Over) (c : goal.After-settle g) → Entry
entry g c = System c.args.number (system.Resume c.args.of_failure) (Applied (Some c.restart-answer.result) c.effects-effects.result.now)

none_unsent : (g : given.Over) (c : goal.After-settle g) → c.self.inside.unsent ≡ 0
none_unsent g c =
    nothing-unsent c.self.inside.unsent c.self.inside.journal.entries c.self.inside.cell_state.acts c.self.invariant.3
    (ap (λ (s : CellView). s.acts) c.self.view_is ∙ c.requires.may_take.carried_out)

plays : (g : given.Over) (c : goal.After-settle g) →
    FollowsBehaviour (who g c) c.self.inside.journal.entries (g.K.Behaviours.after c.self.inside.place.this.0)
    (g.K.Behaviours.gives c.self.inside.place.this.0) (g.A.Actor.after c.in-Some.actor.actor) (g.A.Actor.gives c.in-Some.actor.actor)
    (g.A.Actor.content c.in-Some.actor.actor) c.in-Some.actor.calls
plays g c = cell.plays-now c.self.inside.actor c.in-Some.actor _ _ c.in-Some.is c.self.invariant.2

came : (g : given.Over) (c : goal.After-settle g) →
    IsCalled (Restart cause.Init) (Some c.restart-answer.result) c.effects-effects.result.now c.self.inside.outbox c.restart-answer.new.out
    (g.A.Actor.after c.in-Some.actor.actor) (g.A.Actor.gives c.in-Some.actor.actor) (g.A.Actor.content c.in-Some.actor.actor)
    c.in-Some.actor.calls (g.A.Actor.after c.restart-answer.new.self.actor) (g.A.Actor.gives c.restart-answer.new.self.actor)
    c.restart-answer.new.self.calls
came g c = record {
  called_once = c.restart-answer.ensures.called;
  given = c.restart-answer.ensures.given;
  keeps = c.restart-answer.ensures.kept;
  held = c.effects-effects.ensures.held;
  same_effects = c.effects-effects.ensures.value;
}

row : (g : given.Over) (c : goal.After-settle g) →
    IsCallingRow (who g c) (g.K.Behaviours.gives c.self.inside.place.this.0) c.self.inside.journal.entries (entry g c) (Restart cause.Init)
    (Some c.restart-answer.result) c.effects-effects.result.now c.self.inside.cell_state c.recreate.new.self
    (recreate_after (who g c) (queries (who g c) c.self.inside.journal.entries) (entry g c) cause.Init c.restart-answer.result
    c.effects-effects.result.now)
row g c =
    resume_broken-row _ _ _ _ _ c.self.invariant.0 c.args.number
    (subst (λ (s : CellView). closed s.who s.journal ≡ false) (sym c.self.view_is) c.requires.may_take.not_ended)
    (none-left _ _ (ap (λ (s : CellView). s.acts) c.self.view_is ∙ c.requires.may_take.carried_out))
    (plays g c).no_guardian c.restart-answer.result c.effects-effects.result.now c.args.of_failure
    (subst (λ (s : CellView). phase s.who s.journal ≡ Broken) (sym c.self.view_is) c.requires.broken)
    (subst (λ (s : CellView). IsNumbered s.who s.journal c.args.number (system.Resume c.args.of_failure))
    (sym c.self.view_is) c.requires.may_take.numbered)
    (subst (λ (s : CellView). sets_aside s.who s.journal (system.Resume c.args.of_failure) ≡ false) (sym c.self.view_is) c.requires.applied)
    c.recreate.new.self c.recreate.ensures

pub invariant_of-self : goal.invariant_of-self
invariant_of-self g c =
    with-unsent (
    calling.calling-settled c.self.inside.place c.self.inside.journal c.push_system.new.self (entry g c) _ _ c.self.inside.cell_state
    c.recreate.new.self c.self.inside.outbox c.restart-answer.new.out _ _ _ _ _ _ _ _ _ _ c.push_system.ensures.added
    c.push_system.ensures.within c.self.invariant.0 (plays g c) (came g c) _ (row g c) c.settle.new.self
    (g.A.Actor.content c.restart-answer.new.self.actor) c.settle.ensures refl c.restart-answer.ensures.begins
    ) (is-unsent-none c.self.inside.unsent _ (none_unsent g c))

pub returns-clause-taken : goal.returns-clause-taken
returns-clause-taken g c =
    cell.taken-system c.self.inside.place c.self.inside.journal c.push_system.new.self c.args.number (system.Resume c.args.of_failure)
    (Applied (Some c.restart-answer.result) c.effects-effects.result.now) (unsent_acts c.self.inside.unsent c.self.inside.journal.entries ++ c.self.inside.cell_state.acts)
    (unsent_acts c.self.inside.unsent c.push_system.new.self.entries ++ c.recreate.new.self.acts) c.args.self.now
    c.push_system.ensures.added c.self.view_is
    (other-acts c.self.inside.unsent c.push_system.new.self.entries _ _ (none_unsent g c) (ap (λ (b : CellState). b.acts) (row g c).booked ∙ sym (row g c).acted))

pub returns-clause-lawful : goal.returns-clause-lawful
returns-clause-lawful g c = (invariant_of-self g c).0.lawful
