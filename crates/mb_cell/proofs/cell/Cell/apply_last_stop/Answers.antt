use Rattle.std.proofs.Common.{◌++◌, ◌≡◌, true, false, refl, ap, sym, ◌∙◌, subst}
use Rattle.std.specs.Prelude.{None}
use Rattle.mb_msg.specs.declared.system.SysMsg.TheVariants as system
use Rattle.mb_actor.specs.declared.call.Call.TheVariants.{Stop}
use Rattle.mb_actor.specs.declared.phase.Phase.TheVariants.{Ending}
use Rattle.mb_journal.specs.Aside.{sets_aside}
use Rattle.mb_journal.specs.Entry.{Entry}
use Rattle.mb_journal.specs.Entry.Entry.{System}
use Rattle.mb_journal.specs.Entry.Outcome.{Applied}
use Rattle.mb_journal.specs.Identity.{Identity}
use Rattle.mb_journal.specs.Lawful.{IsNumbered, was_live}
use Rattle.mb_journal.specs.Life.{phase, closed, children, is_alone}
use Rattle.mb_journal.specs.Phase.{phase_is}
use Rattle.mb_cell.specs.Agrees.{FollowsBehaviour}
use Rattle.mb_supervision.specs.CellStateRecord.{CellState}
use Rattle.mb_supervision.specs.ActorIdentity.{identity_of}
use Rattle.mb_cell.specs.CellView.{CellView}
use Rattle.mb_cell.proofs.CallingRow as calling
use Rattle.mb_cell.proofs.CallingRow.{IsCallingRow, IsCalled}
use Rattle.mb_cell.proofs.CellLaws as cell
use Rattle.std.specs.Prelude.{◌&&◌}
use Rattle.mb_journal.specs.Incarnation.{messages}
use Rattle.mb_cell.proofs.EndRow.{died_after, stop_last-row}
use Rattle.mb_cell.specs.Unsent.{unsent_acts}
use Rattle.mb_cell.proofs.UnsentLaws.{is-unsent-none, none-left, nothing-unsent, other-acts, with-unsent}
use Rattle.mb_cell.proofs.cell.Cell.apply_last_stop.Given as given
use Rattle.mb_cell.proofs.cell.Cell.apply_last_stop.Goals as goal

pub died_last-requires-clause-carried_out : goal.died_last-requires-clause-carried_out
died_last-requires-clause-carried_out g c = none-left _ _ (ap (λ (s : CellView). s.acts) c.self.view_is ∙ c.requires.may_take.carried_out)

abbrev who : (g : given.Over) (c : goal.After-clear g) → Identity
who g c = identity_of c.self.inside.place c.self.inside.journal.limit c.self.inside.journal.retention

abbrev entry : (g : given.Over) (c : goal.After-clear g) → Entry
entry g c = System c.args.number (system.Died c.args.id) (Applied None c.effects-effects.result.now)

none_unsent : (g : given.Over) (c : goal.After-clear g) → c.self.inside.unsent ≡ 0
none_unsent g c =
    nothing-unsent c.self.inside.unsent c.self.inside.journal.entries c.self.inside.cell_state.acts c.self.invariant.3
    (ap (λ (s : CellView). s.acts) c.self.view_is ∙ c.requires.may_take.carried_out)

plays : (g : given.Over) (c : goal.After-clear g) →
    FollowsBehaviour (who g c) c.self.inside.journal.entries (g.K.Behaviours.after c.self.inside.place.this.0)
    (g.K.Behaviours.gives c.self.inside.place.this.0) (g.A.Actor.after c.in-Some.actor.actor) (g.A.Actor.gives c.in-Some.actor.actor)
    (g.A.Actor.content c.in-Some.actor.actor) c.in-Some.actor.calls
plays g c = cell.plays-now c.self.inside.actor c.in-Some.actor _ _ c.in-Some.is c.self.invariant.2

came : (g : given.Over) (c : goal.After-clear g) →
    IsCalled Stop None c.effects-effects.result.now c.self.inside.outbox c.stop.new.out
    (g.A.Actor.after c.in-Some.actor.actor) (g.A.Actor.gives c.in-Some.actor.actor) (g.A.Actor.content c.in-Some.actor.actor)
    c.in-Some.actor.calls (g.A.Actor.after c.stop.new.self.actor) (g.A.Actor.gives c.stop.new.self.actor)
    c.stop.new.self.calls
came g c = record {
  called_once = c.stop.ensures.called;
  given = c.stop.ensures.given;
  keeps = c.stop.ensures.kept;
  held = c.effects-effects.ensures.held;
  same_effects = c.effects-effects.ensures.value;
}

row : (g : given.Over) (c : goal.After-clear g) →
    IsCallingRow (who g c) (g.K.Behaviours.gives c.self.inside.place.this.0) c.self.inside.journal.entries (entry g c) Stop
    None c.effects-effects.result.now c.self.inside.cell_state c.died_last.new.self
    (died_after _ _ _ _ _ c.self.invariant.0 c.args.number
    (subst (λ (s : CellView). closed s.who s.journal ≡ false) (sym c.self.view_is) c.requires.may_take.not_ended)
    (none-left _ _ (ap (λ (s : CellView). s.acts) c.self.view_is ∙ c.requires.may_take.carried_out))
    c.args.id c.effects-effects.result.now
    (subst (λ (s : CellView). (phase_is (phase s.who s.journal) Ending && is_alone (children s.who s.journal) c.args.id) ≡ true)
    (sym c.self.view_is) c.requires.last))
row g c =
    stop_last-row _ _ _ _ _ c.self.invariant.0 c.args.number
    (subst (λ (s : CellView). closed s.who s.journal ≡ false) (sym c.self.view_is) c.requires.may_take.not_ended)
    (none-left _ _ (ap (λ (s : CellView). s.acts) c.self.view_is ∙ c.requires.may_take.carried_out))
    c.args.id c.effects-effects.result.now
    (subst (λ (s : CellView). (phase_is (phase s.who s.journal) Ending && is_alone (children s.who s.journal) c.args.id) ≡ true)
    (sym c.self.view_is) c.requires.last)
    (plays g c).no_guardian
    (subst (λ (s : CellView). was_live s.who s.journal ≡ true) (sym c.self.view_is) c.requires.live)
    (subst (λ (s : CellView). IsNumbered s.who s.journal c.args.number (system.Died c.args.id)) (sym c.self.view_is) c.requires.may_take.numbered)
    (subst (λ (s : CellView). sets_aside s.who s.journal (system.Died c.args.id) ≡ false) (sym c.self.view_is) c.requires.applied)
    c.died_last.new.self c.died_last.ensures

pub invariant_of-self : goal.invariant_of-self
invariant_of-self g c =
    with-unsent (
    calling.calling-cleared c.self.inside.place c.self.inside.journal c.push_system.new.self (entry g c) _ _ c.self.inside.cell_state
    c.died_last.new.self c.self.inside.outbox c.stop.new.out _ _ _ _ _ _ _ _ _ _ c.push_system.ensures.added
    c.push_system.ensures.within c.self.invariant.0 (plays g c) (came g c) _ (row g c) c.clear.new.self
    (g.A.Actor.content c.stop.new.self.actor) c.clear.ensures refl (c.stop.ensures.stays ∙ ((plays g c).same_content
    ∙ ap (λ f. f (messages (who g c) c.self.inside.journal.entries)) (sym (c.stop.ensures.kept.after_kept ∙ (plays g c).same_after))))
    ) (is-unsent-none c.self.inside.unsent _ (none_unsent g c))

pub returns-clause-taken : goal.returns-clause-taken
returns-clause-taken g c =
    cell.taken-system c.self.inside.place c.self.inside.journal c.push_system.new.self c.args.number (system.Died c.args.id)
    (Applied None c.effects-effects.result.now) (unsent_acts c.self.inside.unsent c.self.inside.journal.entries ++ c.self.inside.cell_state.acts)
    (unsent_acts c.self.inside.unsent c.push_system.new.self.entries ++ c.died_last.new.self.acts) c.args.self.now
    c.push_system.ensures.added c.self.view_is
    (other-acts c.self.inside.unsent c.push_system.new.self.entries _ _ (none_unsent g c) (ap (λ (b : CellState). b.acts) (row g c).booked ∙ sym (row g c).acted))

pub returns-clause-lawful : goal.returns-clause-lawful
returns-clause-lawful g c = (invariant_of-self g c).0.lawful
