use Rattle.std.proofs.Common.{◌++◌, ◌≡◌, true, refl, arith, ap, sym, ◌∙◌, subst}
use Rattle.std.specs.Prelude.{Some}
use Rattle.mb_msg.specs.declared.system.SysMsg.TheVariants as system
use Rattle.mb_actor.specs.declared.call.Call.TheVariants.{Start}
use Rattle.mb_actor.specs.declared.phase.Phase.TheVariants.{Fresh}
use Rattle.mb_journal.specs.Entry.{Entry}
use Rattle.mb_journal.specs.Entry.Entry.{System}
use Rattle.mb_journal.specs.Entry.Outcome.{Applied}
use Rattle.mb_journal.specs.Identity.{Identity, is_guardian}
use Rattle.mb_journal.specs.Lawful.{IsNumbered}
use Rattle.mb_journal.specs.Life.{phase}
use Rattle.mb_journal.proofs.CreateLemmas.{sets_aside-create}
use Rattle.mb_cell.specs.Agrees.{FollowsBehaviour}
use Rattle.mb_supervision.specs.CellStateRecord.{CellState}
use Rattle.mb_supervision.specs.ActorIdentity.{identity_of}
use Rattle.mb_cell.specs.CellView.{CellView}
use Rattle.mb_cell.proofs.CallingRow as calling
use Rattle.mb_cell.proofs.CallingRow.{IsCallingRow, IsCalled}
use Rattle.mb_cell.proofs.CellLaws as cell
use Rattle.mb_cell.proofs.CreateRow.{create_after, create-row, create_guardian-row}
use Rattle.mb_journal.proofs.Fold.{queries}
use Rattle.mb_cell.proofs.SilentRow as silent
use Rattle.mb_cell.proofs.SilentRow.{IsSilentRow}
use Rattle.mb_cell.specs.Unsent.{unsent_acts}
use Rattle.mb_cell.proofs.UnsentLaws.{is-unsent-none, none-left, nothing-unsent, other-acts, with-unsent}
use Rattle.mb_cell.proofs.cell.Cell.apply_create.Given as given
use Rattle.mb_cell.proofs.cell.Cell.apply_create.Goals as goal

pub create_guardian-requires-clause-carried_out : goal.create_guardian-requires-clause-carried_out
create_guardian-requires-clause-carried_out g c = none-left _ _ (ap (λ (s : CellView). s.acts) c.self.view_is ∙ c.requires.may_take.carried_out)

pub create-requires-clause-carried_out : goal.create-requires-clause-carried_out
create-requires-clause-carried_out g c = none-left _ _ (ap (λ (s : CellView). s.acts) c.self.view_is ∙ c.requires.may_take.carried_out)

-- ---- the guardian

guardian : (g : given.Over) (c : goal.After-push_system g) → is_guardian (identity_of c.self.inside.place c.self.inside.journal.limit c.self.inside.journal.retention) ≡ true
guardian g c = cell.guardian-now c.self.inside.actor _ _ c.in_default.not-Some c.self.invariant.2

guardian_row : (g : given.Over) (c : goal.After-push_system g) →
    IsSilentRow (identity_of c.self.inside.place c.self.inside.journal.limit c.self.inside.journal.retention) c.self.inside.journal.entries c.args.number system.Create
    c.self.inside.cell_state c.create_guardian.new.self
guardian_row g c =
    create_guardian-row _ _ _ _ _ c.self.invariant.0 c.args.number
    (subst (λ (s : CellView). phase s.who s.journal ≡ Fresh) (sym c.self.view_is) c.requires.fresh)
    (none-left _ _ (ap (λ (s : CellView). s.acts) c.self.view_is ∙ c.requires.may_take.carried_out))
    (guardian g c) c.create_guardian.new.self c.create_guardian.ensures

pub create_guardian-requires-clause-within_limit : goal.create_guardian-requires-clause-within_limit
create_guardian-requires-clause-within_limit g c = let same = c.self.invariant.0.fanout in omega arith

pub invariant_of-self : goal.invariant_of-self
invariant_of-self g c =
    silent.keeps c.self.inside.place c.self.inside.journal c.push_system.new.self c.args.number system.Create
    (g.K.Behaviours.after c.self.inside.place.this.0) (g.K.Behaviours.gives c.self.inside.place.this.0) c.self.inside.cell_state
    c.create_guardian.new.self c.self.inside.outbox c.self.inside.unsent c.self.inside.actor (λ a. g.A.Actor.after a.actor) (λ a. g.A.Actor.gives a.actor)
    (λ a. g.A.Actor.content a.actor) (λ a. a.calls) c.args.self.now c.push_system.ensures.added c.push_system.ensures.within
    c.self.invariant c.self.view_is c.requires.may_take (sets_aside-create _ _) (guardian_row g c)

pub returns-in_default-clause-taken : goal.returns-in_default-clause-taken
returns-in_default-clause-taken g c =
    silent.takes c.self.inside.place c.self.inside.journal c.push_system.new.self c.args.number system.Create
    (g.K.Behaviours.after c.self.inside.place.this.0) (g.K.Behaviours.gives c.self.inside.place.this.0) c.self.inside.cell_state
    c.create_guardian.new.self c.self.inside.outbox c.self.inside.unsent c.self.inside.actor (λ a. g.A.Actor.after a.actor) (λ a. g.A.Actor.gives a.actor)
    (λ a. g.A.Actor.content a.actor) (λ a. a.calls) c.args.self.now c.push_system.ensures.added c.push_system.ensures.within
    c.self.invariant c.self.view_is c.requires.may_take (sets_aside-create _ _) (guardian_row g c)

pub returns-in_default-clause-lawful : goal.returns-in_default-clause-lawful
returns-in_default-clause-lawful g c = (invariant_of-self g c).0.lawful

-- ---- an actor

pub create-requires-clause-below_bound : goal.create-requires-clause-below_bound
create-requires-clause-below_bound g c = cell.count-small _ _ _ _ _ c.self.invariant.0

abbrev who : (g : given.Over) (c : goal.After-settle g) → Identity
who g c = identity_of c.self.inside.place c.self.inside.journal.limit c.self.inside.journal.retention

abbrev entry : (g : given.Over) (c : goal.After-settle g) → Entry
entry g c = System c.args.number system.Create (Applied (Some c.start-answer.result) c.effects-effects.result.now)

none_unsent : (g : given.Over) (c : goal.After-settle g) → c.self.inside.unsent ≡ 0
none_unsent g c =
    nothing-unsent c.self.inside.unsent c.self.inside.journal.entries c.self.inside.cell_state.acts c.self.invariant.3
    (ap (λ (s : CellView). s.acts) c.self.view_is ∙ c.requires.may_take.carried_out)

plays : (g : given.Over) (c : goal.After-settle g) →
    FollowsBehaviour (who g c) c.self.inside.journal.entries (g.K.Behaviours.after c.self.inside.place.this.0)
    (g.K.Behaviours.gives c.self.inside.place.this.0) (g.A.Actor.after c.in-Some.actor.actor) (g.A.Actor.gives c.in-Some.actor.actor)
    (g.A.Actor.content c.in-Some.actor.actor) c.in-Some.actor.calls
plays g c = cell.plays-now c.self.inside.actor c.in-Some.actor _ _ c.in-Some.is c.self.invariant.2

came : (g : given.Over) (c : goal.After-settle g) →
    IsCalled Start (Some c.start-answer.result) c.effects-effects.result.now c.self.inside.outbox c.start-answer.new.out
    (g.A.Actor.after c.in-Some.actor.actor) (g.A.Actor.gives c.in-Some.actor.actor) (g.A.Actor.content c.in-Some.actor.actor)
    c.in-Some.actor.calls (g.A.Actor.after c.start-answer.new.self.actor) (g.A.Actor.gives c.start-answer.new.self.actor)
    c.start-answer.new.self.calls
came g c = record {
  called_once = c.start-answer.ensures.called;
  given = c.start-answer.ensures.given;
  keeps = c.start-answer.ensures.kept;
  held = c.effects-effects.ensures.held;
  same_effects = c.effects-effects.ensures.value;
}

row : (g : given.Over) (c : goal.After-settle g) →
    IsCallingRow (who g c) (g.K.Behaviours.gives c.self.inside.place.this.0) c.self.inside.journal.entries (entry g c) Start
    (Some c.start-answer.result) c.effects-effects.result.now c.self.inside.cell_state c.create.new.self
    (create_after (who g c) (queries (who g c) c.self.inside.journal.entries) c.args.number c.start-answer.result c.effects-effects.result.now)
row g c =
    create-row _ _ _ _ _ c.self.invariant.0 c.args.number
    (subst (λ (s : CellView). phase s.who s.journal ≡ Fresh) (sym c.self.view_is) c.requires.fresh)
    (none-left _ _ (ap (λ (s : CellView). s.acts) c.self.view_is ∙ c.requires.may_take.carried_out))
    (plays g c).no_guardian c.start-answer.result c.effects-effects.result.now
    (subst (λ (s : CellView). IsNumbered s.who s.journal c.args.number system.Create) (sym c.self.view_is) c.requires.may_take.numbered)
    c.create.new.self c.create.ensures

pub invariant_of-self-2 : goal.invariant_of-self-2
invariant_of-self-2 g c =
    with-unsent (
    calling.calling-settled c.self.inside.place c.self.inside.journal c.push_system-2.new.self (entry g c) _ _ c.self.inside.cell_state
    c.create.new.self c.self.inside.outbox c.start-answer.new.out _ _ _ _ _ _ _ _ _ _ c.push_system-2.ensures.added
    c.push_system-2.ensures.within c.self.invariant.0 (plays g c) (came g c) _ (row g c) c.settle.new.self
    (g.A.Actor.content c.start-answer.new.self.actor) c.settle.ensures refl c.start-answer.ensures.begins
    ) (is-unsent-none c.self.inside.unsent _ (none_unsent g c))

pub returns-clause-taken : goal.returns-clause-taken
returns-clause-taken g c =
    cell.taken-system c.self.inside.place c.self.inside.journal c.push_system-2.new.self c.args.number system.Create
    (Applied (Some c.start-answer.result) c.effects-effects.result.now) (unsent_acts c.self.inside.unsent c.self.inside.journal.entries ++ c.self.inside.cell_state.acts)
    (unsent_acts c.self.inside.unsent c.push_system-2.new.self.entries ++ c.create.new.self.acts) c.args.self.now
    c.push_system-2.ensures.added c.self.view_is
    (other-acts c.self.inside.unsent c.push_system-2.new.self.entries _ _ (none_unsent g c) (ap (λ (b : CellState). b.acts) (row g c).booked ∙ sym (row g c).acted))

pub returns-clause-lawful : goal.returns-clause-lawful
returns-clause-lawful g c = (invariant_of-self-2 g c).0.lawful
