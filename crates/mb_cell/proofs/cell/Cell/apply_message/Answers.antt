use Rattle.std.proofs.Common.{◌≡◌, ◌-◌, ◌++◌, List, false, length, drop, refl, ap, sym, ◌∙◌, subst}
use Rattle.std.specs.Prelude.{Some}
use Rattle.mb_status.specs.Mailbox.{word_of}
use Rattle.mb_actor.specs.declared.call.Call.TheVariants.{Receive}
use Rattle.mb_actor.specs.declared.effect.Effect.{Effect}
use Rattle.mb_journal.specs.Acts.{stop_acts}
use Rattle.mb_journal.specs.Entry.{Entry}
use Rattle.mb_journal.specs.Entry.Entry.{Handled}
use Rattle.mb_journal.specs.Entry.Outcome.{Applied}
use Rattle.mb_journal.specs.Identity.{Identity}
use Rattle.mb_journal.specs.Incarnation.{messages}
use Rattle.mb_journal.specs.JournalView.{JournalView}
use Rattle.mb_journal.specs.Lawful.{IsExpected}
use Rattle.mb_journal.specs.Reading.{IsOpen}
use Rattle.mb_journal.proofs.Fold.{queries}
use Rattle.mb_cell.specs.Agrees.{FollowsBehaviour}
use Rattle.mb_supervision.specs.CellStateRecord.{CellState}
use Rattle.mb_cell.specs.MayHandle.{MayHandle}
use Rattle.mb_supervision.specs.ActorIdentity.{identity_of}
use Rattle.mb_cell.specs.CellView.{CellView}
use Rattle.mb_cell.proofs.CallingRow as calling
use Rattle.mb_cell.proofs.CallingRow.{IsCallingRow, IsCalled}
use Rattle.mb_cell.proofs.CellLaws as cell
use Rattle.mb_cell.proofs.HandledRow.{handled_after, receive-row}
use Rattle.mb_cell.specs.Unsent.{IsUnsent, unsent_acts}
use Rattle.mb_cell.proofs.UnsentLaws.{agrees-acts, none-left}
use Rattle.mb_cell.proofs.cell.Cell.apply_message.Given as given
use Rattle.mb_cell.proofs.cell.Cell.apply_message.Goals as goal

pub handle-self-inside-requires-clause-ready : goal.handle-self-inside-requires-clause-ready
handle-self-inside-requires-clause-ready g c =
    let ready = ap (λ (s : CellView). s.is_ready) c.self.view_is ∙ c.requires.may_handle.ready in (c.self.invariant.1 ready, ready)

pub handle-self-inside-requires-clause-carried_out : goal.handle-self-inside-requires-clause-carried_out
handle-self-inside-requires-clause-carried_out g c = none-left _ _ (ap (λ (s : CellView). s.acts) c.self.view_is ∙ c.requires.may_handle.carried_out)

pub handle-self-inside-requires-clause-below_bound : goal.handle-self-inside-requires-clause-below_bound
handle-self-inside-requires-clause-below_bound g c = cell.count-small _ _ _ _ _ c.self.invariant.0

abbrev who : (g : given.Over) (c : goal.After-settle g) → Identity
who g c = identity_of c.self.inside.place c.self.inside.journal.limit c.self.inside.journal.retention

abbrev seen : (g : given.Over) (c : goal.After-settle g) → CellView
seen g c = record {
  who = who g c;
  journal = c.self.inside.journal.entries;
  acts = unsent_acts c.self.inside.unsent c.self.inside.journal.entries ++ c.self.inside.cell_state.acts;
  is_ready = c.self.inside.journal.is_ready;
}

may_handle : (g : given.Over) (c : goal.After-settle g) → MayHandle (seen g c) c.args.envelope (word_of c.args.reading)
may_handle g c = subst (λ (s : CellView). MayHandle s c.args.envelope (word_of c.args.reading)) (sym c.self.view_is) c.requires.may_handle

-- the effects that were asked for
abbrev asked : (g : given.Over) (c : goal.After-settle g) → List Effect
asked g c = c.receive-answer.new.out.effects

abbrev entry : (g : given.Over) (c : goal.After-settle g) → Entry
entry g c = Handled c.args.envelope c.word.result (Applied (Some c.receive-answer.result) (asked g c))

plays : (g : given.Over) (c : goal.After-settle g) →
    FollowsBehaviour (who g c) c.self.inside.journal.entries (g.K.Behaviours.after c.self.inside.place.this.0)
    (g.K.Behaviours.gives c.self.inside.place.this.0) (g.A.Actor.after c.in-Some.actor.actor) (g.A.Actor.gives c.in-Some.actor.actor)
    (g.A.Actor.content c.in-Some.actor.actor) c.in-Some.actor.calls
plays g c = cell.plays-now c.self.inside.actor c.in-Some.actor _ _ c.in-Some.is c.self.invariant.2

came : (g : given.Over) (c : goal.After-settle g) →
    IsCalled (Receive c.args.message) (Some c.receive-answer.result) (asked g c) c.self.inside.outbox c.receive-answer.new.out
    (g.A.Actor.after c.in-Some.actor.actor) (g.A.Actor.gives c.in-Some.actor.actor) (g.A.Actor.content c.in-Some.actor.actor)
    c.in-Some.actor.calls (g.A.Actor.after c.receive-answer.new.self.actor) (g.A.Actor.gives c.receive-answer.new.self.actor)
    c.receive-answer.new.self.calls
came g c = record {
  called_once = c.receive-answer.ensures.called;
  given = c.receive-answer.ensures.given;
  keeps = c.receive-answer.ensures.kept;
  held = c.handle-self-inside.ensures.held;
  same_effects = refl;
}

-- the state with the tells that are left, as if they were among its acts, and without room
abbrev as_if : (g : given.Over) (c : goal.After-settle g) → CellState
as_if g c = record c.handle-self-inside.new.cell_state {
  acts = stop_acts (drop (length (asked g c) - c.handle-self-inside.result) (asked g c)) ++ c.handle-self-inside.new.cell_state.acts;
  is_ready = false;
}

row : (g : given.Over) (c : goal.After-settle g) →
    IsCallingRow (who g c) (g.K.Behaviours.gives c.self.inside.place.this.0) c.self.inside.journal.entries (entry g c) (Receive c.args.message)
    (Some c.receive-answer.result) (asked g c) c.self.inside.cell_state (as_if g c)
    (handled_after (who g c) (queries (who g c) c.self.inside.journal.entries) c.args.envelope c.word.result (Some c.receive-answer.result)
    (asked g c))
row g c =
    receive-row _ _ _ _ _ c.self.invariant.0 (none-left _ _ (may_handle g c).carried_out) c.args.envelope c.word.result (plays g c).no_guardian
    (may_handle g c).addressed (may_handle g c).live
    (subst (λ w. IsOpen (who g c) c.self.inside.journal.entries w) (sym c.word.ensures.word) (may_handle g c).open_reading)
    c.args.message c.receive-answer.result (asked g c) c.requires.calls
    (subst (λ (s : CellView). IsExpected s.who s.journal c.args.envelope.body) (sym c.self.view_is) c.requires.expected)
    (as_if g c)
    c.handle-self-inside.ensures.handled

-- the content before, as the actor's own function has it
content_before : (g : given.Over) (c : goal.After-settle g) →
    g.A.Actor.content c.in-Some.actor.actor ≡ g.A.Actor.after c.in-Some.actor.actor (messages (who g c) c.self.inside.journal.entries)
content_before g c =
    (plays g c).same_content ∙ ap (λ f. f (messages (who g c) c.self.inside.journal.entries)) (sym (plays g c).same_after)

-- so many effects of the new entry are left
left : (g : given.Over) (c : goal.After-settle g) → IsUnsent c.handle-self-inside.result c.handle-self-inside.new.journal.entries
left g c =
    subst (λ (j : JournalView). IsUnsent c.handle-self-inside.result j.entries) (sym c.handle-self-inside.ensures.added)
    (record { within = c.handle-self-inside.ensures.within; tells = c.handle-self-inside.ensures.tells })

-- the journal as if there were no room for another entry
abbrev without_room : (g : given.Over) (c : goal.After-settle g) → JournalView
without_room g c = record c.handle-self-inside.new.journal { is_ready = false }

pub invariant_of-self : goal.invariant_of-self
invariant_of-self g c =
    let kept = calling.calling-settled c.self.inside.place c.self.inside.journal (without_room g c) (entry g c) _ _ c.self.inside.cell_state
    (as_if g c) c.self.inside.outbox c.receive-answer.new.out _ _ _ _ _ _ _ _ _ _
    (ap (λ (j : JournalView). record j { is_ready = false }) c.handle-self-inside.ensures.added)
    c.handle-self-inside.ensures.within_limit c.self.invariant.0 (plays g c) (came g c) _ (row g c) c.settle.new.self
    (g.A.Actor.content c.receive-answer.new.self.actor) c.settle.ensures refl
    (c.receive-answer.ensures.continues (messages (who g c) c.self.inside.journal.entries) (content_before g c)
    ∙ ap (λ more. g.A.Actor.after c.receive-answer.new.self.actor (messages (who g c) c.self.inside.journal.entries ++ more))
    (sym c.requires.carries)) in
    (agrees-acts _ _ _ c.handle-self-inside.new.cell_state (as_if g c).acts false _ kept.0, c.handle-self-inside.ensures.room, kept.2, left g c)

pub returns-clause-taken : goal.returns-clause-taken
returns-clause-taken g c =
    cell.taken-envelope c.self.inside.place c.self.inside.journal c.handle-self-inside.new.journal (entry g c) c.args.envelope (word_of c.args.reading)
    (unsent_acts c.self.inside.unsent c.self.inside.journal.entries ++ c.self.inside.cell_state.acts)
    (unsent_acts c.handle-self-inside.result c.handle-self-inside.new.journal.entries ++ c.handle-self-inside.new.cell_state.acts)
    c.args.self.now (refl, c.word.ensures.word) c.handle-self-inside.ensures.added c.self.view_is
    (ap (λ (j : JournalView). unsent_acts c.handle-self-inside.result j.entries ++ c.handle-self-inside.new.cell_state.acts) c.handle-self-inside.ensures.added
    ∙ ap (λ (b : CellState). b.acts) (row g c).booked ∙ sym (row g c).acted)

pub returns-clause-lawful : goal.returns-clause-lawful
returns-clause-lawful g c = (invariant_of-self g c).0.lawful
