use Rattle.std.proofs.Common.{◌≡◌, ℕ, [], true, false, refl, ap, sym, ◌∙◌, subst, arith, rules}
use Rattle.std.specs.Prelude.{Option, Some, None, is_some, is_none, IfSome}
use Rattle.mb_actor.specs.Behaviour.{AllowsSame}
use Rattle.mb_actor.specs.RecordedActor.{RecordedActor}
use Rattle.mb_supervision.specs.CellStateRecord.{CellState}
use Rattle.mb_cell.specs.NewActor.{IsNewActor}
use Rattle.mb_cell.proofs.NewLaw.{first_cell_state, agrees-new, plays-new}
use Rattle.mb_cell.proofs.UnsentLaws.{is-unsent-none}
use Rattle.mb_cell.proofs.cell.Cell.new.Given as given
use Rattle.mb_cell.proofs.cell.Cell.new.Goals as goal

no_parent : {A P : Type 0} (o : Option A) (p : Option P) → ((a : A) → o ≡ Some a → ⊥) → is_some o ≡ is_some p → is_none p ≡ true
no_parent None None other same = refl
no_parent None (Some p) other same = cc
no_parent (Some a) p other same = absurd (other a refl)

a_parent : {A P : Type 0} (o : Option A) (a : A) (p : Option P) → o ≡ Some a → is_some o ≡ is_some p → is_none p ≡ false
a_parent o a None is same = let both : true ≡ false = ap is_some (sym is) ∙ same in cc
a_parent o a (Some p) is same = refl

of_it : {A : Type 0} (o : Option A) (a : A) (P : A → Type 0) → o ≡ Some a → IfSome o P → P a
of_it o a P is all = subst (λ x. IfSome x P) is all

first : (f : ℕ) (b : CellState) → b ≡ first_cell_state f → b ≡ first_cell_state b.fanout
first f b is = is ∙ (λ i. first_cell_state (ap (λ (x : CellState). x.fanout) (sym is) i))

pub invariant_of-result : goal.invariant_of-result
invariant_of-result g c = (
  agrees-new
      (record { this = c.args.this; parent = c.args.parent; actors = c.args.actors; prepared = c.args.prepared; strategy = c.args.strategy })
      c.in_ok-journal.journal c.args.journal_limit _ _ c.new-cell_state.result c.new-outbox.result c.in_ok-journal.ensures.made
      (first _ _ c.new-cell_state.ensures) (let same = ap (λ (b : CellState). b.fanout) c.new-cell_state.ensures in omega arith) c.new-outbox.ensures
      c.requires.within_journal c.requires.within_limit,
  (λ ready. let no : c.in_ok-journal.journal.is_ready ≡ false = ap (λ j. j.is_ready) c.in_ok-journal.ensures.made in cc),
  no_parent c.args.actor c.args.parent c.in_default.not-Some c.requires.guardian,
  is-unsent-none 0 _ refl,
)

pub returns-in_default-clause-lawful : goal.returns-in_default-clause-lawful
returns-in_default-clause-lawful g c = (invariant_of-result g c).0.lawful

-- the actor as it was handed in, of which no call was made
handed : (g : given.Over) (c : goal.After-new-2 g) → c.new-2.result.actor ≡ c.in-Some.actor
handed g c = ap (λ (a : RecordedActor (g.row.A.Denot)). a.actor) c.new-2.ensures

is_new : (g : given.Over) (c : goal.After-new-2 g) →
    IsNewActor g.A.Actor.content g.A.Actor.after g.A.Actor.gives (g.K.Behaviours.after c.args.this.0) (g.K.Behaviours.gives c.args.this.0) c.in-Some.actor
is_new g c =
    of_it c.args.actor c.in-Some.actor
    (IsNewActor g.A.Actor.content g.A.Actor.after g.A.Actor.gives (g.K.Behaviours.after c.args.this.0) (g.K.Behaviours.gives c.args.this.0)) c.in-Some.is
    c.requires.new_actor

pub invariant_of-result-2 : goal.invariant_of-result-2
invariant_of-result-2 g c = (
  agrees-new
      (record { this = c.args.this; parent = c.args.parent; actors = c.args.actors; prepared = c.args.prepared; strategy = c.args.strategy })
      c.in_ok-journal.journal c.args.journal_limit _ _ c.new-cell_state.result c.new-outbox.result c.in_ok-journal.ensures.made
      (first _ _ c.new-cell_state.ensures) (let same = ap (λ (b : CellState). b.fanout) c.new-cell_state.ensures in omega arith) c.new-outbox.ensures
      c.requires.within_journal c.requires.within_limit,
  (λ ready. let no : c.in_ok-journal.journal.is_ready ≡ false = ap (λ j. j.is_ready) c.in_ok-journal.ensures.made in cc),
  plays-new
      (record { this = c.args.this; parent = c.args.parent; actors = c.args.actors; prepared = c.args.prepared; strategy = c.args.strategy })
      c.in_ok-journal.journal c.args.journal_limit _ _ _ _ _ _ _ c.in_ok-journal.ensures.made
      (a_parent c.args.actor c.in-Some.actor c.args.parent c.in-Some.is c.requires.guardian)
      (ap g.A.Actor.after (handed g c) ∙ (is_new g c).behaves)
      (subst (λ a. AllowsSame (g.A.Actor.gives a) (g.K.Behaviours.gives c.args.this.0)) (sym (handed g c)) (is_new g c).allows)
      (subst (λ a. g.A.Actor.content a ≡ g.A.Actor.after a []) (sym (handed g c)) (is_new g c).unused)
      (ap (λ (a : RecordedActor (g.row.A.Denot)). a.calls) c.new-2.ensures),
  is-unsent-none 0 _ refl,
)

pub returns-clause-lawful : goal.returns-clause-lawful
returns-clause-lawful g c = (invariant_of-result-2 g c).0.lawful

pub returns-clause-fresh : goal.returns-clause-fresh
returns-clause-fresh g c = search rules
