-- The holder's load of its actor's status word is a step that the table allows, and finds the word that the claim knows.
use Rattle.std.proofs.Common.{
  ◌≡◌,
  ℕ,
  ◌+◌,
  ◌*◌,
  ◌/◌,
  ◌%◌,
  ◌==◌,
  ◌<◌,
  if◌then◌else◌,
  Bool,
  true,
  false,
  not,
  ◌&&◌,
  nat_le,
  IsTrue,
  List,
  set,
  sym,
  refl,
  ap,
  ◌∙◌,
  subst,
  arith,
}
use Rattle.std.proofs.lemmas.Bool.Decides.{nat_tests}
use Rattle.std.proofs.lemmas.Bool.{eqb-true}
use mathlib.Core.Option.{none, some}
use lib.ListN.{get_elem?}
use Rattle.atomic_table.specs.Table.{Me, step, Allows}
use Rattle.mb_status.specs.Mailbox.{Mailbox, mailbox_of, word_of, is_possible, most_suspensions}
use Rattle.mb_ghost.specs.Layout.{Spot, word_at}
use Rattle.mb_ghost.specs.Ruled.{Ruled, RuledStep, stays}
use Rattle.mb_ghost.proofs.RuledLemmas.{allows}
use Rattle.mb_gate.specs.HomeFacts.{HomeFacts}
use Rattle.mb_gate.specs.declared.slot.Slot.{Slot}
use Rattle.mb_gate.specs.View.{View, Read, reading_held}
use Rattle.mb_gate.specs.Rule.{Word, Status, word_offset, SlotName, slot_offset, Ghost, Fact}
use Rattle.mb_gate.specs.TableSteps.{ReadsHeld}
use Rattle.mb_gate.proofs.Views.{Elsewhere, counts_no_more}
use Rattle.mb_gate.proofs.Numbers.{among_more}
use Rattle.mb_gate.proofs.Facts.{views_change, elsewhere, load_here}
use Rattle.mb_gate.proofs.StatusSteps.{is_held}
use Rattle.mb_gate.proofs.Allowed.{words_few, slots_few}

-- ---- the mailbox of a possible mailbox's word is that one

open_again : (scheduled : Bool) (count : ℕ) → mailbox_of (word_of (record { closed = false; scheduled = scheduled; count = count }))
    ≡ record { closed = false; scheduled = scheduled; count = count }
open_again true count =
    let w = 4 * count + 2 in
    let a : (w == 1) ≡ false = grind (arith, nat_tests) in
    let odd : w / 2 % 2 ≡ 1 = omega arith in
    let b : (w / 2 % 2 == 1) ≡ true = ap (λ n. n == 1) odd in
    let c : w / 4 ≡ count = omega arith in
    λ i. record { closed = a i; scheduled = b i; count = c i }
open_again false count =
    let w = 4 * count + 0 in
    let a : (w == 1) ≡ false = grind (arith, nat_tests) in
    let even : w / 2 % 2 ≡ 0 = omega arith in
    let b : (w / 2 % 2 == 1) ≡ false = ap (λ n. n == 1) even in
    let c : w / 4 ≡ count = omega arith in
    λ i. record { closed = a i; scheduled = b i; count = c i }

pub mailbox_again : (m : Mailbox) → IsTrue (is_possible m) → mailbox_of (word_of m) ≡ m
mailbox_again m possible = cases m.closed m.scheduled m.count possible
  where
    closed_again : (count : ℕ) → IsTrue (count == 0) →
        mailbox_of (word_of (record { closed = true; scheduled = false; count = count })) ≡ record { closed = true; scheduled = false; count = count }
    closed_again count zero = λ i. record { closed = true; scheduled = false; count = sym (eqb-true count 0 zero) i }

    cases : (closed scheduled : Bool) (count : ℕ) → IsTrue (if closed then not scheduled && count == 0 else nat_le count most_suspensions) →
        mailbox_of (word_of (record { closed = closed; scheduled = scheduled; count = count })) ≡ record { closed = closed; scheduled = scheduled; count = count }
    cases true true count p = absurd (cc p)
    cases true false count p = closed_again count p
    cases false scheduled count p = open_again scheduled count

-- ---- the step

same_place : (a b : ℕ) → word_at a 16 ≡ word_at b 16 → a ≡ b
same_place a b e = omega arith

module _ {H : Type 0} (is_of : ℕ → H → Type 0) (facts : H → HomeFacts) (n : ℕ) where
  abbrev F : ℕ → Spot Word SlotName (Slot H) Ghost → List View → Type 0
  F = Fact is_of facts n

  abbrev M : Type 0
  M = Me (Slot H) View

  abbrev Place : Type 0
  Place = Spot Word SlotName (Slot H) Ghost

  -- to the others the view is as it was
  reading_held_elsewhere : (actor other word : ℕ) (v : View) → (other ≡ actor → ⊥) → Elsewhere H other v (reading_held actor word v)
  reading_held_elsewhere actor other word v apart = record {
    claim = refl;
    list = refl;
    obligation = refl;
    account = counts_no_more other (Read actor word) v (reading_held actor word v) refl (refl, refl, λ q. refl) refl refl refl (λ q. (refl, refl));
    vouches = λ a. among_more (Read a 1) (Read actor word) v.log;
    knows = λ x k. record { seen = ((λ e _. absurd (apart (sym e))), k.seen); sent_system = k.sent_system };
  }

  -- who has the claim reads the word
  pub reads_held : (actor id : ℕ) (me : M) (tell : M → Type 0) (x : Place) (vs : List View) → F actor x vs → get_elem? vs id ≡ some me.0 →
      tell (reading_held actor (x.row Status) me.0, me.1) → RuledStep word_offset slot_offset F actor id me Status (x.row Status) tell x vs
  reads_held actor id me tell x vs f at told = let v = me.0 in let r = x.row Status in let w = reading_held actor r v in record {
    view = w;
    slot_step = stays;
    kept = x.ghost;
    is_able = tt;
    holds = load_here is_of facts n actor x (set vs id w) Status
        (views_change is_of facts n actor x vs id v w at refl refl (counts_no_more actor (Read actor r) v w refl (refl, refl, λ q. refl) refl refl refl (λ q. (refl, refl)))
        (λ _ p. p) (λ _ p. p) (λ k. record { seen = ((λ _ one. one), k.seen); sent_system = k.sent_system })
        (λ b. among_more (Read b 1) (Read actor r) v.log) f);
    others = λ a apart y g. elsewhere is_of facts n a y vs id v w at (reading_held_elsewhere actor a r v apart) g;
    tells = told;
  }

  module _ (slots id : ℕ) (me : M) (actor i : ℕ) (inside : actor < n) where
    -- it finds the word that the claim knows
    told_held : (x : Place) (vs : List View) → F actor x vs → get_elem? vs id ≡ some me.0 →
        ReadsHeld (step slots (word_at actor 16) 0 0 none) me (x.row Status) (reading_held actor (x.row Status) me.0, me.1)
    told_held x vs f at a c where_is has of =
        let who : actor ≡ a = same_place actor a where_is in (
          (λ j. (reading_held (who j) (x.row Status) me.0, me.1)),
          (is_held is_of facts n actor id x vs me.0 c f at has (of ∙ sym who)).1.word,
        )

    pub reads_held_allowed : i ≡ word_at actor 16 →
        Allows (Ruled word_offset slot_offset n F) slots id me i (λ k. k) (ReadsHeld (step slots i 0 0 none) me)
    reads_held_allowed e =
        subst (λ j. Allows (Ruled word_offset slot_offset n F) slots id me j (λ k. k) (ReadsHeld (step slots j 0 0 none) me)) (sym e)
        (allows word_offset slot_offset words_few slots_few n F slots id me actor Status (λ k. k) (ReadsHeld (step slots (word_at actor 16) 0 0 none) me)
        inside
        (λ x vs f at fits. reads_held actor id me (ReadsHeld (step slots (word_at actor 16) 0 0 none) me (x.row Status)) x vs f at (told_held x vs f at)))
