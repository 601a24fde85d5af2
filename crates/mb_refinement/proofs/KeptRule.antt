-- A step of one seat at one actor keeps the rule of the gates' table.
use Rattle.std.proofs.Common.{◌≡◌, ℕ, suc, ◌<◌, List, ◌∷◌, length, set, sym, refl, ap, ◌∙◌, subst, arith, length-set}
use mathlib.Core.Option as maybe
use mathlib.Core.Option.{none, some}
use Rattle.atomic_table.specs.Table.{State, Me, Act, keeps, takes, gives, carried_after, homes_after, put_back, stepped, rest as tail_of}
use Rattle.atomic_table.proofs.Lists.{set_else}
use Rattle.mb_ghost.specs.Layout.{word_at, slot_at, Spot, spot_of, fill}
use Rattle.mb_ghost.specs.Ruled.{SlotStep, stays, takes_from, gives_to, act_of, IsAble, slot_after, RuledStep}
use Rattle.mb_ghost.proofs.RuledLemmas.{Homes, changes}
use Rattle.mb_ghost.proofs.LayoutLemmas.{slots_apart, slot_inside, set_slot}
use Rattle.mb_gate.specs.HomeFacts.{HomeFacts}
use Rattle.mb_gate.specs.declared.slot.Slot.{Slot}
use Rattle.mb_gate.specs.View.{View}
use Rattle.mb_gate.specs.Rule.{Word, word_offset, SlotName, slot_offset, Ghost, Fact}
use Rattle.mb_gate.proofs.Allowed.{words_few, slots_few}
use Rattle.mb_refinement.specs.Refines.{Rule}

-- ---- what the seat carries then says what it did

longer : {A : Type 0} (x : A) (xs : List A) → x ∷ xs ≡ xs → ⊥
longer x xs e = let more : suc (length xs) ≡ length xs = ap length e in omega arith

longer_by_two : {A : Type 0} (x y : A) (xs : List A) → x ∷ y ∷ xs ≡ xs → ⊥
longer_by_two x y xs e = let more : suc (suc (length xs)) ≡ length xs = ap length e in omega arith

head_same : {A : Type 0} (a b : A) (xs ys : List A) → a ∷ xs ≡ b ∷ ys → a ≡ b
head_same a b xs ys e = cc

module _ {S : Type 0} (actor : ℕ) (slot : SlotName → maybe.Option (maybe.Option S)) (carried : List (ℕ × S)) where
  -- the tail of what is carried is shorter than it
  shorter : (item : ℕ × S) (more : List (ℕ × S)) → carried ≡ item ∷ more → tail_of carried ≡ carried → ⊥
  shorter item more is e = longer item more (sym is ∙ (sym e ∙ ap tail_of is))

  shorter_by_two : (item x : ℕ × S) (more : List (ℕ × S)) → carried ≡ item ∷ more → tail_of carried ≡ x ∷ carried → ⊥
  shorter_by_two item x more is e = longer_by_two x item more (sym (e ∙ ap (λ c. x ∷ c) is) ∙ ap tail_of is)

  keeps_it : (d : SlotStep SlotName S) → IsAble slot_offset actor slot carried d → carried_after carried (act_of slot_offset actor d) ≡ carried → act_of slot_offset
      actor d ≡ keeps
  keeps_it stays able e = refl
  keeps_it (takes_from p x) able e = absurd (longer (slot_at actor (slot_offset p), x) carried e)
  keeps_it (gives_to p x) able e = absurd (shorter (slot_at actor (slot_offset p), x) able.0 able.1 e)

  takes_it : (item : ℕ × S) (d : SlotStep SlotName S) → IsAble slot_offset actor slot carried d → carried_after carried (act_of slot_offset actor d) ≡ item ∷ carried
      → act_of slot_offset actor d ≡ takes item.0 item.1
  takes_it item stays able e = absurd (longer item carried (sym e))
  takes_it item (takes_from p x) able e = let same = head_same (slot_at actor (slot_offset p), x) item carried carried e in λ i. takes (same i).0 (same i).1
  takes_it item (gives_to p x) able e = absurd (shorter_by_two (slot_at actor (slot_offset p), x) item able.0 able.1 e)

  gives_it : (item : ℕ × S) (more : List (ℕ × S)) → carried ≡ item ∷ more → (d : SlotStep SlotName S) → IsAble slot_offset actor slot carried d → carried_after
      carried (act_of slot_offset actor d) ≡ tail_of carried → act_of slot_offset actor d ≡ gives
  gives_it item more is stays able e = absurd (shorter item more is (sym e))
  gives_it item more is (takes_from p x) able e = absurd (shorter_by_two item (slot_at actor (slot_offset p), x) more is (sym e))
  gives_it item more is (gives_to p x) able e = refl

module _ {H : Type 0} (is_of : ℕ → H → Type 0) (facts : H → HomeFacts) (n : ℕ) (s : State (Slot H) View) (r : Rule is_of facts n s) (actor : ℕ) (inside :
    actor < n) where
  abbrev Place : Spot Word SlotName (Slot H) Ghost
  Place = spot_of word_offset slot_offset s r.ghosts actor

  abbrev AreHomes : List (maybe.Option (Slot H)) → (SlotName → maybe.Option (maybe.Option (Slot H))) → Type 0
  AreHomes homes slot = Homes word_offset slot_offset words_few slots_few n (Fact is_of facts n) s.homes homes actor slot

  homes_set : (p : SlotName) (thing : maybe.Option (Slot H)) → AreHomes (set s.homes (slot_at actor (slot_offset p)) thing) (fill slot_offset Place.slot p thing)
  homes_set p thing = record {
    long = length-set s.homes (slot_at actor (slot_offset p)) thing;
    mine = λ q. set_slot s.homes actor (slot_offset p) (slot_offset q) thing (let l = slot_inside actor (slot_offset p) n (slots_few p) inside in let c =
        r.slot_count in omega arith);
    others = λ a q apart. set_else s.homes (slot_at actor (slot_offset p)) (slot_at a (slot_offset q)) thing (slots_apart a actor (slot_offset q) (slot_offset p)
        (slots_few q) (slots_few p) apart);
  }

  homes_done : (carried : List (ℕ × Slot H)) (d : SlotStep SlotName (Slot H)) → IsAble slot_offset actor Place.slot carried d → AreHomes (homes_after s.homes carried
      (act_of slot_offset actor d)) (slot_after slot_offset Place.slot d)
  homes_done carried stays able = record { long = refl; mine = λ q. refl; others = λ a q apart. refl }
  homes_done carried (takes_from p thing) able = homes_set p none
  homes_done carried (gives_to p thing) able = subst (λ c. AreHomes (put_back s.homes c) (fill slot_offset Place.slot p (some thing))) (sym able.1) (homes_set p (some
      thing))

  module _ (name : Word) (new id : ℕ) (me : Me (Slot H) View) (view : View) where
    -- the step keeps the rule at its actor, leaves the others, and ends so
    abbrev pub StepsTo : List (ℕ × Slot H) → Type 0
    StepsTo carried = RuledStep word_offset slot_offset (Fact is_of facts n) actor id me name new (λ m. m ≡ (view, carried)) Place s.views

    step_keeps : (act : Act (Slot H)) → (g : StepsTo (carried_after me.1 act)) → act_of slot_offset actor g.slot_step ≡ act → (s' : State (Slot H) View)
        → s' ≡ stepped s (word_at actor (word_offset name)) new id me.1 view act → Rule is_of facts n s'
    step_keeps act g acts s' after = subst (Rule is_of facts n) (λ i. sym after i)
        (subst (λ (z : View × Act (Slot H)). Rule is_of facts n (stepped s (word_at actor (word_offset name)) new id me.1 z.0 z.1)) (λ i. ((g.tells i).0, acts i))
        (changes word_offset slot_offset words_few slots_few n (Fact is_of facts n) s r actor inside name new g.kept (homes_after s.homes me.1 (act_of slot_offset
        actor g.slot_step)) (slot_after slot_offset Place.slot g.slot_step) (set s.views id g.view) (homes_done me.1 g.slot_step g.is_able) g.holds g.others))

    -- a step that leaves the slots
    pub load_keeps : StepsTo me.1 → (s' : State (Slot H) View) → s' ≡ stepped s (word_at actor (word_offset name)) new id me.1 view keeps → Rule is_of facts n s'
    load_keeps g = step_keeps keeps g (keeps_it actor Place.slot me.1 g.slot_step g.is_able (ap (λ m. m.1) g.tells))

    -- a step that takes this out of a slot
    pub take_keeps : (item : ℕ × Slot H) → StepsTo (item ∷ me.1) → (s' : State (Slot H) View) → s' ≡ stepped s (word_at actor (word_offset name)) new id me.1 view
        (takes item.0 item.1) → Rule is_of facts n s'
    take_keeps item g = step_keeps (takes item.0 item.1) g (takes_it actor Place.slot me.1 item g.slot_step g.is_able (ap (λ m. m.1) g.tells))

    -- a step that puts back what is carried first
    pub give_keeps : (item : ℕ × Slot H) (more : List (ℕ × Slot H)) → me.1 ≡ item ∷ more → StepsTo (tail_of me.1) → (s' : State (Slot H) View)
        → s' ≡ stepped s (word_at actor (word_offset name)) new id me.1 view gives → Rule is_of facts n s'
    give_keeps item more is g = step_keeps gives g (gives_it actor Place.slot me.1 item more is g.slot_step g.is_able (ap (λ m. m.1) g.tells))
