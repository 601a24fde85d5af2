-- A list that was taken and given back, and the words of its gate.
use Rattle.std.proofs.Common.{get_or, subst, MatchBool, ◌≡◌, ◌≢◌, ℕ, ◌+◌, ◌%◌, ◌==◌, if◌then◌else◌, Bool, true, false, not, ◌||◌, IsTrue, Option, Some, is_some, List, [], ◌∷◌, ◌++◌, sym, refl, ap, ◌∙◌, eq-eqb, ne_eqb, arith}
use mathlib.Core.Logic.{dite}
use native.Mathlib.Decide.{ℕ_discrete}
use Rattle.std.proofs.lemmas.Bool.Decides.{nat_tests}
use Rattle.atomic_table.specs.Table.{Me, rest}
use Rattle.mb_msg.specs.declared.system.SysMsg.{SysMsg}
use Rattle.mb_syslist.specs.MessageList.{MessageList, with_last, drained, ended, listed, numbered}
use Rattle.mb_ghost.specs.Layout.{slot_at}
use Rattle.mb_gate.specs.declared.slot.Slot.{Slot}
use Rattle.mb_gate.specs.declared.slot.Slot.TheVariants.{List as Listing}
use Rattle.mb_gate.specs.View.{View, Held, lending}
use Rattle.mb_gate.specs.Rule.{is_some_item, held_of, claim_for, gate_word}
use Rattle.mb_gate.specs.TableSteps.{ListLocked}
use Rattle.mb_gate.proofs.Views.{held_here}
use Rattle.mb_gate.specs.Lists.{may_lock_list, IsOut}
use Rattle.mb_gate.specs.ListWord.{is_locked, is_ended, with_listed, with_drained, with_ended}

list_same : {H : Type 0} (a b : MessageList) → (let x : Slot H = Listing a in x ≡ Listing b) → a ≡ b
list_same a b e = cc

pub choose : {A : Type 0} (found word : ℕ) (now hit miss : A) → (found ≡ word → now ≡ hit) → (found ≢ word → now ≡ miss) → now ≡ (if found ==
    word then hit else miss)
choose found word now hit miss won lost = dite (ℕ_discrete found word)
    (λ e. won e ∙ sym (ap (λ b. if b then hit else miss) (eq-eqb found word e)))
    (λ n. lost n ∙ sym (ap (λ b. if b then hit else miss) (ne_eqb found word n)))

more_items : (l : List SysMsg) (m : SysMsg) → is_some_item (l ++ m ∷ []) ≡ true
more_items [] m = refl
more_items (x ∷ xs) m = refl

listed_bits : (a b c : Bool) → with_listed ((if a then 2 else 0) + (if b then 4 else 0) + (if c then 8 else 0)) ≡ 2 + (if b then 4 else 0) + (if
    c then 8 else 0)
listed_bits true true true = refl
listed_bits true true false = refl
listed_bits true false true = refl
listed_bits true false false = refl
listed_bits false true true = refl
listed_bits false true false = refl
listed_bits false false true = refl
listed_bits false false false = refl

-- the gate's word once a message more is listed
pub word_listed : (word : ℕ) (l : MessageList) (gave : Bool) (m : SysMsg) → word ≡ gate_word false l gave → with_listed word ≡ gate_word false
    (with_last l m) gave
word_listed word l gave m e =
    ap with_listed (e ∙ zeros (is_some_item l.messages) gave l.closed) ∙ (listed_bits (is_some_item l.messages) gave l.closed
    ∙ sym (ap (λ b. 0 + (if b then 2 else 0) + (if gave then 4 else 0) + (if l.closed then 8 else 0)) (more_items l.messages m)))
  where
    zeros : (a b c : Bool) → 0 + (if a then 2 else 0) + (if b then 4 else 0) + (if c then 8 else 0) ≡ (if a then 2 else 0) + (if b then 4 else 0)
        + (if c then 8 else 0)
    zeros a b c = omega arith

drained_bits : (a b c d : Bool) → with_drained (0 + (if a then 2 else 0) + (if b then 4 else 0) + (if c then 8 else 0)) (not d) ≡ 0 + 0 + (if d
    then 4 else 0) + (if c then 8 else 0)
drained_bits true true true true = refl
drained_bits true true true false = refl
drained_bits true true false true = refl
drained_bits true true false false = refl
drained_bits true false true true = refl
drained_bits true false true false = refl
drained_bits true false false true = refl
drained_bits true false false false = refl
drained_bits false true true true = refl
drained_bits false true true false = refl
drained_bits false true false true = refl
drained_bits false true false false = refl
drained_bits false false true true = refl
drained_bits false false true false = refl
drained_bits false false false true = refl
drained_bits false false false false = refl

-- once all was drained
pub word_drained : (word : ℕ) (l : MessageList) (gave d : Bool) → word ≡ gate_word false l gave → with_drained word (not d) ≡ gate_word false
    (drained l) d
word_drained word l gave d e = ap (λ w. with_drained w (not d)) e ∙ drained_bits (is_some_item l.messages) gave l.closed d

ended_bits : (a b c : Bool) → with_ended (0 + (if a then 2 else 0) + (if b then 4 else 0) + (if c then 8 else 0)) ≡ 0 + 0 + (if b then 4 else 0) + 8
ended_bits true true true = refl
ended_bits true true false = refl
ended_bits true false true = refl
ended_bits true false false = refl
ended_bits false true true = refl
ended_bits false true false = refl
ended_bits false false true = refl
ended_bits false false false = refl

-- once it was ended
pub word_ended : (word : ℕ) (l : MessageList) (gave : Bool) → word ≡ gate_word false l gave → with_ended word ≡ gate_word false (ended l) gave
word_ended word l gave e = ap with_ended e ∙ ended_bits (is_some_item l.messages) gave l.closed

ended_bit : (a b c : Bool) → is_ended (0 + (if a then 2 else 0) + (if b then 4 else 0) + (if c then 8 else 0)) ≡ c
ended_bit true true true = refl
ended_bit true true false = refl
ended_bit true false true = refl
ended_bit true false false = refl
ended_bit false true true = refl
ended_bit false true false = refl
ended_bit false false true = refl
ended_bit false false false = refl

-- a word that does not show it is one of a list that is not ended
pub is_not_ended : (word : ℕ) (l : MessageList) (gave : Bool) → word ≡ gate_word false l gave → is_ended word ≡ false → l.closed ≡ false
is_not_ended word l gave e n = sym (ended_bit (is_some_item l.messages) gave l.closed) ∙ (ap is_ended (sym e) ∙ n)

-- the word of a gate that is not locked is even
pub is_even : (word : ℕ) → is_locked word ≡ false → word % 2 ≡ 0
is_even word free = grind (arith, nat_tests)

-- what is listed is numbered message by message
pub some_listed : (l : MessageList) → is_some_item (listed l) ≡ is_some_item l.messages
some_listed l = items l.given l.messages
  where
    items : (n : ℕ) (ms : List SysMsg) → is_some_item (numbered n ms) ≡ is_some_item ms
    items n [] = refl
    items n (m ∷ ms) = refl

-- a list that was locked is out, in its slot
pub locked_out : {H : Type 0} (actor word : ℕ) (m m' : Me (Slot H) View) → ListLocked actor word m m' → IsOut actor word m'
locked_out actor word m m' locked = record {
  listed = locked.listed;
  gave = locked.gave;
  found = locked.word;
  has = ap (λ (z : Me (Slot _) View). z.0.list) locked.now;
  carried = ap (λ (z : Me (Slot _) View). z.1) locked.now ∙ ap (λ c. (slot_at actor 1, Listing locked.listed) ∷ rest c) (sym (ap (λ (z : Me (Slot _) View). z.1)
      locked.now));
}

-- the same of a list that is not ended
pub open_out : {H : Type 0} (actor word : ℕ) (m m' : Me (Slot H) View) (locked : ListLocked actor word m m') → locked.listed.closed ≡ false
    → (out : IsOut actor word m') × (out.listed.closed ≡ false)
unfolding locked_out
open_out actor word m m' locked is_open = (locked_out actor word m m' locked, is_open)

-- what an exchange answers that compares: whether it won
pub won_or_lost : (found word : ℕ) (won lost : Type 0) → (found ≡ word → won) → (found ≢ word → lost) → MatchBool (found == word) won lost
won_or_lost found word won lost hit miss = dite (ℕ_discrete found word)
    (λ e. subst (λ b. MatchBool b won lost) (sym (eq-eqb found word e)) (hit e))
    (λ n. subst (λ b. MatchBool b won lost) (sym (ne_eqb found word n)) (miss n))

pub when_true : (won lost : Type 0) (b : Bool) → b ≡ true → MatchBool b won lost → won
when_true won lost b e h = subst (λ b. MatchBool b won lost) e h

pub when_false : (won lost : Type 0) (b : Bool) → b ≡ false → MatchBool b won lost → lost
when_false won lost b e h = subst (λ b. MatchBool b won lost) e h

-- the list that was found in the slot is the one that was taken
pub list_taken : {H : Type 0} (actor k : ℕ) (l list : MessageList) (s : Slot H) (m : Me (Slot H) View) → m.1 ≡ (slot_at actor 1, Listing l) ∷ rest m.1
    → m.1 ≡ (k, s) ∷ rest m.1 → s ≡ Listing list → list ≡ l
list_taken {H} actor k l list s m has now is =
    list_same {H = H} list l (sym is ∙ ap (λ (c : List (ℕ × Slot H)). (get_or c 0 (0, s)).1) (sym now ∙ has))

pub empty_is : {A : Type 0} (b : Bool) (xs : List A) → (IsTrue b → xs ≡ []) × (xs ≡ [] → IsTrue b) → b ≡ not (is_some_item xs)
empty_is true [] h = refl
empty_is true (x ∷ xs) h = let no = h.0 refl in absurd (cc)
empty_is false [] h = let no = h.1 refl in absurd (cc)
empty_is false (x ∷ xs) h = refl

-- a seat with a share may take a list out, and one with the claim may
pub sharer_may : (actor : ℕ) (v : View) → is_some_item v.share ≡ true → may_lock_list actor v ≡ true
sharer_may actor v has = ap (λ b. b || is_some (claim_for actor v)) has

pub holder_may : (actor : ℕ) (v : View) (c : Held) → v.claim ≡ Some c → c.actor ≡ actor → may_lock_list actor v ≡ true
holder_may actor v c has of = ap (λ (z : Option Held). is_some_item v.share || is_some z) (ap (held_of actor) has ∙ held_here actor c of) ∙ or_true
    (is_some_item v.share)
  where
    or_true : (b : Bool) → (b || true) ≡ true
    or_true true = refl
    or_true false = refl
