-- A step at one place leaves the words and slots of the others as they are.
use Rattle.std.proofs.Common.{
  ◌≡◌,
  ◌≢◌,
  ℕ,
  zero,
  suc,
  ◌+◌,
  ◌*◌,
  ◌<◌,
  eqb,
  ◌==◌,
  List,
  [],
  ◌∷◌,
  length,
  get_or,
  set,
  sym,
  refl,
  ap,
  ◌∙◌,
  subst,
  eq-eqb,
  ne_eqb,
  arith,
  if◌then◌else◌,
  get_or-set_other,
  get_or-set_same,
}
use mathlib.Core.Logic.{dite}
use mathlib.Core.Option.{Option, none, some}
use native.Mathlib.Decide.{ℕ_discrete}
use lib.ListN.{get_elem?}
use Rattle.atomic_table.specs.Table.{State}
use Rattle.atomic_table.proofs.Lists.{set_here, set_else}
use Rattle.mb_ghost.specs.Layout.{word_at, slot_at, Spot, spot_of, write, fill, put}

module _ {G : Type 0} (ghosts : ℕ → G) (place : ℕ) (g : G) where
  pub put_here : put ghosts place g place ≡ g
  put_here = ap (λ b. if b then g else ghosts place) (eq-eqb place place refl)

  pub put_else : (a : ℕ) → a ≢ place → put ghosts place g a ≡ ghosts a
  put_else a n = ap (λ b. if b then g else ghosts a) (ne_eqb a place n)

-- the words of two places are different ones
pub words_apart : (a b i j : ℕ) → i < 32 → j < 32 → a ≢ b → word_at a i ≢ word_at b j
words_apart a b i j ri rj n e = n (omega arith)

pub slots_apart : (a b i j : ℕ) → i < 2 → j < 2 → a ≢ b → slot_at a i ≢ slot_at b j
slots_apart a b i j ri rj n e = n (omega arith)

pub word_inside : (a i n : ℕ) → i < 32 → a < n → word_at a i < 32 * n
word_inside a i n r l = omega arith

pub slot_inside : (a i n : ℕ) → i < 2 → a < n → slot_at a i < 2 * n
slot_inside a i n r l = omega arith

-- a word that was set, seen from its own place
pub set_word : (words : List ℕ) (a i j x : ℕ) → word_at a i < length words → get_or (set words (word_at a i) x) (word_at a j) 0 ≡ (if j == i then
    x else get_or words (word_at a j) 0)
set_word words a i j x l = dite (ℕ_discrete j i)
    (λ e. subst (λ z. get_or (set words (word_at a i) x) (word_at a z) 0 ≡ (if z == i then x else get_or words (word_at a z) 0)) (sym e)
    (get_or-set_same words (word_at a i) x 0 l ∙ sym (ap (λ b. if b then x else get_or words (word_at a i) 0) (eq-eqb i i refl))))
    (λ n. let other : word_at a j ≢ word_at a i = (λ e. n (omega arith)) in get_or-set_other words (word_at a i) (word_at a j) x 0 other ∙ sym
    (ap (λ b. if b then x else get_or words (word_at a j) 0) (ne_eqb j i n)))

-- a slot that was set, seen from its own place
pub set_slot : {A : Type 0} (homes : List A) (a i j : ℕ) (x : A) → slot_at a i < length homes → get_elem? (set homes (slot_at a i) x) (slot_at a
    j) ≡ (if j == i then some x else get_elem? homes (slot_at a j))
set_slot homes a i j x l = dite (ℕ_discrete j i)
    (λ e. subst (λ z. get_elem? (set homes (slot_at a i) x) (slot_at a z) ≡ (if z == i then some x else get_elem? homes (slot_at a z))) (sym e)
    (set_here homes (slot_at a i) x l ∙ sym (ap (λ b. if b then some x else get_elem? homes (slot_at a i)) (eq-eqb i i refl))))
    (λ n. let other : slot_at a j ≢ slot_at a i = (λ e. n (omega arith)) in set_else homes (slot_at a i) (slot_at a j) x other ∙ sym (ap (λ b. if
    b then some x else get_elem? homes (slot_at a j)) (ne_eqb j i n)))

module _ {W P S G : Type 0} where
  -- where the places of two states agree, they are the same
  pub same_spot : (x y : Spot W P S G) → x.row ≡ y.row → x.slot ≡ y.slot → x.ghost ≡ y.ghost → x ≡ y
  same_spot x y r p g i = record { row = r i; slot = p i; ghost = g i }
