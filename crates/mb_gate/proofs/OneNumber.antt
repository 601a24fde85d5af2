-- A number names one message.
use Rattle.std.proofs.Common.{◌≡◌, ◌⊎◌, inl, inr, ⊎_elim, ℕ, zero, suc, ◌+◌, ◌%◌, ◌^◌, ◌<◌, ◌≤◌, List, [], ◌∷◌, ◌++◌, length, sym}
use Rattle.std.proofs.Common.{ap, ◌∙◌, subst, arith}
use mathlib.Core.Option.{some, some-ne-none, some-injective}
use lib.ListN.{get_elem?}
use Rattle.mb_msg.specs.declared.system.SysMsg.{SysMsg}
use Rattle.mb_syslist.specs.MessageList.{numbered}
use Rattle.mb_gate.specs.Rule.{IsAmong, IsPart}
use Rattle.mb_gate.proofs.Numbers.{among_first, among_more, among_left, among_right}

module _ {A : Type 0} where
  same_head : (a b : A) (xs ys : List A) → a ∷ xs ≡ b ∷ ys → a ≡ b
  same_head a b xs ys e = cc

  same_tail : (a b : A) (xs ys : List A) → a ∷ xs ≡ b ∷ ys → xs ≡ ys
  same_tail a b xs ys e = cc

  pub among_none : (x : A) → IsAmong x [] → ⊥
  among_none x is = cases is.before is.joined
    where
      cases : (before : List A) → [] ≡ before ++ x ∷ is.after → ⊥
      cases [] e = cc
      cases (b ∷ bs) e = cc

  -- what stands in a list is its first or stands in the rest
  pub first_or_rest : (x y : A) (l : List A) → IsAmong x (y ∷ l) → (y ≡ x) ⊎ IsAmong x l
  first_or_rest x y l is = cases is.before is.joined
    where
      cases : (before : List A) → y ∷ l ≡ before ++ x ∷ is.after → (y ≡ x) ⊎ IsAmong x l
      cases [] e = inl (same_head y x l is.after e)
      cases (b ∷ bs) e = inr (record { before = bs; after = is.after; joined = same_tail y b l (bs ++ x ∷ is.after) e })

  pub among_either : (x : A) (a b : List A) → IsAmong x (a ++ b) → IsAmong x a ⊎ IsAmong x b
  among_either x [] b is = inr is
  among_either x (y ∷ ys) b is = ⊎_elim (λ e. inl (subst (λ z. IsAmong z (y ∷ ys)) e (among_first y ys)))
      (λ rest. ⊎_elim (λ l. inl (among_more x y ys l)) (λ r. inr r) (among_either x ys b rest)) (first_or_rest x y (ys ++ b) is)

  pub among_part : (x : A) (part items : List A) → IsPart part items → IsAmong x part → IsAmong x items
  among_part x part items p is = subst (IsAmong x) (sym p.joined) (among_right x p.before (part ++ p.after) (among_left x part p.after is))

place_below : (ms : List SysMsg) (i : ℕ) (m : SysMsg) → get_elem? ms i ≡ some m → i < length ms
place_below [] i m at = absurd (some-ne-none m (sym at))
place_below (x ∷ xs) zero m at = omega arith
place_below (x ∷ xs) (suc i) m at = let rest = place_below xs i m at in omega arith

-- a message with a number stands at the place that the number says
record Placed (k : ℕ) (ms : List SysMsg) (n : ℕ) (m : SysMsg) : Type 0 where
  place : ℕ
  number : n ≡ k + place
  present : get_elem? ms place ≡ some m

placed : (k : ℕ) (ms : List SysMsg) (n : ℕ) (m : SysMsg) → k + length ms ≤ 2 ^ 64 → IsAmong (n, m) (numbered k ms) → Placed k ms n m
placed k [] n m fits is = absurd (among_none (n, m) is)
placed k (x ∷ xs) n m fits is = ⊎_elim
    (λ e. record { place = 0; number = sym (ap (λ (z : ℕ × SysMsg). z.0) e) ∙ plus_none k; present = ap (λ (z : ℕ × SysMsg). some z.1) e })
    (λ rest. let p = placed ((k + 1) % 2 ^ 64) xs n m (fits_on k (length xs) fits) rest in record {
      place = suc p.place;
      number = p.number ∙ next k (length xs) p.place fits (place_below xs p.place m p.present);
      present = p.present;
    })
    (first_or_rest (n, m) (k, x) (numbered ((k + 1) % 2 ^ 64) xs) is)
  where
    plus_none : (k : ℕ) → k ≡ k + 0
    plus_none k = omega arith

    fits_on : (k l : ℕ) → k + suc l ≤ 2 ^ 64 → (k + 1) % 2 ^ 64 + l ≤ 2 ^ 64
    fits_on k l fits = omega arith

    next : (k l i : ℕ) → k + suc l ≤ 2 ^ 64 → i < l → (k + 1) % 2 ^ 64 + i ≡ k + suc i
    next k l i fits below = omega arith

pub one_message : (ms : List SysMsg) (n : ℕ) (a b : SysMsg) → length ms ≤ 2 ^ 64 → IsAmong (n, a) (numbered 0 ms) → IsAmong (n, b) (numbered 0 ms) →
    a ≡ b
one_message ms n a b fits first second =
    let p = placed 0 ms n a (begins (length ms) fits) first in
    let q = placed 0 ms n b (begins (length ms) fits) second in
    some-injective a b (sym p.present ∙ (ap (get_elem? ms) (same p.place q.place (sym p.number ∙ q.number)) ∙ q.present))
  where
    begins : (l : ℕ) → l ≤ 2 ^ 64 → 0 + l ≤ 2 ^ 64
    begins l fits = omega arith

    same : (i j : ℕ) → 0 + i ≡ 0 + j → i ≡ j
    same i j e = omega arith
