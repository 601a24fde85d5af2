-- What is in the slots, as one envelope comes or goes.
use Rattle.std.proofs.Common.{◌≡◌, ◌≢◌, suc, true, false, List, [], ◌∷◌, Option, Some, None, get_or, sym, ap, ◌∙◌, arith}
use Rattle.std.specs.List.{All, AllByRecursion, IsDistinct}
use Rattle.std.specs.List.Sorted.{IsPermutation}
use Rattle.std.specs.declared.cmp.Reverse.{Reverse}
use Rattle.std.proofs.lemmas.Bool.Decides.{Decides-eqb, nat_tests}
use Rattle.std.proofs.lemmas.List.Elements.{All-cons, All-head, All-tail}
use Rattle.std.proofs.lemmas.List.Sorted.{All-permutation}
use Rattle.std.proofs.lemmas.Map.Keys.{apart_from_distinct, IsDistinct-cons, IsDistinct-IsPermutation, IsDistinct-tail}
use Rattle.slab.specs.Slab.{Slab, Updates, get}
use Rattle.mb_msg.specs.declared.envelope.Envelope.{Envelope}
use Rattle.mb_queue.specs.declared.rank_key.RankKey.{RankKey}
use Rattle.mb_queue.specs.WaitingHeap.{LiesIn, same_slot}

either_way : (x y : Reverse RankKey) → same_slot x y ≡ same_slot y x
either_way x y = grind (arith, nat_tests)

-- none of these keys has the slot of this one
abbrev Elsewhere : Reverse RankKey → List (Reverse RankKey) → Type 0
Elsewhere x = All (λ (y : Reverse RankKey). y.0.slot ≢ x.0.slot)

differ : (x : Reverse RankKey) (keys : List (Reverse RankKey)) → Elsewhere x keys → AllByRecursion (λ y. same_slot x y ≡ false) keys
differ x [] elsewhere = tt
differ x (y ∷ ys) elsewhere =
    let ne = All-head (λ (z : Reverse RankKey). z.0.slot ≢ x.0.slot) y ys elsewhere in
    (grind (arith, nat_tests), differ x ys (All-tail (λ (z : Reverse RankKey). z.0.slot ≢ x.0.slot) y ys elsewhere))

module _ (old new : Slab Envelope) (x : Reverse RankKey) (keys : List (Reverse RankKey)) where
  stay : (slot : Option Envelope) → Updates old new x.0.slot slot → Elsewhere x keys → All (LiesIn old) keys → All (LiesIn new) keys
  stay slot updates elsewhere lie = λ k d few. updates.others (get_or keys k d).0.slot (elsewhere k d few) ∙ lie k d few

  vacant_elsewhere : get old x.0.slot ≡ None → All (LiesIn old) keys → Elsewhere x keys
  vacant_elsewhere vacant lie = λ k d few same. (let no = sym (ap (get old) same ∙ vacant) ∙ lie k d few in cc)

  distinct_elsewhere : IsDistinct same_slot (x ∷ keys) → Elsewhere x keys
  distinct_elsewhere distinct = λ k d few same.
      (let no = apart_from_distinct same_slot (x ∷ keys) 0 (suc k) d distinct (omega arith) (omega (arith, few)) in
      let f : false ≡ true = sym no ∙ (Decides-eqb x.0.slot (get_or keys k d).0.slot).1 (sym same) in cc)

  -- one comes, into a slot that was vacant
  pub comes : (keys' : List (Reverse RankKey)) → get old x.0.slot ≡ None → Updates old new x.0.slot (Some x.0.envelope.value)
      → IsPermutation (x ∷ keys) keys' → All (LiesIn old) keys → All (LiesIn new) keys'
  comes keys' vacant updates same lie = All-permutation (LiesIn new) (x ∷ keys) keys' same
      (All-cons (LiesIn new) x keys updates.changed (stay (Some x.0.envelope.value) updates (vacant_elsewhere vacant lie) lie))

  pub comes_apart : (keys' : List (Reverse RankKey)) → get old x.0.slot ≡ None → IsPermutation (x ∷ keys) keys' → All (LiesIn old) keys
      → IsDistinct same_slot keys → IsDistinct same_slot keys'
  comes_apart keys' vacant same lie distinct = IsDistinct-IsPermutation same_slot either_way (x ∷ keys) keys' same
      (IsDistinct-cons same_slot x keys (differ x keys (vacant_elsewhere vacant lie)) distinct)

  -- one goes
  pub goes : Updates old new x.0.slot None → IsDistinct same_slot (x ∷ keys) → All (LiesIn old) (x ∷ keys) → All (LiesIn new) keys
  goes updates distinct lie = stay None updates (distinct_elsewhere distinct) (All-tail (LiesIn old) x keys lie)

pub goes_apart : (x : Reverse RankKey) (keys before : List (Reverse RankKey)) → IsPermutation before (x ∷ keys) → IsDistinct same_slot before
    → IsDistinct same_slot (x ∷ keys)
goes_apart x keys before same distinct = IsDistinct-IsPermutation same_slot either_way before (x ∷ keys) same distinct

pub stays_apart : (x : Reverse RankKey) (keys : List (Reverse RankKey)) → IsDistinct same_slot (x ∷ keys) → IsDistinct same_slot keys
stays_apart x keys distinct = IsDistinct-tail same_slot x keys distinct
