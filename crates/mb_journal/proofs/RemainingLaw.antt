-- What remains of what was added, where a list is kept by taking away and then adding.
use Rattle.std.proofs.Common.{◌≡◌, Bool, true, false, cond, not, ◌&&◌, ◌||◌, List, [], ◌∷◌, ◌++◌, filter, refl, sym, ap, ◌∙◌}
use Rattle.std.specs.List.{list_any}
use Rattle.std.proofs.lemmas.List.Elements.{filter-append}
use Rattle.mb_journal.specs.Remaining.{remaining}

pub filter-all : {B : Type 0} (list : List B) → filter (λ b. true) list ≡ list
filter-all [] = refl
filter-all (b ∷ list) = ap (λ bs. b ∷ bs) (filter-all list)

pub filter-twice : {B : Type 0} (p q : B → Bool) (list : List B) → filter p (filter q list) ≡ filter (λ b. q b && p b) list
filter-twice p q [] = refl
filter-twice p q (b ∷ list) = step (q b) (p b) refl (filter-twice p q list)
  where
    step : (s t : Bool) → p b ≡ t → filter p (filter q list) ≡ filter (λ c. q c && p c) list →
        filter p (cond s (b ∷ filter q list) (filter q list)) ≡ cond (s && p b) (b ∷ filter (λ c. q c && p c) list) (filter (λ c. q c && p c) list)
    step true t is rest = ap (λ bs. cond (p b) (b ∷ bs) bs) rest
    step false t is rest = rest

not-or : (a b : Bool) → (not a && not b) ≡ not (a || b)
not-or true b = refl
not-or false b = refl

module _ {A B : Type 0} (adds : A → List A → List B) (takes : B → A → Bool) (keep : List A → List B)
    (none : keep [] ≡ []) (more : (a : A) (before : List A) → keep (a ∷ before) ≡ filter (λ b. not (takes b a)) (keep before) ++ adds a before) where
  remaining-later : (later list : List A) → filter (λ b. not (list_any (takes b) later)) (keep list) ≡ remaining adds takes later list
  remaining-later later [] = ap (filter (λ b. not (list_any (takes b) later))) none
  remaining-later later (a ∷ before) =
      let still : B → Bool = λ b. not (list_any (takes b) later) in
      ap (filter still) (more a before)
      ∙ filter-append still (filter (λ b. not (takes b a)) (keep before)) (adds a before)
      ∙ ap (λ bs. bs ++ filter still (adds a before))
      (filter-twice still (λ b. not (takes b a)) (keep before)
      ∙ (λ i. filter (λ b. not-or (takes b a) (list_any (takes b) later) i) (keep before))
      ∙ remaining-later (a ∷ later) before)

  pub remaining-is : (list : List A) → keep list ≡ remaining adds takes [] list
  remaining-is list = sym (filter-all (keep list)) ∙ remaining-later [] list
