-- What keeps what is due owed.
use Rattle.std.proofs.Common.{◌≡◌, ◌≢◌, ℕ, zero, suc, ◌⊎◌, List, [], ◌∷◌, ◌++◌, length, set, sym, refl, ap, ◌∙◌, subst, inl, inr, ⊎_elim, arith}
use mathlib.Core.Logic.{dite}
use mathlib.Core.Option.{some, some-ne-none, some-injective}
use native.Mathlib.Decide.{ℕ_discrete}
use lib.ListN.{get_elem?}
use Rattle.atomic_table.proofs.Lists.{set_else, at_longer}
use Rattle.mb_ghost.specs.Owed.{ObligedParty, Owed}

module _ {V : Type 0} where
  pub set_at : (vs : List V) (id : ℕ) (v w : V) → get_elem? vs id ≡ some v → get_elem? (set vs id w) id ≡ some w
  set_at [] id v w at = absurd (some-ne-none v (sym at))
  set_at (x ∷ xs) zero v w at = refl
  set_at (x ∷ xs) (suc id) v w at = set_at xs id v w at

  pub new_last : (vs : List V) (w : V) → get_elem? (vs ++ w ∷ []) (length vs) ≡ some w
  new_last [] w = refl
  new_last (x ∷ xs) w = new_last xs w

module _ {V : Type 0} (Pays : V → Type 0) where
  -- the seat whose view changes owes it
  pub pays : (Due : Type 0) (vs : List V) (id : ℕ) (v w : V) → get_elem? vs id ≡ some v → Pays w → Owed Due Pays (set vs id w)
  pays Due vs id v w at owes due = record { seat = id; view = w; present = set_at vs id v w at; pays = owes }

  payer_stays : (vs : List V) (id : ℕ) (v w : V) → get_elem? vs id ≡ some v → (Pays v → Pays w) → ObligedParty Pays vs → ObligedParty Pays (set vs id w)
  payer_stays vs id v w at keeps p = dite (ℕ_discrete p.seat id)
      (λ same. let is : p.view ≡ v = some-injective p.view v (sym p.present ∙ (ap (get_elem? vs) same ∙ at)) in
      record { seat = id; view = w; present = set_at vs id v w at; pays = keeps (subst Pays is p.pays) })
      (λ other. record { seat = p.seat; view = p.view; present = set_else vs id p.seat w other ∙ p.present; pays = p.pays })

  -- where it is due, the seat whose view changes owes no less than before, and no more is due
  pub still_owed : (Due Due' : Type 0) (vs : List V) (id : ℕ) (v w : V) → get_elem? vs id ≡ some v → (Due' → Due) → (Due' → Pays v → Pays w) →
      Owed Due Pays vs → Owed Due' Pays (set vs id w)
  still_owed Due Due' vs id v w at less keeps owed due = payer_stays vs id v w at (keeps due) (owed (less due))

  payer_more : (vs more : List V) → ObligedParty Pays vs → ObligedParty Pays (vs ++ more)
  payer_more vs more p = record { seat = p.seat; view = p.view; present = at_longer vs more p.seat p.view p.present; pays = p.pays }

  -- a view is cut in two, and what it owed one of them owes
  pub splits_owed : (Due : Type 0) (vs : List V) (id : ℕ) (v left right : V) → get_elem? vs id ≡ some v → (Pays v → Pays left ⊎ Pays right) →
      Owed Due Pays vs → Owed Due Pays (set vs id left ++ right ∷ [])
  splits_owed Due vs id v left right at keeps owed due = let p = owed due in dite (ℕ_discrete p.seat id)
      (λ same. let is : p.view ≡ v = some-injective p.view v (sym p.present ∙ (ap (get_elem? vs) same ∙ at)) in
      ⊎_elim (λ l. payer_more (set vs id left) (right ∷ []) (record { seat = id; view = left; present = set_at vs id v left at; pays = l }))
      (λ r. record { seat = length (set vs id left); view = right; present = new_last (set vs id left) right; pays = r }) (keeps (subst Pays is
      p.pays)))
      (λ other. payer_more (set vs id left) (right ∷ []) (record {
        seat = p.seat;
        view = p.view;
        present = set_else vs id p.seat left other ∙
            p.present;
        pays = p.pays;
      }))

  -- a seat takes over what another owes
  pub joins_owed : (Due : Type 0) (vs : List V) (id other : ℕ) (v w both spent : V) → get_elem? vs id ≡ some v → ¬ (other ≡ id) → get_elem? (set
      vs id both) other ≡ some w
      → (Pays v → Pays both) → (Pays w → Pays both) → Owed Due Pays vs → Owed Due Pays (set (set vs id both) other spent)
  joins_owed Due vs id other v w both spent at apart there keeps takes owed due =
      let p = payer_stays vs id v both at keeps (owed due) in
      let mine : get_elem? (set (set vs id both) other spent) id ≡ some both = set_else (set vs id both) other id spent (λ e. apart (sym e)) ∙
      set_at vs id v both at in
      dite (ℕ_discrete p.seat other)
      (λ same. let is : p.view ≡ w = some-injective p.view w (sym p.present ∙ (ap (get_elem? (set vs id both)) same ∙ there)) in
      record { seat = id; view = both; present = mine; pays = takes (subst Pays is p.pays) })
      (λ else. record { seat = p.seat; view = p.view; present = set_else (set vs id both) other p.seat spent else ∙ p.present; pays = p.pays })
