-- What keeps a thing in its slot or with one seat.
use Rattle.std.proofs.Common.{
  ◌≡◌,
  ◌≢◌,
  ℕ,
  zero,
  suc,
  eqb,
  List,
  [],
  ◌∷◌,
  ◌++◌,
  length,
  set,
  sym,
  refl,
  ap,
  ◌∙◌,
  subst,
  Option,
  Some,
  None,
  eq-eqb,
  ne_eqb,
  arith,
  if◌then◌else◌,
  cond,
}
use mathlib.Core.Logic.{dite}
use mathlib.Core.Option.{some, some-ne-none, some-injective}
use native.Mathlib.Decide.{ℕ_discrete}
use lib.ListN.{get_elem?}
use Rattle.mb_ghost.specs.Locked.{ticket_at, held_by, Locked}

module _ {V T : Type 0} (ticket : V → Option T) where
  pub ticket_here : (vs : List V) (q : ℕ) (v : V) → get_elem? vs q ≡ some v → ticket_at ticket vs q ≡ ticket v
  ticket_here [] q v at = absurd (some-ne-none v (sym at))
  ticket_here (x ∷ xs) zero v at = ap ticket (some-injective x v at)
  ticket_here (x ∷ xs) (suc q) v at = ticket_here xs q v at

  pub ticket_set_here : (vs : List V) (q : ℕ) (v w : V) → get_elem? vs q ≡ some v → ticket_at ticket (set vs q w) q ≡ ticket w
  ticket_set_here [] q v w at = absurd (some-ne-none v (sym at))
  ticket_set_here (x ∷ xs) zero v w at = refl
  ticket_set_here (x ∷ xs) (suc q) v w at = ticket_set_here xs q v w at

  pub ticket_set_else : (vs : List V) (id q : ℕ) (w : V) → q ≢ id → ticket_at ticket (set vs id w) q ≡ ticket_at ticket vs q
  ticket_set_else [] id q w other = refl
  ticket_set_else (x ∷ xs) zero zero w other = absurd (other refl)
  ticket_set_else (x ∷ xs) zero (suc q) w other = refl
  ticket_set_else (x ∷ xs) (suc id) zero w other = refl
  ticket_set_else (x ∷ xs) (suc id) (suc q) w other = ticket_set_else xs id q w (λ e. other (ap suc e))

  -- a seat more, with no ticket
  pub ticket_more : (vs : List V) (w : V) (q : ℕ) → ticket w ≡ None → ticket_at ticket (vs ++ w ∷ []) q ≡ ticket_at ticket vs q
  ticket_more [] w zero e = e
  ticket_more [] w (suc q) e = refl
  ticket_more (x ∷ xs) w zero e = refl
  ticket_more (x ∷ xs) w (suc q) e = ticket_more xs w q e

  -- one view changes, and its ticket is what the new holder gives it, which gives all others what the old one did
  pub relock : (old new : Option (ℕ × T)) (vs : List V) (id : ℕ) (v w : V) → get_elem? vs id ≡ some v
      → ((q : ℕ) → q ≢ id → held_by old q ≡ held_by new q) → ticket w ≡ held_by new id → Locked ticket old vs → Locked ticket new (set vs id w)
  relock old new vs id v w at others mine locked q =
      dite (ℕ_discrete q id)
      (λ e. subst (λ z. ticket_at ticket (set vs id w) z ≡ held_by new z) (sym e) (ticket_set_here vs id v w at ∙ mine))
      (λ n. ticket_set_else vs id q w n ∙ (locked q ∙ others q n))

  -- one view changes, and not its ticket
  pub stays_locked : (holder : Option (ℕ × T)) (vs : List V) (id : ℕ) (v w : V) → get_elem? vs id ≡ some v → ticket w ≡ ticket v → Locked ticket
      holder vs → Locked ticket holder (set vs id w)
  stays_locked holder vs id v w at same locked = relock holder holder vs id v w at (λ q n. refl) (same ∙ (sym (ticket_here vs id v at) ∙ locked
      id)) locked

  held_else : (id q : ℕ) (t : T) → q ≢ id → held_by (Some (id, t)) q ≡ None
  held_else id q t n = ap (λ b. if b then Some t else None) (ne_eqb id q (λ e. n (sym e)))

  held_here : (id : ℕ) (t : T) → held_by (Some (id, t)) id ≡ Some t
  held_here id t = ap (λ b. if b then Some t else None) (eq-eqb id id refl)

  -- a seat takes what was in the slot
  pub takes_up : (vs : List V) (id : ℕ) (v w : V) (t : T) → get_elem? vs id ≡ some v → ticket w ≡ Some t → Locked ticket None vs → Locked ticket
      (Some (id, t)) (set vs id w)
  takes_up vs id v w t at has locked = relock None (Some (id, t)) vs id v w at (λ q n. sym (held_else id q t n)) (has ∙ sym (held_here id t)) locked

  -- the holder's ticket changes
  pub changes_ticket : (vs : List V) (id : ℕ) (v w : V) (t u : T) → get_elem? vs id ≡ some v → ticket w ≡ Some u → Locked ticket (Some (id, t)) vs →
      Locked ticket (Some (id, u)) (set vs id w)
  changes_ticket vs id v w t u at has locked =
      relock (Some (id, t)) (Some (id, u)) vs id v w at (λ q n. held_else id q t n ∙ sym (held_else id q u n)) (has ∙ sym (held_here id u)) locked

  -- the holder puts it back
  pub puts_back : (vs : List V) (id : ℕ) (v w : V) (t : T) → get_elem? vs id ≡ some v → ticket w ≡ None → Locked ticket (Some (id, t)) vs →
      Locked ticket None (set vs id w)
  puts_back vs id v w t at has locked = relock (Some (id, t)) None vs id v w at (λ q n. held_else id q t n) has locked

  holder_of : (holder : Option (ℕ × T)) (id : ℕ) (t : T) (b : (h : ℕ × T) → Dec (h.0 ≡ id)) → held_by holder id ≡ Some t → holder ≡ Some (id, t)
  holder_of None id t b e = absurd (cc)
  holder_of (Some h) id t b e = dite (b h)
      (λ same. let now : Some h.1 ≡ Some t = sym (ap (λ x. if x then Some h.1 else None) (eq-eqb h.0 id same)) ∙ e in ap Some (λ i. (
        same i,
        first now i,
      )))
      (λ other. let none : held_by (Some h) id ≡ None = ap (λ x. if x then Some h.1 else None) (ne_eqb h.0 id other) in absurd (cc))
    where
      first : {x y : T} → Some x ≡ Some y → x ≡ y
      first p = cc

  -- who has the ticket is the holder
  pub is_holder : (holder : Option (ℕ × T)) (vs : List V) (id : ℕ) (v : V) (t : T) → get_elem? vs id ≡ some v → ticket v ≡ Some t → Locked ticket
      holder vs → holder ≡ Some (id, t)
  is_holder holder vs id v t at has locked = holder_of holder id t (λ h. ℕ_discrete h.0 id) (sym (locked id) ∙ (ticket_here vs id v at ∙ has))

  -- a view is cut in two, and the first keeps the ticket
  pub splits_locked : (holder : Option (ℕ × T)) (vs : List V) (id : ℕ) (v left right : V) → get_elem? vs id ≡ some v → ticket left ≡ ticket v →
      ticket right ≡ None
      → Locked ticket holder vs → Locked ticket holder (set vs id left ++ right ∷ [])
  splits_locked holder vs id v left right at same bare locked q =
      ticket_more (set vs id left) right q bare ∙ stays_locked holder vs id v left at same locked q

  -- a seat with no ticket gives its view to another
  pub joins_locked : (holder : Option (ℕ × T)) (vs : List V) (id other : ℕ) (v w both spent : V) → get_elem? vs id ≡ some v → get_elem? (set vs
      id both) other ≡ some w
      → ticket both ≡ ticket v → ticket w ≡ None → ticket spent ≡ None → Locked ticket holder vs → Locked ticket holder (set (set vs id both)
      other spent)
  joins_locked holder vs id other v w both spent at there same bare empty locked =
      stays_locked holder (set vs id both) other w spent there (empty ∙ sym bare) (stays_locked holder vs id v both at same locked)
