-- Sums over the places of an order, actor by actor.
use Rattle.std.proofs.Common.{◌≡◌, ℕ, zero, suc, ◌+◌, ◌<◌, ◌≤◌, true, false, List, [], ◌∷◌, sum_by, refl, sym, ap, subst, ◌∙◌, arith, ◌⊎◌, inl, inr, eq-eqb, add-one}
use Rattle.std.proofs.lemmas.Bool.{cases_lt, cases_eq, ne_eqb}
use Rattle.std.proofs.lemmas.List.Sums.{sum_by-cons}
use Rattle.mb_msg.specs.declared.order.SenderOrder.{SenderOrder}
use Rattle.mb_journal.specs.Identity.{Identity}
use Rattle.mb_report.specs.declared.report.ActorReport.{ActorReport}
use Rattle.mb_causal_order.specs.Merged.{AreInOrder}
use Rattle.mb_causal_order.specs.Places.{entries_placed}
use Rattle.mb_causal_order.specs.declared.place.Place.{Place}
use Rattle.mb_causal_order.proofs.Order.{entries_placed-more}

-- the sum of the first values of a function, this many
abbrev pub sum_to : ℕ → (ℕ → ℕ) → ℕ
sum_to zero g = 0
sum_to (suc n) g = sum_to n g + g n

-- the sum over the first places of each actor, as many as stand in the order
abbrev pub by_actor : (Place → ℕ) → ℕ → List Place → ℕ
by_actor f n order = sum_to n (λ a. sum_to (entries_placed a order) (λ i. f (record { actor = a; index = i })))

pub sum_to-le : (n : ℕ) (g h : ℕ → ℕ) → ((a : ℕ) → g a ≤ h a) → sum_to n g ≤ sum_to n h
sum_to-le zero g h each = omega arith
sum_to-le (suc n) g h each =
    let before = sum_to-le n g h each in
    let here = each n in
    omega (arith, before, here)

pub sum_to-same : (n : ℕ) (g h : ℕ → ℕ) → ((a : ℕ) → a < n → h a ≡ g a) → sum_to n h ≡ sum_to n g
sum_to-same zero g h each = refl
sum_to-same (suc n) g h each =
    let before = sum_to-same n g h (λ a inside. each a (omega (arith, inside))) in
    let here = each n (omega arith) in
    omega (arith, before, here)

pub sum_to-none : (n : ℕ) (g : ℕ → ℕ) → ((a : ℕ) → g a ≡ 0) → sum_to n g ≡ 0
sum_to-none zero g each = refl
sum_to-none (suc n) g each =
    let before = sum_to-none n g each in
    let here = each n in
    omega (arith, before, here)

-- more values have a greater sum
pub sum_to-more : (n k : ℕ) (g : ℕ → ℕ) → n ≤ k → sum_to n g ≤ sum_to k g
sum_to-more n zero g within =
    let none : n ≡ 0 = omega (arith, within) in
    subst (λ (m : ℕ). sum_to m g ≤ sum_to 0 g) (sym none) (omega arith)
sum_to-more n (suc k) g within = by_place (sum_to-more n k g) (cases_lt k n)
  where
    by_place : (n ≤ k → sum_to n g ≤ sum_to k g) → (k < n) ⊎ (n ≤ k) → sum_to n g ≤ sum_to (suc k) g
    by_place most_of (inl last) =
        let same : n ≡ suc k = omega (arith, within, last) in
        subst (λ (m : ℕ). sum_to m g ≤ sum_to (suc k) g) (sym same) (omega arith)
    by_place most_of (inr before) =
        let most = most_of before in
        omega (arith, most)

-- one value more at one place
pub sum_to-changed : (n b c : ℕ) (g h : ℕ → ℕ) → ((a : ℕ) → (a ≡ b → ⊥) → h a ≡ g a) → h b ≡ g b + c → b < n → sum_to n h ≡ sum_to n g + c
sum_to-changed zero b c g h others here inside = absurd (omega (arith, inside))
sum_to-changed (suc n) b c g h others here inside = by_place (sum_to-changed n b c g h others here) (cases_lt b n)
  where
    by_place : (b < n → sum_to n h ≡ sum_to n g + c) → (b < n) ⊎ (n ≤ b) → sum_to (suc n) h ≡ sum_to (suc n) g + c
    by_place changed (inl before) =
        let so_far = changed before in
        let at = others n (λ (is : n ≡ b). omega (arith, is, before)) in
        omega (arith, so_far, at)
    by_place changed (inr last) =
        let same : b ≡ n = omega (arith, inside, last) in
        let so_far = sum_to-same n g h (λ a within. others a (λ (is : a ≡ b). omega (arith, is, same, within))) in
        let at : h n ≡ g n + c = subst (λ (m : ℕ). h m ≡ g m + c) same here in
        omega (arith, so_far, at)

-- one place more in an order
pub placed-here : (p : Place) (before : List Place) → entries_placed p.actor (p ∷ before) ≡ entries_placed p.actor before + 1
placed-here p before = entries_placed-more p.actor p before true (eq-eqb p.actor p.actor refl)

pub placed-other : (a : ℕ) (p : Place) (before : List Place) → (a ≡ p.actor → ⊥) → entries_placed a (p ∷ before) ≡ entries_placed a before
placed-other a p before other =
    let more = entries_placed-more a p before false (ne_eqb p.actor a (λ (is : p.actor ≡ a). other (sym is))) in
    omega (arith, more)

pub placed-more : (a : ℕ) (p : Place) (before : List Place) → entries_placed a before ≤ entries_placed a (p ∷ before)
placed-more a p before = by_place (cases_eq a p.actor)
  where
    by_place : (a ≡ p.actor) ⊎ (a ≡ p.actor → ⊥) → entries_placed a before ≤ entries_placed a (p ∷ before)
    by_place (inl is) =
        subst (λ (b : ℕ). entries_placed b before ≤ entries_placed b (p ∷ before)) (sym is) (let more = placed-here p before in omega (arith, more))
    by_place (inr other) = let same = placed-other a p before other in omega (arith, same)

-- a sum over the places of an order is the sum actor by actor
pub by_actor-is : (who : List Identity) (orders : List SenderOrder) (actors : List ActorReport) (f : Place → ℕ) (n : ℕ) (order : List Place) →
    AreInOrder who orders actors order → ((a : ℕ) → n ≤ a → entries_placed a order ≡ 0) → sum_by f order ≡ by_actor f n order
unfolding AreInOrder
by_actor-is who orders actors f n [] in_order none = sym (sum_to-none n (λ a. sum_to (entries_placed a []) (λ i. f (record { actor = a; index = i }))) (λ a. refl))
by_actor-is who orders actors f n (p ∷ before) (next, in_order) none =
    let so_far = by_actor-is who orders actors f n before in_order (λ a past. let all = none a past in let most = placed-more a p before in omega (arith, all, most)) in
    let both = sum_by-cons f p before in
    let changed = sum_to-changed n p.actor (f p) (of before) (of (p ∷ before)) others here inside in
    omega (arith, so_far, both, changed)
  where
    of : List Place → ℕ → ℕ
    of places a = sum_to (entries_placed a places) (λ i. f (record { actor = a; index = i }))

    others : (a : ℕ) → (a ≡ p.actor → ⊥) → of (p ∷ before) a ≡ of before a
    others a other = ap (λ m. sum_to m (λ i. f (record { actor = a; index = i }))) (placed-other a p before other)

    here : of (p ∷ before) p.actor ≡ of before p.actor + f p
    here =
        ap (λ m. sum_to m (λ i. f (record { actor = p.actor; index = i }))) (placed-here p before ∙ add-one (entries_placed p.actor before))
        ∙ ap (λ i. of before p.actor + f (record { actor = p.actor; index = i })) (sym next.next)

    inside : p.actor < n
    inside = by_place (cases_lt p.actor n)
      where
        by_place : (p.actor < n) ⊎ (n ≤ p.actor) → p.actor < n
        by_place (inl within) = within
        by_place (inr past) = let all = none p.actor past in let one = placed-here p before in absurd (omega (arith, all, one))

-- an order that has at least as many entries of each actor has a greater sum
pub by_actor-le : (f : Place → ℕ) (n : ℕ) (before order : List Place) → ((a : ℕ) → entries_placed a before ≤ entries_placed a order) →
    by_actor f n before ≤ by_actor f n order
by_actor-le f n before order within =
    sum_to-le n (λ a. sum_to (entries_placed a before) (λ i. f (record { actor = a; index = i })))
    (λ a. sum_to (entries_placed a order) (λ i. f (record { actor = a; index = i })))
    (λ a. sum_to-more (entries_placed a before) (entries_placed a order) (λ i. f (record { actor = a; index = i })) (within a))

-- two orders have the same sum, if each actor has as many entries in both, or nothing in the sum
pub by_actor-same : (f : Place → ℕ) (n : ℕ) (before order : List Place) →
    ((a : ℕ) → (entries_placed a before ≡ entries_placed a order) ⊎ ((i : ℕ) → f (record { actor = a; index = i }) ≡ 0)) →
    by_actor f n before ≡ by_actor f n order
by_actor-same f n before order each =
    sum_to-same n (λ a. sum_to (entries_placed a order) (λ i. f (record { actor = a; index = i })))
    (λ a. sum_to (entries_placed a before) (λ i. f (record { actor = a; index = i }))) (λ a inside. by_case a (each a))
  where
    by_case : (a : ℕ) → (entries_placed a before ≡ entries_placed a order) ⊎ ((i : ℕ) → f (record { actor = a; index = i }) ≡ 0) →
        sum_to (entries_placed a before) (λ i. f (record { actor = a; index = i })) ≡ sum_to (entries_placed a order) (λ i. f (record { actor = a; index = i }))
    by_case a (inl same) = ap (λ m. sum_to m (λ i. f (record { actor = a; index = i }))) same
    by_case a (inr none) =
        sum_to-none (entries_placed a before) (λ i. f (record { actor = a; index = i })) none
        ∙ sym (sum_to-none (entries_placed a order) (λ i. f (record { actor = a; index = i })) none)
