-- The lines of entries in an order of places, with one place more.
use Rattle.std.proofs.Common.{◌≡◌, ℕ, zero, suc, ◌+◌, ◌-◌, ◌++◌, ◌<◌, ◌≤◌, Bool, true, false, cond, List, [], ◌∷◌, Some, None, refl, ap, append_assoc, count_by, drop, get_or, length, reverse, slice_get, sym, take, ◌∙◌, eq-eqb, arith}
use Rattle.std.specs.Prelude.{◌==◌, Option, codes, filter, if◌then◌else◌, option_map, option_to_list}
use Rattle.std.proofs.lemmas.Bool.{eqb-true}
use Rattle.std.proofs.lemmas.List.{append-nil, drop-drop, drop_all, drop_more, reverse-append, take_more}
use Rattle.std.proofs.lemmas.List.Sums.{sum_by-append}
use Rattle.mb_causal_order.specs.Places.{is_of, entries_placed}
use Rattle.mb_causal_order.specs.declared.place.Place.{Place}
use Rattle.mb_trace.specs.Steps.{Step, step_data}
use Rattle.mb_trace.specs.Text.{is_above, is_shown, runs_text, shown, step_text, steps_at, title_text}
use Rattle.mb_trace.specs.declared.step.TraceStep.{TraceStep}
use Rattle.mb_trace.proofs.Left.{slice_get-drop}
use Rattle.mb_trace.specs.declared.filter.Filter.{Filter}

-- one place more
pub placed-more : (a : ℕ) (p : Place) (order : List Place) (b : Bool) → (p.actor == a) ≡ b →
    entries_placed a (p ∷ order) ≡ entries_placed a order + cond b 1 0
placed-more a p order b is =
    let both : entries_placed a (p ∷ order) ≡ count_by (is_of a) (p ∷ []) + entries_placed a order =
    sum_by-append (λ (x : Place). cond (is_of a x) 1 0) (p ∷ []) order in
    let here : count_by (is_of a) (p ∷ []) ≡ 0 + cond b 1 0 = ap (λ x. 0 + cond x 1 0) is in
    omega (arith, here, both)

-- the same test the other way round
pub turned : (a b : ℕ) (x : Bool) → (a == b) ≡ x → (b == a) ≡ x
turned a b true is = eq-eqb b a (sym (eqb-true a b is))
turned a b false is = by_other (b == a) refl
  where
    by_other : (y : Bool) → (b == a) ≡ y → (b == a) ≡ false
    by_other false other = other
    by_other true other = eq-eqb b a (eqb-true b a other) ∙ (sym (eq-eqb a b (sym (eqb-true b a other))) ∙ is)

-- what is left of an actor's steps, at the next place
pub placed-left : (a : ℕ) (p : Place) (before : List Place) (all mid last : List Step) → mid ≡ drop (entries_placed a before) all →
    last ≡ drop (if a == p.actor then 1 else 0) mid → last ≡ drop (entries_placed a (p ∷ before)) all
placed-left a p before all mid last is_mid is_last = by_actor (a == p.actor) refl is_last
  where
    by_actor : (b : Bool) → (a == p.actor) ≡ b → last ≡ drop (if b then 1 else 0) mid → last ≡ drop (entries_placed a (p ∷ before)) all
    by_actor true same is_last =
        is_last
        ∙ (ap (λ (l : List Step). drop 1 l) is_mid
        ∙ (drop-drop 1 (entries_placed a before) all ∙ ap (λ n. drop n all) (sym (placed-more a p before true (turned a p.actor true same)))))
    by_actor false other is_last =
        let same : entries_placed a (p ∷ before) ≡ entries_placed a before = (let more = placed-more a p before false (turned a p.actor false other) in omega (arith, more)) in
        is_last ∙ (is_mid ∙ ap (λ n. drop n all) (sym same))

-- the same at a place of no actor
pub placed-none : (a : ℕ) (p : Place) (before : List Place) (steps : ℕ → List Step) (left : List Step) → steps p.actor ≡ [] →
    left ≡ drop (entries_placed a before) (steps a) → left ≡ drop (entries_placed a (p ∷ before)) (steps a)
placed-none a p before steps left none is = by_actor (a == p.actor) refl
  where
    by_actor : (b : Bool) → (a == p.actor) ≡ b → left ≡ drop (entries_placed a (p ∷ before)) (steps a)
    by_actor true same =
        let here : steps a ≡ [] = ap steps (eqb-true a p.actor same) ∙ none in
        is ∙ (ap (λ l. drop (entries_placed a before) l) here ∙ (dropped (entries_placed a before)
        ∙ (sym (dropped (entries_placed a (p ∷ before))) ∙ ap (λ l. drop (entries_placed a (p ∷ before)) l) (sym here))))
      where
        dropped : (n : ℕ) → drop n (let none : List Step = [] in none) ≡ []
        dropped zero = refl
        dropped (suc n) = refl
    by_actor false other =
        let same : entries_placed a (p ∷ before) ≡ entries_placed a before = (let more = placed-more a p before false (turned a p.actor false other) in omega (arith, more)) in
        is ∙ ap (λ n. drop n (steps a)) (sym same)

pub grown : (order : List Place) (i : ℕ) (d : Place) → i < length order →
    reverse (take (i + 1) order) ≡ get_or order i d ∷ reverse (take i order)
grown order i d within = ap reverse (take_more order i d within) ∙ reverse-append (take i order) (get_or order i d ∷ [])

module _ (names : List (List ℕ)) (f : Filter) (steps : ℕ → List Step) (order : List Place) (i : ℕ) (d : Place) (within : i < length order)
    (above : Option ℕ) (left : ℕ) (so_far whole : List ℕ)
    (is : whole ≡ so_far ++ runs_text names above (shown f left (steps_at steps (reverse (take i order)) (drop i order)))) where
  abbrev p : Place
  p = get_or order i d

  abbrev before : List Place
  before = reverse (take i order)

  -- the steps of the places behind this one
  abbrev later : List Step
  later = steps_at steps (p ∷ before) (drop (i + 1) order)

  later-is : later ≡ steps_at steps (reverse (take (i + 1) order)) (drop (i + 1) order)
  later-is = ap (λ b. steps_at steps b (drop (i + 1) order)) (sym (grown order i d within))

  opened : (o : Option Step) → slice_get (steps p.actor) (entries_placed p.actor before) ≡ o →
      whole ≡ so_far ++ runs_text names above (shown f left (option_to_list o ++ later))
  opened o found =
      is
      ∙ (ap (λ l. so_far ++ runs_text names above (shown f left (steps_at steps before l))) (drop_more order i d within)
      ∙ ap (λ x. so_far ++ runs_text names above (shown f left (option_to_list x ++ later))) found)

  abbrev Next : Option ℕ → ℕ → List ℕ → Type 0
  Next above left so_far =
      whole ≡ so_far ++ runs_text names above (shown f left (steps_at steps (reverse (take (i + 1) order)) (drop (i + 1) order)))

  -- no entry is there
  pub next-none : slice_get (steps p.actor) (entries_placed p.actor before) ≡ None → Next above left so_far
  next-none none = opened None none ∙ ap (λ l. so_far ++ runs_text names above (shown f left l)) later-is

  -- no more are shown
  pub next-full : left ≡ 0 → Next above left so_far
  next-full full =
      is
      ∙ (ap (λ n. so_far ++ runs_text names above (shown f n (steps_at steps before (drop i order)))) full
      ∙ ap (λ n. so_far ++ runs_text names above (shown f n (steps_at steps (reverse (take (i + 1) order)) (drop (i + 1) order)))) (sym full))

  -- the filter leaves it out
  pub next-left_out : (s : Step) → slice_get (steps p.actor) (entries_placed p.actor before) ≡ Some s → is_shown f s ≡ false → Next above left so_far
  next-left_out s found out =
      opened (Some s) found
      ∙ (ap (λ b. so_far ++ runs_text names above (take left (cond b (s ∷ filter (is_shown f) later) (filter (is_shown f) later)))) out
      ∙ ap (λ l. so_far ++ runs_text names above (shown f left l)) later-is)

  abbrev piece : Step → List ℕ
  piece s = (if is_above above s.actor then [] else title_text names (codes "actor") s.actor) ++ step_text names s

  -- it is shown
  pub next-shown : (s : Step) → slice_get (steps p.actor) (entries_placed p.actor before) ≡ Some s → is_shown f s ≡ true → 0 < left →
      Next (Some s.actor) (left - 1) (so_far ++ piece s)
  next-shown s found passes some =
      opened (Some s) found
      ∙ (ap (λ b. so_far ++ runs_text names above (take left (cond b (s ∷ filter (is_shown f) later) (filter (is_shown f) later)))) passes
      ∙ (ap (λ n. so_far ++ runs_text names above (take n (s ∷ filter (is_shown f) later))) one_more
      ∙ (sym (append_assoc so_far (piece s) (runs_text names (Some s.actor) (take (left - 1) (filter (is_shown f) later))))
      ∙ ap (λ l. so_far ++ piece s ++ runs_text names (Some s.actor) (shown f (left - 1) l)) later-is)))
    where
      one_more : left ≡ suc (left - 1)
      one_more = omega (arith, some)

-- what was found is the next step of the actor
pub next-found : (left all : List Step) (n : ℕ) (o : Option TraceStep) (x : Option TraceStep) → left ≡ drop n all → o ≡ x →
    option_map step_data o ≡ slice_get left 0 → slice_get all n ≡ option_map step_data x
next-found left all n o x is_left is_o found =
    sym (slice_get-drop all n)
    ∙ (ap (λ (l : List Step). slice_get l 0) (sym is_left) ∙ (sym found ∙ ap (λ (y : Option TraceStep). option_map step_data y) is_o))

-- no place is left
pub order-end : (names : List (List ℕ)) (f : Filter) (steps : ℕ → List Step) (order : List Place) (i : ℕ) (above : Option ℕ) (left : ℕ)
    (so_far whole : List ℕ) → length order ≤ i →
    whole ≡ so_far ++ runs_text names above (shown f left (steps_at steps (reverse (take i order)) (drop i order))) → so_far ≡ whole
order-end names f steps order i above left so_far whole past is =
    sym (is
    ∙ (ap (λ l. so_far ++ runs_text names above (shown f left (steps_at steps (reverse (take i order)) l))) (drop_all i order past)
    ∙ (ap (λ l. so_far ++ runs_text names above l) (none left) ∙ append-nil so_far)))
  where
    none : (n : ℕ) → take n (let steps : List Step = [] in steps) ≡ []
    none zero = refl
    none (suc n) = refl
