-- The entries of an order of places, and those of the journals, by the lengths of parts.
use Rattle.std.proofs.Common.{◌≡◌, ℕ, zero, suc, ◌+◌, ◌++◌, ◌<◌, ◌≤◌, Bool, true, false, cond, List, [], ◌∷◌, length, map, take, drop, get_or, slice_get, refl, ap, append_assoc, sym, ◌∙◌, arith}
use Rattle.std.specs.Prelude.{◌==◌, ⊤, filter, if◌then◌else◌, nat_lt, option_to_list}
use Rattle.std.proofs.lemmas.Bool.{eqb-true, ltb-false, ltb-true}
use Rattle.std.proofs.lemmas.List.{get_or_at, length-append, length_push, take_all}
use Rattle.std.proofs.lemmas.List.Sums.{sum_by-append}
use Rattle.mb_causal_order.specs.Places.{journal_of, entries_placed}
use Rattle.mb_causal_order.specs.declared.place.Place.{Place}
use Rattle.mb_report.specs.declared.report.ActorReport.{ActorReport}
use Rattle.mb_trace.specs.Actors.{who_in}
use Rattle.mb_trace.specs.Steps.{Step, script_in, steps_in}
use Rattle.mb_trace.specs.Text.{entries_in, journal_parts, steps_at, turn_parts}
use Rattle.mb_trace.specs.declared.trace.Trace.{Trace}
use Rattle.mb_trace.specs.declared.trace.TurnLength.{TurnLength}
use Rattle.mb_trace.proofs.At.{journal-at}
use Rattle.mb_trace.proofs.OrderLines.{placed-more, turned}
use Rattle.mb_trace.proofs.Stepped.{length-steps}
use Rattle.mb_trace_forms.specs.Order.{all_steps, is_among, journal_lengths, single}

entries-more : (a : ℕ) (earlier : List TurnLength) (t : TurnLength) →
    entries_in a (earlier ++ t ∷ []) ≡ entries_in a earlier + (if a == t.actor.0 then t.entries else 0)
entries-more a earlier t =
    let more : ℕ = if a == t.actor.0 then t.entries else 0 in
    let one : 0 + more ≡ more = omega arith in
    sum_by-append (λ (x : TurnLength). if a == x.actor.0 then x.entries else 0) earlier (t ∷ []) ∙ ap (λ k. entries_in a earlier + k) one

-- the next of some entries, if there is one
pub first-at : (n : ℕ) (xs : List Step) → take 1 (drop n xs) ≡ option_to_list (slice_get xs n)
first-at zero [] = refl
first-at zero (x ∷ xs) = refl
first-at (suc n) [] = refl
first-at (suc n) (x ∷ xs) = first-at n xs

no-entry : (n : ℕ) → option_to_list (slice_get (let none : List Step = [] in none) n) ≡ []
no-entry zero = refl
no-entry (suc n) = refl

module _ (steps : ℕ → List Step) (n : ℕ) (none : (a : ℕ) → n ≤ a → steps a ≡ []) where
  -- as many entries of each actor were in the earlier parts as there are at the places before
  abbrev AreAlike : List TurnLength → List Place → Type 0
  AreAlike earlier before = (a : ℕ) → a < n → entries_in a earlier ≡ entries_placed a before

  alike-more : (earlier : List TurnLength) (before : List Place) (p : Place) → AreAlike earlier before →
      AreAlike (earlier ++ single p ∷ []) (p ∷ before)
  alike-more earlier before p alike a within = by_actor (a == p.actor) refl
    where
      by_actor : (b : Bool) → (a == p.actor) ≡ b → entries_in a (earlier ++ single p ∷ []) ≡ entries_placed a (p ∷ before)
      by_actor b is =
          entries-more a earlier (single p)
          ∙ ((λ j. alike a within j + (if is j then 1 else 0)) ∙ sym (placed-more a p before b (turned a p.actor b is)))

  alike-other : (earlier : List TurnLength) (before : List Place) (p : Place) → n ≤ p.actor → AreAlike earlier before →
      AreAlike earlier (p ∷ before)
  alike-other earlier before p past alike a within = by_actor (a == p.actor) refl
    where
      by_actor : (b : Bool) → (a == p.actor) ≡ b → entries_in a earlier ≡ entries_placed a (p ∷ before)
      by_actor true same = absurd (let e : a ≡ p.actor = eqb-true a p.actor same in omega (arith, e, within, past))
      by_actor false other =
          let more = placed-more a p before false (turned a p.actor false other) in
          alike a within ∙ omega (arith, more)

  -- one place more, where this is so of those behind it
  single-more : (earlier : List TurnLength) (before : List Place) (p : Place) (places : List Place) → AreAlike earlier before →
      ((e : List TurnLength) → AreAlike e (p ∷ before) →
      all_steps (turn_parts steps e (map single (filter (is_among n) places))) ≡ steps_at steps (p ∷ before) places) →
      (b : Bool) → nat_lt p.actor n ≡ b →
      all_steps (turn_parts steps earlier (map single (cond b (p ∷ filter (is_among n) places) (filter (is_among n) places))))
      ≡ steps_at steps before (p ∷ places)
  single-more earlier before p places alike behind true inside =
      let within = ltb-true p.actor n inside in
      let here : take 1 (drop (entries_in p.actor earlier) (steps p.actor)) ≡ option_to_list (slice_get (steps p.actor) (entries_placed p.actor before)) =
      ap (λ k. take 1 (drop k (steps p.actor))) (alike p.actor within) ∙ first-at (entries_placed p.actor before) (steps p.actor) in
      let rest = behind (earlier ++ single p ∷ []) (alike-more earlier before p alike) in (λ j. here j ++ rest j)
  single-more earlier before p places alike behind false outside =
      let past = ltb-false p.actor n outside in
      let rest = behind earlier (alike-other earlier before p past alike) in
      let nothing : option_to_list (slice_get (steps p.actor) (entries_placed p.actor before)) ≡ [] =
      ap (λ (l : List Step). option_to_list (slice_get l (entries_placed p.actor before))) (none p.actor past) ∙ no-entry (entries_placed p.actor before) in
      rest ∙ sym (ap (λ l. l ++ steps_at steps (p ∷ before) places) nothing)

  -- one entry for each place of an actor
  pub singles : (earlier : List TurnLength) (before places : List Place) → AreAlike earlier before →
      all_steps (turn_parts steps earlier (map single (filter (is_among n) places))) ≡ steps_at steps before places
  singles earlier before [] alike = refl
  singles earlier before (p ∷ places) alike =
      single-more earlier before p places alike (λ e same. singles e (p ∷ before) places same) (nat_lt p.actor n) refl

-- the steps of each of these actors, numbered on from this one, are as many as its journal has entries
abbrev AreAsMany : (ℕ → List Step) → ℕ → List ActorReport → Type 0
AreAsMany steps a [] = ⊤
AreAsMany steps a (r ∷ reported) = (length (steps a) ≡ length r.journal.entries) × AreAsMany steps (a + 1) reported

as-many : (trace : Trace) (a : ℕ) (done reported : List ActorReport) → length done ≡ a → trace.report.now.actors.items ≡ done ++ reported →
    AreAsMany (steps_in trace) a reported
as-many trace a done [] len is = tt
as-many trace a done (r ∷ reported) len is =
    let all = trace.report.now.actors.items in
    let long : a < length all = (let same = ap length is in let both = length-append done (r ∷ reported) in omega (arith, same, both, len)) in
    let there : get_or all a r ≡ r = ap (λ (l : List ActorReport). get_or l a r) is ∙ get_or_at done r reported r a len in
    let own = length-steps a (who_in trace.plan.now a) (script_in trace.scripts.now a) (journal_of all a) in (
      own ∙ ap length (journal-at all a r long (sym there)),
      as-many trace (a + 1) (done ++ r ∷ []) reported (length_push done r ∙ ap (λ m. m + 1) len) (is ∙ sym (append_assoc done (r ∷ []) reported)),
    )

-- each journal is all of its actor's steps, where no earlier part has any of them
journals : (steps : ℕ → List Step) (a : ℕ) (earlier : List TurnLength) (reported : List ActorReport) → AreAsMany steps a reported →
    ((b : ℕ) → a ≤ b → entries_in b earlier ≡ 0) →
    all_steps (turn_parts steps earlier (journal_lengths a reported)) ≡ all_steps (journal_parts steps a reported)
journals steps a earlier [] many fresh = refl
journals steps a earlier (r ∷ reported) many fresh =
    let n = length r.journal.entries in
    let t : TurnLength = record { actor = record { 0 = a }; entries = n } in
    let here : take n (drop (entries_in a earlier) (steps a)) ≡ steps a =
    ap (λ k. take n (drop k (steps a))) (fresh a (omega arith)) ∙ take_all n (steps a) (let same = many.0 in omega (arith, same)) in
    let rest = journals steps (a + 1) (earlier ++ t ∷ []) reported many.1 (λ b behind. later earlier a b n (omega (arith, behind)) (fresh b (omega (arith, behind)))) in
    (λ j. here j ++ rest j)
  where
    later : (earlier : List TurnLength) (a b n : ℕ) → a < b → entries_in b earlier ≡ 0 →
        entries_in b (earlier ++ record { actor = record { 0 = a }; entries = n } ∷ []) ≡ 0
    later earlier a b n behind none = by_actor (b == a) refl
      where
        by_actor : (x : Bool) → (b == a) ≡ x → entries_in b (earlier ++ record { actor = record { 0 = a }; entries = n } ∷ []) ≡ 0
        by_actor true same = absurd (let e : b ≡ a = eqb-true b a same in omega (arith, e, behind))
        by_actor false other =
            entries-more b earlier (record { actor = record { 0 = a }; entries = n })
            ∙ (λ j. none j + (if other j then n else 0))

-- so the journals as parts are the journals
pub journals-all : (trace : Trace) →
    all_steps (turn_parts (steps_in trace) [] (journal_lengths 0 trace.report.now.actors.items))
    ≡ all_steps (journal_parts (steps_in trace) 0 trace.report.now.actors.items)
journals-all trace =
    let all = trace.report.now.actors.items in
    journals (steps_in trace) 0 [] all (as-many trace 0 [] all refl refl) (λ b behind. refl)
