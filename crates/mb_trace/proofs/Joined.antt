-- Each entry of a journal stands once among those that are shown, in its journal's order.
use Rattle.std.proofs.Common.{◌≡◌, ℕ, zero, suc, ◌+◌, ◌<◌, ◌≤◌, Bool, true, false, cond, List, [], ◌∷◌, ◌++◌, length, reverse, take, drop, slice_get, refl, ap, sym, ◌∙◌, inl, inr, ◌⊎◌, eq-eqb, arith}
use Rattle.std.specs.Prelude.{◌==◌, All, if◌then◌else◌, Option, option_to_list}
use Rattle.std.proofs.lemmas.Bool.{cases_lt, eqb-false, eqb-true, ne_eqb}
use Rattle.std.proofs.lemmas.List.{append-nil, drop-drop, drop-take, reverse-append, take-append-drop, take-take, take_all}
use Rattle.std.proofs.lemmas.List.Elements.{All-cons, All-head, All-nil, All-tail, filter-append}
use Rattle.std.proofs.lemmas.List.Sums.{sum_by-cons, sum_by_push}
use Rattle.mb_build.specs.Planned.{actors_in}
use Rattle.mb_causal_order.specs.Merged.{IsMerged}
use Rattle.mb_causal_order.specs.Places.{is_of, journal_of, entries_placed}
use Rattle.mb_causal_order.specs.declared.place.Place.{Place}
use Rattle.mb_journal.specs.Entry.{Entry}
use Rattle.mb_journal.specs.Identity.{Identity}
use Rattle.mb_report.specs.declared.report.ActorReport.{ActorReport}
use Rattle.mb_script.specs.Script.{Scripted}
use Rattle.mb_trace.specs.Actors.{who_in}
use Rattle.mb_trace.specs.Coverage.{CoverJournals}
use Rattle.mb_trace.specs.Steps.{Step, script_in, steps_from, steps_in}
use Rattle.mb_trace.specs.Text.{entries_in, joined, journal_parts, of_actor, steps_at, turn_parts}
use Rattle.mb_trace.specs.declared.trace.Trace.{Trace}
use Rattle.mb_trace.specs.declared.trace.TurnLength.{TurnLength}
use Rattle.mb_trace.proofs.Covered.{has_of}
use Rattle.mb_trace.proofs.Left.{steps-past}
use Rattle.mb_trace.proofs.OrderLines.{placed-more}
use Rattle.mb_trace.proofs.Stepped.{length-steps}

-- some, and some more behind them
both-taken : (m n before : ℕ) (xs : List Step) → take m (drop before xs) ++ take n (drop (before + m) xs) ≡ take (m + n) (drop before xs)
both-taken m n before xs =
    let ys = drop before xs in
    ap (λ (l : List Step). take m ys ++ take n l) (sym (drop-drop m before xs))
    ∙ (ap (λ (l : List Step). take m ys ++ l) (sym (drop-take m n ys))
    ∙ (ap (λ (l : List Step). l ++ drop m (take (m + n) ys)) (sym (take-take m (m + n) ys (omega arith)))
    ∙ take-append-drop m (take (m + n) ys)))

-- ---- turn by turn

-- the turns of an actor have the entries that follow those of its earlier turns
turns-joined : (steps : ℕ → List Step) (a : ℕ) (earlier turns : List TurnLength) →
    joined a (turn_parts steps earlier turns) ≡ take (entries_in a turns) (drop (entries_in a earlier) (steps a))
turns-joined steps a earlier [] = refl
turns-joined steps a earlier (t ∷ turns) =
    by_number (joined a (turn_parts steps (earlier ++ t ∷ []) turns)) (turns-joined steps a (earlier ++ t ∷ []) turns) (a == t.actor.0) refl
  where
    part : ℕ → List Step
    part n = take t.entries (drop (entries_in n earlier) (steps n))

    by_number : (rest : List Step) → rest ≡ take (entries_in a turns) (drop (entries_in a (earlier ++ t ∷ [])) (steps a)) →
        (b : Bool) → (a == t.actor.0) ≡ b →
        (if b then part t.actor.0 else []) ++ rest ≡ take (entries_in a (t ∷ turns)) (drop (entries_in a earlier) (steps a))
    by_number rest later true same =
        let own : has_of a t ≡ t.entries = ap (λ (b : Bool). if b then t.entries else 0) same in
        let before : entries_in a (earlier ++ t ∷ []) ≡ entries_in a earlier + t.entries = sum_by_push (has_of a) earlier t ∙ ap (λ n. entries_in a earlier + n) own in
        let all : entries_in a (t ∷ turns) ≡ t.entries + entries_in a turns = sum_by-cons (has_of a) t turns ∙ ap (λ n. n + entries_in a turns) own in
        ap (λ n. part n ++ rest) (sym (eqb-true a t.actor.0 same))
        ∙ (ap (λ l. part a ++ l) (later ∙ ap (λ n. take (entries_in a turns) (drop n (steps a))) before)
        ∙ (both-taken t.entries (entries_in a turns) (entries_in a earlier) (steps a) ∙ ap (λ n. take n (drop (entries_in a earlier) (steps a))) (sym all)))
    by_number rest later false other =
        let own : has_of a t ≡ 0 = ap (λ (b : Bool). if b then t.entries else 0) other in
        let before : entries_in a (earlier ++ t ∷ []) ≡ entries_in a earlier = let more = sum_by_push (has_of a) earlier t in omega (arith, more, own) in
        let all : entries_in a (t ∷ turns) ≡ entries_in a turns = let more = sum_by-cons (has_of a) t turns in omega (arith, more, own) in
        later ∙ (λ i. take (sym all i) (drop (before i) (steps a)))

-- where the turns cover the journals
pub turns-all : (trace : Trace) (turns : List TurnLength) → CoverJournals turns trace.report.now.actors.items →
    (a : ℕ) → joined a (turn_parts (steps_in trace) [] turns) ≡ steps_in trace a
turns-all trace turns cover a =
    let journal = journal_of trace.report.now.actors.items a in
    let many : length (steps_in trace a) ≡ length journal = length-steps a (who_in trace.plan.now a) (script_in trace.scripts.now a) journal in
    let all = cover.all a in
    turns-joined (steps_in trace) a [] turns ∙ take_all (entries_in a turns) (steps_in trace a) (omega (arith, many, all))

-- ---- actor by actor

journals-none : (steps : ℕ → List Step) (a number : ℕ) (actors : List ActorReport) → (a < number) ⊎ (number + length actors ≤ a) →
    joined a (journal_parts steps number actors) ≡ []
journals-none steps a number [] out = refl
journals-none steps a number (r ∷ actors) out =
    let other : (a == number) ≡ false = ne_eqb a number (λ same. apart same out) in
    ap (λ (b : Bool). (if b then steps number else []) ++ joined a (journal_parts steps (number + 1) actors)) other
    ∙ journals-none steps a (number + 1) actors (next out)
  where
    apart : a ≡ number → (a < number) ⊎ (number + length (r ∷ actors) ≤ a) → ⊥
    apart same (inl less) = omega (arith, same, less)
    apart same (inr more) = omega (arith, same, more)

    next : (a < number) ⊎ (number + length (r ∷ actors) ≤ a) → (a < number + 1) ⊎ (number + 1 + length actors ≤ a)
    next (inl less) = inl (omega (arith, less))
    next (inr more) = inr (omega (arith, more))

journals-joined : (steps : ℕ → List Step) (a number : ℕ) (actors : List ActorReport) → number ≤ a → a < number + length actors →
    joined a (journal_parts steps number actors) ≡ steps a
journals-joined steps a number [] least most = absurd (omega (arith, least, most))
journals-joined steps a number (r ∷ actors) least most =
    by_number (λ behind. journals-joined steps a (number + 1) actors behind (omega (arith, most))) (a == number) refl
  where
    rest : List Step
    rest = joined a (journal_parts steps (number + 1) actors)

    by_number : (number + 1 ≤ a → rest ≡ steps a) → (b : Bool) → (a == number) ≡ b → (if b then steps number else []) ++ rest ≡ steps a
    by_number later true same =
        let here : a ≡ number = eqb-true a number same in
        ap (λ l. steps number ++ l) (journals-none steps a (number + 1) actors (inl (omega (arith, here))))
        ∙ (append-nil (steps number) ∙ ap steps (sym here))
    by_number later false other =
        let apart = eqb-false a number other in later (omega (arith, least, apart))

pub journals-all : (trace : Trace) (a : ℕ) → joined a (journal_parts (steps_in trace) 0 trace.report.now.actors.items) ≡ steps_in trace a
journals-all trace a = by_place (cases_lt a (length actors))
  where
    actors : List ActorReport
    actors = trace.report.now.actors.items

    by_place : (a < length actors) ⊎ (length actors ≤ a) → joined a (journal_parts (steps_in trace) 0 actors) ≡ steps_in trace a
    by_place (inl inside) = journals-joined (steps_in trace) a 0 actors (omega arith) (omega (arith, inside))
    by_place (inr past) = journals-none (steps_in trace) a 0 actors (inr (omega (arith, past))) ∙ sym (steps-past trace a past)

-- ---- in one order

-- the steps of an actor's journal are its own
own-from : (actor : ℕ) (who : Identity) (script : Option Scripted) (before entries : List Entry) →
    All (λ (s : Step). s.actor ≡ actor) (steps_from actor who script before entries)
own-from actor who script before [] = All-nil (λ (s : Step). s.actor ≡ actor)
own-from actor who script before (e ∷ entries) =
    All-cons (λ (s : Step). s.actor ≡ actor) _ (steps_from actor who script (e ∷ before) entries) refl (own-from actor who script (e ∷ before) entries)

-- the step at a place, which is the actor's own
at-own : (a n : ℕ) (xs : List Step) → All (λ (s : Step). s.actor ≡ a) xs → of_actor a (option_to_list (slice_get xs n)) ≡ take 1 (drop n xs)
at-own a zero [] own = refl
at-own a (suc n) [] own = refl
at-own a zero (x ∷ xs) own =
    ap (λ (b : Bool). cond b (x ∷ []) []) (eq-eqb x.actor a (All-head (λ (s : Step). s.actor ≡ a) x xs own))
at-own a (suc n) (x ∷ xs) own = at-own a n xs (All-tail (λ (s : Step). s.actor ≡ a) x xs own)

-- that of another
at-other : (a b n : ℕ) (xs : List Step) → (b == a) ≡ false → All (λ (s : Step). s.actor ≡ b) xs → of_actor a (option_to_list (slice_get xs n)) ≡ []
at-other a b zero [] other own = refl
at-other a b (suc n) [] other own = refl
at-other a b zero (x ∷ xs) other own =
    let is : (x.actor == a) ≡ false = ap (λ m. m == a) (All-head (λ (s : Step). s.actor ≡ b) x xs own) ∙ other in
    ap (λ (c : Bool). cond c (x ∷ []) []) is
at-other a b (suc n) (x ∷ xs) other own = at-other a b n xs other (All-tail (λ (s : Step). s.actor ≡ b) x xs own)

-- the places of an actor have the entries that follow those of its places before
places-joined : (steps : ℕ → List Step) → ((a : ℕ) → All (λ (s : Step). s.actor ≡ a) (steps a)) → (a : ℕ) (before places : List Place) →
    of_actor a (steps_at steps before places) ≡ take (entries_placed a places) (drop (entries_placed a before) (steps a))
places-joined steps own a before [] = refl
places-joined steps own a before (p ∷ places) =
    filter-append (λ (s : Step). s.actor == a) here (steps_at steps (p ∷ before) places)
    ∙ by_number (places-joined steps own a (p ∷ before) places) (p.actor == a) refl
  where
    here : List Step
    here = option_to_list (slice_get (steps p.actor) (entries_placed p.actor before))

    by_number : of_actor a (steps_at steps (p ∷ before) places) ≡ take (entries_placed a places) (drop (entries_placed a (p ∷ before)) (steps a)) →
        (b : Bool) → (p.actor == a) ≡ b → of_actor a here ++ of_actor a (steps_at steps (p ∷ before) places)
        ≡ take (entries_placed a (p ∷ places)) (drop (entries_placed a before) (steps a))
    by_number later true same =
        let is : p.actor ≡ a = eqb-true p.actor a same in
        let first : of_actor a here ≡ take 1 (drop (entries_placed a before) (steps a)) =
        ap (λ n. of_actor a (option_to_list (slice_get (steps n) (entries_placed n before)))) is ∙ at-own a (entries_placed a before) (steps a) (own a) in
        let more : entries_placed a (p ∷ before) ≡ entries_placed a before + 1 = placed-more a p before true same in
        let all : entries_placed a (p ∷ places) ≡ 1 + entries_placed a places = let m = placed-more a p places true same in omega (arith, m) in
        (λ i. first i ++ (later ∙ ap (λ n. take (entries_placed a places) (drop n (steps a))) more) i)
        ∙ (both-taken 1 (entries_placed a places) (entries_placed a before) (steps a) ∙ ap (λ n. take n (drop (entries_placed a before) (steps a))) (sym all))
    by_number later false other =
        let more : entries_placed a (p ∷ before) ≡ entries_placed a before = let m = placed-more a p before false other in omega (arith, m) in
        let all : entries_placed a (p ∷ places) ≡ entries_placed a places = let m = placed-more a p places false other in omega (arith, m) in
        (λ i. at-other a p.actor (entries_placed p.actor before) (steps p.actor) other (own p.actor) i ++ later i)
        ∙ (λ i. take (sym all i) (drop (more i) (steps a)))

-- an order has as many places of an actor in either direction
placed-turned : (a : ℕ) (places : List Place) → entries_placed a (reverse places) ≡ entries_placed a places
placed-turned a [] = refl
placed-turned a (p ∷ places) =
    let one = λ (x : Place). cond (is_of a x) 1 0 in
    let turned = ap (entries_placed a) (reverse-append (p ∷ []) places) in
    let pushed = sum_by_push one (reverse places) p in
    let first = sum_by-cons one p places in
    let same = placed-turned a places in
    turned ∙ omega (arith, pushed, first, same)

pub places-all : (trace : Trace) (places : List Place) →
    IsMerged (actors_in trace.plan.now) trace.sends.now trace.report.now.actors.items (reverse places) →
    (a : ℕ) → of_actor a (steps_at (steps_in trace) [] places) ≡ steps_in trace a
places-all trace places merged a =
    let journal = λ (n : ℕ). journal_of trace.report.now.actors.items n in
    let own = λ (n : ℕ). own-from n (who_in trace.plan.now n) (script_in trace.scripts.now n) [] (reverse (journal n)) in
    let many : length (steps_in trace a) ≡ length (journal a) = length-steps a (who_in trace.plan.now a) (script_in trace.scripts.now a) (journal a) in
    let all = merged.all a in
    let turned = placed-turned a places in
    places-joined (steps_in trace) own a [] places ∙ take_all (entries_placed a places) (steps_in trace a) (omega (arith, many, all, turned))
