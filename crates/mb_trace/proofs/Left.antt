-- The steps that are left of each actor.
use Rattle.std.proofs.Common.{◌≡◌, ℕ, zero, suc, ◌+◌, ◌≤◌, ◌<◌, Bool, true, false, List, [], ◌∷◌, length, get_or, set, drop, slice_get, Some, None, refl, ap, sym, subst, ◌∙◌, inl, inr, ◌⊎◌, add-zero, arith}
use Rattle.std.specs.Prelude.{Option, Result, Ok, Err, ◌==◌, if◌then◌else◌, is_some, IfOk, OnErr, OnOk, option_map}
use Rattle.std.proofs.lemmas.Bool.{eqb-true, eqb-false, cases_lt}
use Rattle.std.proofs.lemmas.List.{drop_all, drop-drop, get_or_past, get_or-set_same, get_or-set_other, length-set}
use Rattle.std.proofs.lemmas.Option.{none-some, slice_get-get_or, slice_get_past}
use Rattle.mb_causal_order.specs.Places.{entries_of}
use Rattle.mb_report.specs.declared.report.ActorReport.{ActorReport}
use Rattle.mb_trace.specs.Actors.{who_in}
use Rattle.mb_trace.specs.Cursors.{left_from, left_of}
use Rattle.mb_trace.specs.Steps.{Step, script_in, step_data, steps_in, steps_of}
use Rattle.mb_trace.specs.declared.cursor.JournalCursor.{JournalCursor}
use Rattle.mb_trace.specs.declared.step.TraceStep.{TraceStep}
use Rattle.mb_trace.specs.declared.trace.Trace.{Trace}

length-left : (trace : Trace) (start : ℕ) (cursors : List JournalCursor) → length (left_from trace start cursors) ≡ length cursors
length-left trace start [] = refl
length-left trace start (c ∷ cursors) = ap suc (length-left trace (start + 1) cursors)

left-from : (trace : Trace) (start : ℕ) (cursors : List JournalCursor) (a : ℕ) (d : JournalCursor) → a < length cursors →
    get_or (left_from trace start cursors) a [] ≡ drop (get_or cursors a d).next (steps_in trace (start + a))
left-from trace start [] a d within = absurd (omega (arith, within))
left-from trace start (c ∷ cursors) zero d within = ap (λ n. drop c.next (steps_in trace n)) (sym (add-zero start))
left-from trace start (c ∷ cursors) (suc a) d within =
    let same : start + 1 + a ≡ start + suc a = omega arith in
    left-from trace (start + 1) cursors a d (omega (arith, within)) ∙ ap (λ n. drop (get_or cursors a d).next (steps_in trace n)) same

-- those of an actor are those from its cursor on
pub left-at : (trace : Trace) (cursors : List JournalCursor) (a : ℕ) (d : JournalCursor) → a < length cursors →
    left_of (left_from trace 0 cursors) a ≡ drop (get_or cursors a d).next (steps_in trace a)
left-at trace cursors a d within =
    let same : 0 + a ≡ a = omega arith in
    left-from trace 0 cursors a d within ∙ ap (λ n. drop (get_or cursors a d).next (steps_in trace n)) same

-- a number that no actor has has none
pub left-past : (trace : Trace) (cursors : List JournalCursor) (a : ℕ) → length cursors ≤ a → left_of (left_from trace 0 cursors) a ≡ []
left-past trace cursors a past =
    let same = length-left trace 0 cursors in get_or_past (left_from trace 0 cursors) a [] (omega (arith, same))

pub steps-past : (trace : Trace) (a : ℕ) → length trace.report.now.actors.items ≤ a → steps_in trace a ≡ []
steps-past trace a past =
    ap (λ (o : Option ActorReport). steps_of a (who_in trace.plan.now a) (script_in trace.scripts.now a) (entries_of o))
    (slice_get_past trace.report.now.actors.items a past)

-- at the beginning all are left
all-from : (trace : Trace) (cursors : List JournalCursor) (d : JournalCursor) → length cursors ≡ length trace.report.now.actors.items →
    ((a : ℕ) (c : JournalCursor) → a < length cursors → (get_or cursors a c).next ≡ 0) → (a : ℕ) →
    left_of (left_from trace 0 cursors) a ≡ steps_in trace a
all-from trace cursors d as_many begun a = by_place (cases_lt a (length cursors))
  where
    by_place : (a < length cursors) ⊎ (length cursors ≤ a) → left_of (left_from trace 0 cursors) a ≡ steps_in trace a
    by_place (inl inside) = left-at trace cursors a d inside ∙ ap (λ n. drop n (steps_in trace a)) (begun a d inside)
    by_place (inr past) = left-past trace cursors a past ∙ sym (steps-past trace a (omega (arith, past, as_many)))

pub left-all : (trace : Trace) (cursors : List JournalCursor) → length cursors ≡ length trace.report.now.actors.items →
    ((a : ℕ) (c : JournalCursor) → a < length cursors → (get_or cursors a c).next ≡ 0) → (a : ℕ) →
    left_of (left_from trace 0 cursors) a ≡ steps_in trace a
left-all trace [] as_many begun a = sym (steps-past trace a (omega (arith, as_many)))
left-all trace (c ∷ cursors) as_many begun a = all-from trace (c ∷ cursors) c as_many begun a

-- an actor that is none takes no step
pub none-left : (left : List (List Step)) (n : ℕ) → left_of left n ≡ [] → (a : ℕ) →
    left_of left a ≡ drop (if a == n then 1 else 0) (left_of left a)
none-left left n none a = by_number (a == n) refl
  where
    by_number : (b : Bool) → (a == n) ≡ b → left_of left a ≡ drop (if b then 1 else 0) (left_of left a)
    by_number true same =
        let here : left_of left a ≡ [] = ap (λ m. left_of left m) (eqb-true a n same) ∙ none in
        here ∙ ap (λ (l : List Step). drop 1 l) (sym here)
    by_number false other = refl

pub slice_get-drop : (steps : List Step) (n : ℕ) → slice_get (drop n steps) 0 ≡ slice_get steps n
slice_get-drop [] zero = refl
slice_get-drop [] (suc n) = refl
slice_get-drop (s ∷ steps) zero = refl
slice_get-drop (s ∷ steps) (suc n) = slice_get-drop steps n

-- the step that was found is the first that is left
pub first-left : {E : Type 0} (r : Result (Option TraceStep) E) (steps left : List Step) (n : ℕ) → left ≡ drop n steps →
    IfOk r (λ found. option_map step_data found ≡ slice_get steps n) → IfOk r (λ found. option_map step_data found ≡ slice_get left 0)
first-left (Ok found) steps left n is there = there ∙ (sym (slice_get-drop steps n) ∙ ap (λ (l : List Step). slice_get l 0) (sym is))
first-left (Err e) steps left n is there = tt

abbrev no_steps : List Step
no_steps = []

dropped-none : (k : ℕ) → drop k no_steps ≡ no_steps
dropped-none zero = refl
dropped-none (suc k) = refl

-- a step more is gone past, where there is one
gone-past : (o : Option TraceStep) (steps : List Step) (n m : ℕ) → option_map step_data o ≡ slice_get steps n →
    m ≡ (if is_some o then n + 1 else n) → drop m steps ≡ drop 1 (drop n steps)
gone-past (Some s) steps n m there is = ap (λ k. drop k steps) is ∙ sym (drop-drop 1 n steps)
gone-past None [] n m there is = dropped-none m ∙ ap (λ (l : List Step). drop 1 l) (sym (dropped-none n))
gone-past None (s ∷ steps) n m there is = by_place (cases_lt n (length (s ∷ steps)))
  where
    by_place : (n < length (s ∷ steps)) ⊎ (length (s ∷ steps) ≤ n) → drop m (s ∷ steps) ≡ drop 1 (drop n (s ∷ steps))
    by_place (inl inside) = absurd (none-some (get_or (s ∷ steps) n s) (there ∙ slice_get-get_or (s ∷ steps) n s inside))
    by_place (inr past) =
        ap (λ k. drop k (s ∷ steps)) is
        ∙ (drop_all n (s ∷ steps) past ∙ ap (λ (l : List Step). drop 1 l) (sym (drop_all n (s ∷ steps) past)))

-- with the cursor of an actor at another place, the others are left as they were
moved : (trace : Trace) (cursors : List JournalCursor) (n : ℕ) (old new : JournalCursor) (k : ℕ) → n < length cursors →
    old ≡ get_or cursors n old → drop new.next (steps_in trace n) ≡ drop k (drop old.next (steps_in trace n)) → (a : ℕ) →
    left_of (left_from trace 0 (set cursors n new)) a ≡ drop (if a == n then k else 0) (left_of (left_from trace 0 cursors) a)
moved trace cursors n old new k within is on a = by_number (a == n) refl
  where
    here : left_of (left_from trace 0 (set cursors n new)) n ≡ drop k (left_of (left_from trace 0 cursors) n)
    here =
        left-at trace (set cursors n new) n old (let same = length-set cursors n new in omega (arith, within, same))
        ∙ (ap (λ (c : JournalCursor). drop c.next (steps_in trace n)) (get_or-set_same cursors n new old within)
        ∙ (on
        ∙ ap (λ (l : List Step). drop k l) (ap (λ (c : JournalCursor). drop c.next (steps_in trace n)) is
        ∙ sym (left-at trace cursors n old within))))

    elsewhere : (a == n) ≡ false → (a < length cursors) ⊎ (length cursors ≤ a) →
        left_of (left_from trace 0 (set cursors n new)) a ≡ left_of (left_from trace 0 cursors) a
    elsewhere other (inl inside) =
        left-at trace (set cursors n new) a old (let same = length-set cursors n new in omega (arith, inside, same))
        ∙ (ap (λ (c : JournalCursor). drop c.next (steps_in trace a)) (get_or-set_other cursors n a new old (eqb-false a n other))
        ∙ sym (left-at trace cursors a old inside))
    elsewhere other (inr past) =
        left-past trace (set cursors n new) a (let same = length-set cursors n new in omega (arith, past, same))
        ∙ sym (left-past trace cursors a past)

    by_number : (b : Bool) → (a == n) ≡ b →
        left_of (left_from trace 0 (set cursors n new)) a ≡ drop (if b then k else 0) (left_of (left_from trace 0 cursors) a)
    by_number true same =
        subst (λ (m : ℕ). left_of (left_from trace 0 (set cursors n new)) m ≡ drop k (left_of (left_from trace 0 cursors) m))
        (sym (eqb-true a n same)) here
    by_number false other = elsewhere other (cases_lt a (length cursors))

-- what is left after a call that went past a step
pub left-next : {E : Type 0} (r : Result (Option TraceStep) E) (trace : Trace) (cursors : List JournalCursor) (n : ℕ) (old new : JournalCursor) →
    n < length cursors → old ≡ get_or cursors n old →
    IfOk r (λ found. option_map step_data found ≡ slice_get (steps_in trace n) old.next) →
    IfOk r (λ found. new.next ≡ (if is_some found then old.next + 1 else old.next)) →
    OnOk r ((a : ℕ) → left_of (left_from trace 0 (set cursors n new)) a ≡ drop (if a == n then 1 else 0) (left_of (left_from trace 0 cursors) a))
left-next (Ok found) trace cursors n old new within is there next =
    moved trace cursors n old new 1 within is (gone-past found (steps_in trace n) old.next new.next there next)
left-next (Err e) trace cursors n old new within is there next = tt

-- and after one that failed
pub left-kept : {T E : Type 0} (r : Result T E) (trace : Trace) (cursors : List JournalCursor) (n : ℕ) (old new : JournalCursor) →
    n < length cursors → old ≡ get_or cursors n old → OnErr r (new.next ≡ old.next) →
    OnErr r ((a : ℕ) → left_of (left_from trace 0 (set cursors n new)) a ≡ left_of (left_from trace 0 cursors) a)
left-kept (Ok found) trace cursors n old new within is same = tt
left-kept (Err e) trace cursors n old new within is same = λ a.
    moved trace cursors n old new 0 within is (ap (λ k. drop k (steps_in trace n)) same) a ∙ nothing (a == n) (left_of (left_from trace 0 cursors) a)
  where
    nothing : (b : Bool) (l : List Step) → drop (if b then 0 else 0) l ≡ l
    nothing true l = refl
    nothing false l = refl
