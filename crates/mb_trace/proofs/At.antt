-- Cursors at places of journals, one of them moved on.
use Rattle.std.proofs.Common.{◌≡◌, ℕ, ◌+◌, ◌<◌, ◌≤◌, Bool, true, false, List, [], ◌∷◌, ◌++◌, length, get_or, set, slice_get, take, refl, ap, sym, subst, ◌∙◌, inl, inr, ◌⊎◌, arith}
use Rattle.std.specs.Prelude.{Option, Result, ◌==◌, IfOk, option_map}
use Rattle.std.proofs.lemmas.Bool.{eqb-true, eqb-false, cases_lt}
use Rattle.std.proofs.lemmas.List.{get_or-set_same, get_or-set_other, get_or_append_left, get_or_push, length-set, take_all}
use Rattle.std.proofs.lemmas.Option.{slice_get_read}
use Rattle.mb_msg.specs.declared.id.ActorId.{ActorId}
use Rattle.mb_causal_order.specs.Places.{entries_of, journal_of}
use Rattle.mb_journal.specs.Entry.{Entry}
use Rattle.mb_report.specs.declared.report.ActorReport.{ActorReport}
use Rattle.mb_script.specs.Script.{Scripted}
use Rattle.mb_trace.specs.Actors.{who_in}
use Rattle.mb_trace.specs.Cursors.{AreAt, IsAt}
use Rattle.mb_trace.specs.Steps.{Step, script_in, step_data, steps_in, steps_of}
use Rattle.mb_trace.proofs.Stepped.{length-steps}
use Rattle.mb_trace.specs.declared.cursor.JournalCursor.{JournalCursor}
use Rattle.mb_trace.specs.declared.step.TraceStep.{TraceStep}
use Rattle.mb_trace.specs.declared.trace.Trace.{Trace}

-- the journal of an actor is that of its report
pub journal-at : (actors : List ActorReport) (a : ℕ) (r : ActorReport) → a < length actors → r ≡ get_or actors a r →
    journal_of actors a ≡ r.journal.entries
journal-at actors a r within is = ap entries_of (slice_get_read actors (length actors) a r refl within is)

-- the cursor of the actor of this number is at a place of its journal
abbrev pub IsIn : Trace → ℕ → JournalCursor → Type 0
IsIn trace a c = IsAt (who_in trace.plan.now a) (script_in trace.scripts.now a) (journal_of trace.report.now.actors.items a) c

-- the same by the script and the entries that the code has
pub at-own : (trace : Trace) (a : ℕ) (script : Option Scripted) (entries : List Entry) (c : JournalCursor) → script ≡ script_in trace.scripts.now a →
    journal_of trace.report.now.actors.items a ≡ entries → IsIn trace a c → IsAt (who_in trace.plan.now a) script entries c
at-own trace a script entries c is_script is_journal at =
    subst (λ (x : Option Scripted). IsAt (who_in trace.plan.now a) x entries c) (sym is_script)
    (subst (λ (j : List Entry). IsAt (who_in trace.plan.now a) (script_in trace.scripts.now a) j c) is_journal at)

pub at-all : (trace : Trace) (a : ℕ) (script : Option Scripted) (entries : List Entry) (c : JournalCursor) → script ≡ script_in trace.scripts.now a →
    journal_of trace.report.now.actors.items a ≡ entries → IsAt (who_in trace.plan.now a) script entries c → IsIn trace a c
at-all trace a script entries c is_script is_journal at =
    subst (λ (j : List Entry). IsAt (who_in trace.plan.now a) (script_in trace.scripts.now a) j c) (sym is_journal)
    (subst (λ (x : Option Scripted). IsAt (who_in trace.plan.now a) x entries c) is_script at)

-- what was found is a step of the actor
pub found-in : {E : Type 0} (r : Result (Option TraceStep) E) (trace : Trace) (a n : ℕ) (script : Option Scripted) (entries : List Entry) →
    script ≡ script_in trace.scripts.now a → journal_of trace.report.now.actors.items a ≡ entries →
    IfOk r (λ found. option_map step_data found ≡ slice_get (steps_of a (who_in trace.plan.now a) script entries) n) →
    IfOk r (λ found. option_map step_data found ≡ slice_get (steps_in trace a) n)
found-in r trace a n script entries is_script is_journal found =
    let P : List Step → Type 0 = λ steps. IfOk r (λ found. option_map step_data found ≡ slice_get steps n) in
    subst P (λ i. steps_of a (who_in trace.plan.now a) (is_script i) (sym is_journal i)) found

-- the cursor of one actor is moved on
pub are-moved : (trace : Trace) (prepared : List ActorId) (cursors : List JournalCursor) (n : ℕ) (new : JournalCursor) →
    AreAt trace prepared cursors → n < length cursors → IsIn trace n new → AreAt trace prepared (set cursors n new)
are-moved trace prepared cursors n new are within at = record {
  prepared_are = are.prepared_are;
  as_many = length-set cursors n new ∙ are.as_many;
  each = λ a c inside. by_number a c (let same = length-set cursors n new in omega (arith, inside, same)) (a == n) refl;
}
  where
    by_number : (a : ℕ) (c : JournalCursor) → a < length cursors → (b : Bool) → (a == n) ≡ b → IsIn trace a (get_or (set cursors n new) a c)
    by_number a c inside true same =
        subst (λ (m : ℕ). IsIn trace m (get_or (set cursors n new) m c)) (sym (eqb-true a n same))
        (subst (λ (x : JournalCursor). IsIn trace n x) (sym (get_or-set_same cursors n new c within)) at)
    by_number a c inside false other =
        subst (λ (x : JournalCursor). IsIn trace a x) (sym (get_or-set_other cursors n a new c (eqb-false a n other))) (are.each a c inside)

-- one cursor more, at the beginning of its journal
pub more-at : (trace : Trace) (cursors : List JournalCursor) (n : ℕ) (new : JournalCursor) → length cursors ≡ n →
    ((a : ℕ) (c : JournalCursor) → a < n → IsIn trace a (get_or cursors a c)) → IsIn trace n new →
    (a : ℕ) (c : JournalCursor) → a < n + 1 → IsIn trace a (get_or (cursors ++ new ∷ []) a c)
more-at trace cursors n new as_many each at a c within = by_place (cases_lt a n)
  where
    by_place : (a < n) ⊎ (n ≤ a) → IsIn trace a (get_or (cursors ++ new ∷ []) a c)
    by_place (inl inside) =
        subst (λ (x : JournalCursor). IsIn trace a x) (sym (get_or_append_left cursors (new ∷ []) c a (omega (arith, inside, as_many)))) (each a c inside)
    by_place (inr last) =
        let here : length cursors ≡ a = omega (arith, as_many, last, within) in
        let same : n ≡ a = omega (arith, last, within) in
        subst (λ (x : JournalCursor). IsIn trace a x) (sym (get_or_push cursors new c a here)) (subst (λ (m : ℕ). IsIn trace m new) same at)

pub more-begun : (cursors : List JournalCursor) (n : ℕ) (new : JournalCursor) → length cursors ≡ n → new.next ≡ 0 →
    ((a : ℕ) (c : JournalCursor) → a < n → (get_or cursors a c).next ≡ 0) →
    (a : ℕ) (c : JournalCursor) → a < n + 1 → (get_or (cursors ++ new ∷ []) a c).next ≡ 0
more-begun cursors n new as_many zero begun a c within = by_place (cases_lt a n)
  where
    by_place : (a < n) ⊎ (n ≤ a) → (get_or (cursors ++ new ∷ []) a c).next ≡ 0
    by_place (inl inside) =
        ap (λ (x : JournalCursor). x.next) (get_or_append_left cursors (new ∷ []) c a (omega (arith, inside, as_many))) ∙ begun a c inside
    by_place (inr last) =
        ap (λ (x : JournalCursor). x.next) (get_or_push cursors new c a (omega (arith, as_many, last, within))) ∙ zero

-- a part of as many entries as the journal has is all of its steps
pub journal-all : (trace : Trace) (actors : List ActorReport) (i number n : ℕ) (r : ActorReport) → trace.report.now.actors.items ≡ actors →
    number ≡ i → i < length actors → r ≡ get_or actors i r → n ≡ length r.journal.entries → (left : List Step) → left ≡ steps_in trace number →
    take n left ≡ steps_in trace number
journal-all trace actors i number n r are same within is_r is_n left is =
    let all = trace.report.now.actors.items in
    let inside : number < length all = (let len = ap length are in omega (arith, len, same, within)) in
    let read : r ≡ get_or all number r = is_r ∙ (λ j. get_or (sym are j) (sym same j) r) in
    let length_is : length (steps_in trace number) ≡ length (journal_of all number) =
    length-steps number (who_in trace.plan.now number) (script_in trace.scripts.now number) (journal_of all number) in
    let entries : length (journal_of all number) ≡ n = ap length (journal-at all number r inside read) ∙ sym is_n in
    ap (λ (l : List Step). take n l) is ∙ take_all n (steps_in trace number) (omega (arith, length_is, entries))
