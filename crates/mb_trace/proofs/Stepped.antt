-- The step at a place of a journal.
use Rattle.std.proofs.Common.{◌≡◌, ℕ, zero, suc, List, [], ◌∷◌, ◌++◌, length, reverse, take, slice_get, Some, refl, ap, sym, ◌∙◌, append_assoc}
use Rattle.std.specs.Prelude.{Option}
use Rattle.std.proofs.lemmas.List.{append-nil, reverse-append, length-reverse}
use Rattle.std.proofs.lemmas.Option.{none-some, same_Some}
use Rattle.mb_causal_order.specs.Places.{earliest}
use Rattle.mb_journal.specs.Entry.{Entry}
use Rattle.mb_journal.specs.Identity.{Identity}
use Rattle.mb_script.specs.Script.{Scripted}
use Rattle.mb_trace.specs.Steps.{step_after, steps_from, steps_of}

-- a list turned round, with its first before the rest
turned : (x : Entry) (es before : List Entry) → reverse es ++ x ∷ before ≡ reverse (x ∷ es) ++ before
turned x es before =
    sym (ap (λ (l : List Entry). l ++ before) (reverse-append (x ∷ []) es) ∙ append_assoc (reverse es) (x ∷ []) before)

step-from : (actor : ℕ) (who : Identity) (script : Option Scripted) (before entries : List Entry) (n : ℕ) (e : Entry) →
    slice_get entries n ≡ Some e →
    slice_get (steps_from actor who script before entries) n ≡ Some (step_after actor who script (reverse (take n entries) ++ before) e)
step-from actor who script before [] n e found = absurd (none-some e found)
step-from actor who script before (x ∷ entries) zero e found = ap (λ (y : Entry). Some (step_after actor who script before y)) (same_Some x e found)
step-from actor who script before (x ∷ entries) (suc n) e found =
    step-from actor who script (x ∷ before) entries n e found
    ∙ ap (λ (l : List Entry). Some (step_after actor who script l e)) (turned x (take n entries) before)

-- the step at the place of an entry
pub step-at : (actor : ℕ) (who : Identity) (script : Option Scripted) (journal : List Entry) (n : ℕ) (e : Entry) →
    slice_get (reverse journal) n ≡ Some e →
    slice_get (steps_of actor who script journal) n ≡ Some (step_after actor who script (earliest n journal) e)
step-at actor who script journal n e found =
    step-from actor who script [] (reverse journal) n e found
    ∙ ap (λ (l : List Entry). Some (step_after actor who script l e)) (append-nil (earliest n journal))

pub length-steps_from : (actor : ℕ) (who : Identity) (script : Option Scripted) (before entries : List Entry) →
    length (steps_from actor who script before entries) ≡ length entries
length-steps_from actor who script before [] = refl
length-steps_from actor who script before (x ∷ entries) = ap suc (length-steps_from actor who script (x ∷ before) entries)

-- a journal has a step for each entry
pub length-steps : (actor : ℕ) (who : Identity) (script : Option Scripted) (journal : List Entry) →
    length (steps_of actor who script journal) ≡ length journal
length-steps actor who script journal = length-steps_from actor who script [] (reverse journal) ∙ length-reverse journal
