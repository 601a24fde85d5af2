-- A way through the journals that goes past some more entries.
use Rattle.std.proofs.Common.{◌≡◌, ℕ, ◌+◌, ◌-◌, ◌++◌, ◌≤◌, Bool, true, false, List, length, take, drop, refl, ap, sym, ◌∙◌, eq-eqb, arith}
use Rattle.std.specs.Prelude.{◌==◌, filter, if◌then◌else◌}
use Rattle.std.proofs.lemmas.List.{take-append-drop, take-take}
use Rattle.mb_trace.specs.Cursors.{left_of}
use Rattle.mb_trace.specs.Steps.{Step}
use Rattle.mb_trace.specs.Text.{is_shown}
use Rattle.mb_trace.specs.declared.filter.Filter.{Filter}
use Rattle.mb_trace.proofs.PartLines.{left-more}
use Rattle.mb_trace_forms.specs.Json.{entries_json}
use Rattle.mb_trace_forms.specs.Way.{GoesPast}
use Rattle.mb_trace_forms.specs.declared.shown.Shown.{Shown}
use Rattle.mb_trace_forms.proofs.Lines.{left-append, lines-append, taken}

-- past none
pub past-none : (actor : ℕ) (s : Shown) → GoesPast actor 0 s s
past-none actor s = record { steps = λ a. none (a == actor) (left_of s.steps a); left = omega arith; same_filter = refl }
  where
    none : (b : Bool) (xs : List Step) → xs ≡ drop (if b then 0 else 0) xs
    none true xs = refl
    none false xs = refl

module _ (actor i : ℕ) (first mid : Shown) (past : GoesPast actor i first mid) where
  abbrev all : List Step
  all = left_of first.steps actor

  own : left_of mid.steps actor ≡ drop i all
  own = past.steps actor ∙ ap (λ b. drop (if b then i else 0) all) (eq-eqb actor actor refl)

  -- one more
  pub past-more : (last : Shown) → GoesPast actor 1 mid last → GoesPast actor (i + 1) first last
  past-more last next = record {
    steps = λ a. left-more (a == actor) i _ _ _ (past.steps a) (next.steps a);
    left =
        next.left
        ∙ ((λ j. past.left j - length (filter (is_shown (past.same_filter j)) (take 1 (own j))))
        ∙ (sym (left-append first.filter first.left (take i all) (take 1 (drop i all)))
        ∙ ap (λ (l : List Step). first.left - length (filter (is_shown first.filter) l)) (sym (taken i 1 all))));
    same_filter = next.same_filter ∙ past.same_filter;
  }

  -- the lines with those of the next
  pub lines-more : (names : List (List ℕ)) →
      entries_json names first.filter first.left (take i all) ++ entries_json names mid.filter mid.left (take 1 (left_of mid.steps actor))
      ≡ entries_json names first.filter first.left (take (i + 1) all)
  lines-more names =
      let before = entries_json names first.filter first.left (take i all) in
      (λ j. before ++ entries_json names (past.same_filter j) (past.left j) (take 1 (own j)))
      ∙ (sym (lines-append names first.filter first.left (take i all) (take 1 (drop i all)))
      ∙ ap (λ l. entries_json names first.filter first.left l) (sym (taken i 1 all)))

-- the lines of fewer entries are a beginning
pub lines-begin : (names : List (List ℕ)) (f : Filter) (limit : ℕ) (xs : List Step) (i n : ℕ) → i ≤ n →
    entries_json names f limit (take n xs)
    ≡ entries_json names f limit (take i xs)
    ++ entries_json names f (limit - length (filter (is_shown f) (take i xs))) (drop i (take n xs))
lines-begin names f limit xs i n le =
    ap (λ (l : List Step). entries_json names f limit l)
    (sym (take-append-drop i (take n xs)) ∙ ap (λ l. l ++ drop i (take n xs)) (take-take i n xs le))
    ∙ lines-append names f limit (take i xs) (drop i (take n xs))
