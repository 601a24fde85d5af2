-- What is shown of the next entry.
use Rattle.std.proofs.Common.{◌≡◌, ℕ, zero, suc, ◌-◌, ◌<◌, false, true, cond, List, [], ◌∷◌, length, take, refl, ap, sym, ◌∙◌, arith}
use Rattle.std.specs.Prelude.{Option, filter, option_map, option_to_list, slice_get}
use Rattle.mb_trace.specs.Steps.{Step, step_data}
use Rattle.mb_trace.specs.Text.{is_shown, shown}
use Rattle.mb_trace.specs.declared.filter.Filter.{Filter}
use Rattle.mb_trace.specs.declared.step.TraceStep.{TraceStep}
use Rattle.mb_trace_forms.proofs.OrderSteps.{first-at}

-- the next of these entries is what was found
pub next-is : (xs : List Step) (o x : Option TraceStep) → o ≡ x → option_map step_data o ≡ slice_get xs 0 →
    take 1 xs ≡ option_to_list (option_map step_data x)
next-is xs o x is found =
    first-at 0 xs ∙ (ap (λ y. option_to_list y) (sym found) ∙ ap (λ y. option_to_list (option_map step_data y)) is)

abbrev no_steps : List Step
no_steps = []

none-of : (limit : ℕ) → take limit no_steps ≡ no_steps
none-of zero = refl
none-of (suc n) = refl

module _ (f : Filter) (limit : ℕ) where
  -- of none, none
  pub shows-none : (ys : List Step) → ys ≡ [] → (no_steps ≡ shown f limit ys) × (limit ≡ limit - length (filter (is_shown f) ys))
  shows-none ys none =
      let nothing : limit ≡ limit - 0 = omega arith in (
        sym (none-of limit) ∙ ap (λ (l : List Step). shown f limit l) (sym none),
        nothing ∙ ap (λ (l : List Step). limit - length (filter (is_shown f) l)) (sym none),
      )

  -- none where no more are shown
  pub shows-full : (ys : List Step) → limit ≡ 0 → (no_steps ≡ shown f limit ys) × (limit ≡ limit - length (filter (is_shown f) ys))
  shows-full ys full =
      let still : limit ≡ limit - length (filter (is_shown f) ys) = omega (arith, full) in
      (ap (λ n. take n (filter (is_shown f) ys)) (sym full), still)

  -- not one that the filter leaves out
  pub shows-out : (ys : List Step) (s : Step) → ys ≡ s ∷ [] → is_shown f s ≡ false →
      (no_steps ≡ shown f limit ys) × (limit ≡ limit - length (filter (is_shown f) ys))
  shows-out ys s one out =
      let left : filter (is_shown f) ys ≡ [] = ap (filter (is_shown f)) one ∙ ap (λ b. cond b (s ∷ []) []) out in
      let nothing : limit ≡ limit - 0 = omega arith in (
        sym (none-of limit) ∙ ap (take limit) (sym left),
        nothing ∙ ap (λ (l : List Step). limit - length l) (sym left),
      )

  -- one that it leaves
  pub shows-one : (ys : List Step) (s : Step) → ys ≡ s ∷ [] → is_shown f s ≡ true → 0 < limit →
      (s ∷ [] ≡ shown f limit ys) × (limit - 1 ≡ limit - length (filter (is_shown f) ys))
  shows-one ys s one passes some =
      let kept : filter (is_shown f) ys ≡ s ∷ [] = ap (filter (is_shown f)) one ∙ ap (λ b. cond b (s ∷ []) []) passes in
      let more : suc (limit - 1) ≡ limit = omega (arith, some) in (
        ap (λ l. s ∷ l) (sym (none-of (limit - 1))) ∙ (ap (λ n. take n (s ∷ [])) more ∙ ap (take limit) (sym kept)),
        ap (λ (l : List Step). limit - length l) (sym kept),
      )
