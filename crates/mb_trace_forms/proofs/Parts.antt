-- The entries of parts, of one part more.
use Rattle.std.proofs.Common.{◌≡◌, ℕ, ◌+◌, ◌-◌, ◌++◌, ◌<◌, List, [], ◌∷◌, length, take, drop, get_or, ap, append_assoc, sym, ◌∙◌}
use Rattle.std.specs.Prelude.{filter}
use Rattle.std.proofs.lemmas.List.{append-nil, take-append-drop, take_more}
use Rattle.mb_trace.specs.Steps.{Step, steps_in}
use Rattle.mb_trace.specs.Text.{entries_in, is_shown, turn_parts}
use Rattle.mb_trace.specs.declared.filter.Filter.{Filter}
use Rattle.mb_trace.specs.declared.trace.Trace.{Trace}
use Rattle.mb_trace.specs.declared.trace.TurnLength.{TurnLength}
use Rattle.mb_trace_forms.specs.Json.{entries_json}
use Rattle.mb_trace_forms.specs.Order.{all_steps, part_steps}
use Rattle.mb_trace_forms.proofs.Lines.{lines-append}

parts-append : (steps : ℕ → List Step) (earlier xs ys : List TurnLength) →
    all_steps (turn_parts steps earlier (xs ++ ys)) ≡ all_steps (turn_parts steps earlier xs) ++ all_steps (turn_parts steps (earlier ++ xs) ys)
parts-append steps earlier [] ys = ap (λ e. all_steps (turn_parts steps e ys)) (sym (append-nil earlier))
parts-append steps earlier (t ∷ xs) ys =
    let piece : List Step = take t.entries (drop (entries_in t.actor.0 earlier) (steps t.actor.0)) in
    let inner : List Step = all_steps (turn_parts steps (earlier ++ t ∷ []) xs) in
    ap (λ l. piece ++ l) (parts-append steps (earlier ++ t ∷ []) xs ys)
    ∙ (ap (λ e. piece ++ (inner ++ all_steps (turn_parts steps e ys))) (append_assoc earlier (t ∷ []) xs)
    ∙ sym (append_assoc piece inner (all_steps (turn_parts steps (earlier ++ t ∷ xs) ys))))

module _ (trace : Trace) (parts : List TurnLength) (i : ℕ) where
  abbrev so_far : List Step
  so_far = part_steps trace (take i parts)

  -- the entries of the part at this place
  pub steps-more : (d : TurnLength) → i < length parts →
      (let t : TurnLength = get_or parts i d in
      part_steps trace (take (i + 1) parts)
      ≡ so_far ++ take t.entries (drop (entries_in t.actor.0 (take i parts)) (steps_in trace t.actor.0)))
  steps-more d within =
      let t : TurnLength = get_or parts i d in
      let piece : List Step = take t.entries (drop (entries_in t.actor.0 (take i parts)) (steps_in trace t.actor.0)) in
      ap (part_steps trace) (take_more parts i d within)
      ∙ (parts-append (steps_in trace) [] (take i parts) (t ∷ []) ∙ ap (λ l. so_far ++ l) (append-nil piece))

  -- the lines of all parts are those so far and the others
  pub lines-rest : (names : List (List ℕ)) (f : Filter) (limit : ℕ) →
      entries_json names f limit (part_steps trace parts)
      ≡ entries_json names f limit so_far
      ++ entries_json names f (limit - length (filter (is_shown f) so_far)) (all_steps (turn_parts (steps_in trace) (take i parts) (drop i parts)))
  lines-rest names f limit =
      ap (λ l. entries_json names f limit (part_steps trace l)) (sym (take-append-drop i parts))
      ∙ (ap (λ (l : List Step). entries_json names f limit l) (parts-append (steps_in trace) [] (take i parts) (drop i parts))
      ∙ lines-append names f limit so_far (all_steps (turn_parts (steps_in trace) (take i parts) (drop i parts))))
