-- The lines of entries that are shown, of some entries behind others.
use Rattle.std.proofs.Common.{◌≡◌, ℕ, zero, suc, ◌+◌, ◌-◌, ◌++◌, List, [], ◌∷◌, length, take, drop, refl, ap, sym, ◌∙◌, arith}
use Rattle.std.specs.Prelude.{filter}
use Rattle.std.specs.List.{flat_map}
use Rattle.std.proofs.lemmas.Grind.{flat_map-append}
use Rattle.std.proofs.lemmas.List.{length-append, take-append-drop, take-take, drop-take}
use Rattle.std.proofs.lemmas.List.Elements.{filter-append}
use Rattle.mb_trace.specs.Steps.{Step}
use Rattle.mb_trace.specs.Text.{is_shown}
use Rattle.mb_trace.specs.declared.filter.Filter.{Filter}
use Rattle.mb_trace_forms.specs.Json.{entries_json, step_json}

take-append : {X : Type 0} (n : ℕ) (xs ys : List X) → take n (xs ++ ys) ≡ take n xs ++ take (n - length xs) ys
take-append zero xs ys =
    let none : 0 - length xs ≡ 0 = omega arith in ap (λ m. take m ys) (sym none)
take-append (suc n) [] ys =
    let all : suc n ≡ suc n - 0 = omega arith in ap (λ m. take m ys) all
take-append (suc n) (x ∷ xs) ys =
    let fewer : n - length xs ≡ suc n - suc (length xs) = omega arith in
    ap (λ l. x ∷ l) (take-append n xs ys) ∙ ap (λ m. x ∷ take n xs ++ take m ys) fewer

-- no entry has no line
pub lines-none : (names : List (List ℕ)) (f : Filter) (limit : ℕ) → entries_json names f limit [] ≡ []
lines-none names f zero = refl
lines-none names f (suc n) = refl

-- some more
pub taken : {X : Type 0} (i k : ℕ) (xs : List X) → take (i + k) xs ≡ take i xs ++ take k (drop i xs)
taken i k xs =
    sym (take-append-drop i (take (i + k) xs))
    ∙ (ap (λ l. l ++ drop i (take (i + k) xs)) (take-take i (i + k) xs (omega arith)) ∙ ap (λ l. take i xs ++ l) (drop-take i k xs))

-- how many more may be shown behind both
pub left-append : (f : Filter) (limit : ℕ) (xs ys : List Step) →
    limit - length (filter (is_shown f) (xs ++ ys)) ≡ limit - length (filter (is_shown f) xs) - length (filter (is_shown f) ys)
left-append f limit xs ys =
    let same = ap length (filter-append (is_shown f) xs ys) in
    let len = length-append (filter (is_shown f) xs) (filter (is_shown f) ys) in omega (arith, same, len)

-- the lines of both
pub lines-append : (names : List (List ℕ)) (f : Filter) (limit : ℕ) (xs ys : List Step) →
    entries_json names f limit (xs ++ ys)
    ≡ entries_json names f limit xs ++ entries_json names f (limit - length (filter (is_shown f) xs)) ys
lines-append names f limit xs ys =
    let p = is_shown f in
    ap (λ l. flat_map (step_json names) (take limit l)) (filter-append p xs ys)
    ∙ (ap (flat_map (step_json names)) (take-append limit (filter p xs) (filter p ys))
    ∙ flat_map-append (step_json names) (take limit (filter p xs)) (take (limit - length (filter p xs)) (filter p ys)))
