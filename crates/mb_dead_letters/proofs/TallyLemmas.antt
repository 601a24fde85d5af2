-- One more letter is counted.
use Rattle.std.proofs.Common.{◌≡◌, ℕ, ◌+◌, ◌^◌, ◌<◌, ◌≤◌, ◌==◌, ltb, Bool, true, false, List, [], ◌∷◌, ◌++◌, cond, length, count_by, slice_index, slice_set, refl, sym, ap, subst, ◌∙◌, arith}
use Rattle.std.proofs.lemmas.Bool.{ltb-true, ltb-false}
use Rattle.std.proofs.lemmas.Bool.Decides.{nat_tests}
use Rattle.std.proofs.lemmas.List.{get_or-set_same, get_or-set_other, length-set, length_push}
use Rattle.std.proofs.lemmas.List.Sums.{count_by-le-length, sum_by_push}
use Rattle.mb_msg.specs.declared.dead_letter.DeadLetter.{DeadLetter}
use Rattle.mb_dead_letters.specs.Tally.{Counts, counted_at}

-- a count fits where the number of all letters does
pub count-fits : (is_at : ℕ → DeadLetter → Bool) (many : ℕ) (counts : List ℕ) (letters : List DeadLetter) (place most : ℕ) → Counts is_at many counts letters
    → length letters < most → place < length counts → slice_index counts place < most
count-fits is_at many counts letters place most are few lt =
    let is = are.1 place (subst (λ n. place < n) are.0 lt) in let le = count_by-le-length (is_at place) letters in omega (arith, is, le, few)

-- with one letter more they are fewer than 2^64
pub few : (letters : List DeadLetter) (letter : DeadLetter) (more : List DeadLetter) → more ≡ letters ++ letter ∷ [] → length more < 2 ^ 64
    → length letters < 18446744073709551615
few letters letter more is fits = let many = ap length is ∙ length_push letters letter in omega (arith, many, fits)

module _ (is_at : ℕ → DeadLetter → Bool) (letters : List DeadLetter) (letter : DeadLetter) (at : ℕ)
    (keyed : (place : ℕ) → is_at place letter ≡ (at == place)) where
  one-more : (place : ℕ) → count_by (is_at place) (letters ++ letter ∷ []) ≡ count_by (is_at place) letters + cond (at == place) 1 0
  one-more place =
      sum_by_push (λ (x : DeadLetter). cond (is_at place x) 1 0) letters letter
      ∙ ap (λ b. count_by (is_at place) letters + cond b 1 0) (keyed place)

  module _ (many : ℕ) (counts : List ℕ) (are : Counts is_at many counts letters) where
    abbrev more : ℕ
    more = slice_index counts at + 1

    at-place : at < length counts → (place : ℕ) → place < many → (b : Bool) → (at == place) ≡ b
        → slice_index (slice_set counts at more) place ≡ count_by (is_at place) letters + cond b 1 0
    at-place within place lt true same =
        let here : at ≡ place = grind (arith, nat_tests) in
        subst (λ p. slice_index (slice_set counts at more) p ≡ count_by (is_at p) letters + 1) here
        (get_or-set_same counts at more 0 within ∙ ap (λ n. n + 1) (are.1 at (subst (λ n. at < n) are.0 within)))
    at-place within place lt false other =
        let apart : place ≡ at → ⊥ = λ e. absurd (grind (arith, nat_tests)) in
        let done = get_or-set_other counts at place more 0 apart ∙ are.1 place lt in omega (arith, done)

    none-there : length counts ≤ at → (place : ℕ) → place < many → (b : Bool) → (at == place) ≡ b
        → slice_index counts place ≡ count_by (is_at place) letters + cond b 1 0
    none-there beyond place lt true same =
        let here : at ≡ place = grind (arith, nat_tests) in let all = are.0 in absurd (omega (arith, here, beyond, lt, all))
    none-there beyond place lt false other = let done = are.1 place lt in omega (arith, done)

    by-test : (b : Bool) → ltb at (length counts) ≡ b
        → Counts is_at many (cond b (slice_set counts at more) counts) (letters ++ letter ∷ [])
    by-test true is = (
      length-set counts at more ∙ are.0,
      λ place lt. at-place (ltb-true at (length counts) is) place lt (at == place) refl ∙ sym (one-more place),
    )
    by-test false is = (
      are.0,
      λ place lt. none-there (ltb-false at (length counts) is) place lt (at == place) refl ∙ sym (one-more place),
    )

    -- the letter is counted
    pub counts-more : Counts is_at many (counted_at at counts) (letters ++ letter ∷ [])
    counts-more = by-test (ltb at (length counts)) refl
