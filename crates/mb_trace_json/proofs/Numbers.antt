-- The number of an actor or a sender is read back from its name.
use Rattle.std.proofs.Common.{◌≡◌, ◌≢◌, ◌⊎◌, inl, inr, true≢false, ℕ, zero, suc, ◌+◌, ◌-◌, ◌<◌, ◌≤◌, ◌^◌, nat_lt, nat_le, List, [], ◌∷◌, ◌++◌, length, drop, codes, Bool, true, false, cond, if◌then◌else◌, refl, sym, ap, ◌∙◌, arith, bytes_eq, decimal, slice_index_or, suc-le-suc, zero-lt-suc, le_of_suc-le-suc, not-suc-le-zero, ltb-true, ltb-false, le-leb, lt-ltb, le-ltb}
use Rattle.std.proofs.lemmas.Bool.{cases_lt, lt-leb}
use Rattle.std.proofs.lemmas.Fmt.{decimal_is_IsNumeral}
use Rattle.std.proofs.lemmas.Slice.Eq.{bytes_eq-Decides}
use Rattle.std.specs.Str.Parse.{digits_value}
use Rattle.serde_json.specs.Data.{Data, string}
use Rattle.mb_msg.specs.Limits.{most_actors}
use Rattle.mb_trace_json.specs.Names.{name_data, name_of}
use Rattle.mb_trace_json.specs.Telling.{AreDistinct, IsKnown}

-- which of the names it is; as many as there are where it is none
abbrev place_of : List ℕ → List (List ℕ) → ℕ
place_of s [] = 0
place_of s (x ∷ xs) = cond (bytes_eq s x) 0 (suc (place_of s xs))

found : (b : Bool) (n i : ℕ) → (b ≡ true → 0 ≡ suc i) → n ≡ i → cond b 0 (suc n) ≡ suc i
found true n i never e = never refl
found false n i never e = ap suc e

missed : (b : Bool) (n m : ℕ) → (b ≡ true → ⊥) → n ≡ m → cond b 0 (suc n) ≡ suc m
missed true n m never e = absurd (never refl)
missed false n m never e = ap suc e

place-at : (xs : List (List ℕ)) (d : List ℕ) (i : ℕ) → i < length xs
    → ((j : ℕ) → j < length xs → slice_index_or xs j d ≡ slice_index_or xs i d → j ≡ i) → place_of (slice_index_or xs i d) xs ≡ i
place-at [] d i h only = absurd (not-suc-le-zero h)
place-at (x ∷ xs) d zero h only = ap (λ b. cond b 0 (suc (place_of x xs))) ((bytes_eq-Decides x x).1 refl)
place-at (x ∷ xs) d (suc i) h only =
    found (bytes_eq (slice_index_or xs i d) x) (place_of (slice_index_or xs i d) xs) i
    (λ same. only 0 (omega arith) (sym ((bytes_eq-Decides (slice_index_or xs i d) x).0 same)))
    (place-at xs d i (le_of_suc-le-suc h) (λ j l e. omega (arith, only (suc j) (suc-le-suc l) e)))

place-none : (xs : List (List ℕ)) (d s : List ℕ) → ((j : ℕ) → j < length xs → slice_index_or xs j d ≢ s) → place_of s xs ≡ length xs
place-none [] d s never = refl
place-none (x ∷ xs) d s never =
    missed (bytes_eq s x) (place_of s xs) (length xs) (λ same. never 0 (omega arith) (sym ((bytes_eq-Decides s x).0 same)))
    (place-none xs d s (λ j l e. never (suc j) (suc-le-suc l) e))

-- the number that a text stands for, where the actors have these names
abbrev number_named : List (List ℕ) → List ℕ → ℕ
number_named names s =
    cond (nat_le (place_of s (codes "guardian" ∷ names)) (length names)) (place_of s (codes "guardian" ∷ names))
    (most_actors + digits_value 10 (drop 8 s))

abbrev pub number_from : List (List ℕ) → Data → ℕ
number_from names (string s) = number_named names s
number_from names _ = 0

within : (n k m x : ℕ) → n ≡ k → k ≤ m → cond (nat_le n m) n x ≡ k
within n k m x e l = ap (λ b. cond b n x) (le-leb n m (omega (arith, e, l))) ∙ e

beyond : (n m x : ℕ) → m < n → cond (nat_le n m) n x ≡ x
beyond n m x l = ap (λ b. cond b n x) (lt-leb n m l)

of_actor : (names : List (List ℕ)) → AreDistinct names → (id : ℕ) → id ≤ length names → number_named names (name_of names id) ≡ id
of_actor names distinct id l =
    within _ id (length names) _
    (place-at (codes "guardian" ∷ names) (codes "?") id (omega (arith, l)) (λ j k e. distinct.actors j id (le_of_suc-le-suc k) l e)) l

of_outside : (names : List (List ℕ)) → AreDistinct names → (n : ℕ) → n < 2 ^ 64 → number_named names (codes "outside " ++ decimal n) ≡ most_actors + n
of_outside names distinct n small =
    let none = place-none (codes "guardian" ∷ names) (codes "?") (codes "outside " ++ decimal n) (λ j k. distinct.outside j n (le_of_suc-le-suc k)) in
    beyond _ (length names) _ (omega (arith, none)) ∙ ap (λ k. most_actors + k) (decimal_is_IsNumeral n small).1

number-at : (names : List (List ℕ)) (id : ℕ) (b : Bool)
    → (number_named names (name_of names id) ≡ id) ⊎ (b ≡ false)
    → (b ≡ true) ⊎ (number_named names (codes "outside " ++ decimal (id - most_actors)) ≡ id)
    → number_named names (if b then name_of names id else codes "outside " ++ decimal (id - most_actors)) ≡ id
number-at names id true (inl e) other = e
number-at names id true (inr never) other = absurd (true≢false never)
number-at names id false one (inl never) = absurd (true≢false (sym never))
number-at names id false one (inr e) = e

pub number-back : (names : List (List ℕ)) → AreDistinct names → (id : ℕ) → IsKnown names id → number_from names (name_data names id) ≡ id
number-back names distinct id known = by_place (cases_lt id most_actors)
  where
    by_place : (id < most_actors) ⊎ (most_actors ≤ id) → number_from names (name_data names id) ≡ id
    by_place (inl l) = number-at names id (nat_lt id most_actors) (inl (of_actor names distinct id (known.named l))) (inl (lt-ltb id most_actors l))
    by_place (inr l) =
        number-at names id (nat_lt id most_actors) (inr (le-ltb id most_actors l))
        (inr (of_outside names distinct (id - most_actors) (omega (arith, known.small)) ∙ omega (arith, l)))
