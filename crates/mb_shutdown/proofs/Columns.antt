-- The passes of all senders to one receiver.
use Rattle.std.proofs.Common.{◌≡◌, ◌≢◌, ℕ, zero, suc, ◌<◌, List, [], ◌∷◌, ◌++◌, map, refl, sym, ap, ◌∙◌, subst, arith, Option, Some, None}
use Rattle.std.specs.Prelude.{All, Contains, option_to_list, slice_get}
use Rattle.std.proofs.lemmas.List.Elements.{All-nil, All-cons, All-head, All-tail, All-weaker}
use Rattle.std.proofs.lemmas.Option.{none-some, same_Some}
use Rattle.mb_queue.specs.Passes.{SendPassView}
use Rattle.mb_shutdown.specs.Joined.{AreOfDifferent, column}
use Rattle.mb_shutdown.proofs.Lists.{at-place}

one-more : (P : SendPassView → Type 0) (i : ℕ) (row : List SendPassView) (rest : List SendPassView) → All P row → All P rest → (o : Option SendPassView)
    → slice_get row i ≡ o → All P (option_to_list o ++ rest)
one-more P i row rest all more None is = more
one-more P i row rest all more (Some p) is = All-cons P p rest (at-place P row i p all is) more

-- what holds of each pass of each row holds of each in a column
pub all-column : (P : SendPassView → Type 0) (i : ℕ) (rows : List (List SendPassView))
    → ((place : ℕ) (row : List SendPassView) → slice_get rows place ≡ Some row → All P row) → All P (column i rows)
all-column P i [] each = All-nil P
all-column P i (row ∷ rows) each =
    one-more P i row (column i rows) (each zero row refl) (all-column P i rows (λ place r is. each (suc place) r is)) (slice_get row i) refl

-- what holds of each in a column holds of the pass of a row
pub in-column : (P : SendPassView → Type 0) (i : ℕ) (rows : List (List SendPassView)) (place : ℕ) (row : List SendPassView) (p : SendPassView)
    → All P (column i rows) → slice_get rows place ≡ Some row → slice_get row i ≡ Some p → P p
in-column P i [] place row p all there is = absurd (none-some row there)
in-column P i (r ∷ rows) zero row p all there is =
    All-head P p (column i rows) (subst (λ o. All P (option_to_list o ++ column i rows)) (ap (λ l. slice_get l i) (same_Some r row there) ∙ is) all)
in-column P i (r ∷ rows) (suc place) row p all there is = in-column P i rows place row p (rest (slice_get r i) all) there is
  where
    rest : (o : Option SendPassView) → All P (option_to_list o ++ column i rows) → All P (column i rows)
    rest None a = a
    rest (Some q) a = All-tail P q (column i rows) a

-- a column has a pass of the sender of each pass of a row
pub sender-in-column : (i : ℕ) (rows : List (List SendPassView)) (place : ℕ) (row : List SendPassView) (p : SendPassView) → slice_get rows place ≡ Some row
    → slice_get row i ≡ Some p → Contains (map (λ (q : SendPassView). q.by) (column i rows)) p.by
sender-in-column i [] place row p there is = absurd (none-some row there)
sender-in-column i (r ∷ rows) zero row p there is =
    subst (λ o. Contains (map (λ (q : SendPassView). q.by) (option_to_list o ++ column i rows)) p.by)
    (sym (ap (λ l. slice_get l i) (same_Some r row there) ∙ is)) (0, omega arith, refl)
sender-in-column i (r ∷ rows) (suc place) row p there is = later (slice_get r i) (sender-in-column i rows place row p there is)
  where
    later : (o : Option SendPassView) → Contains (map (λ (q : SendPassView). q.by) (column i rows)) p.by
        → Contains (map (λ (q : SendPassView). q.by) (option_to_list o ++ column i rows)) p.by
    later None at = at
    later (Some q) at = let lt = at.1 in (suc at.0, omega (arith, lt), at.2)

-- a pass of this sender before those of others
different-more : (number : ℕ) (i : ℕ) (row rest : List SendPassView) → All (λ (p : SendPassView). p.by ≡ number) row
    → All (λ (q : SendPassView). q.by ≢ number) rest → AreOfDifferent rest → (o : Option SendPassView) → slice_get row i ≡ o
    → AreOfDifferent (option_to_list o ++ rest)
different-more number i row rest by others different None is = different
different-more number i row rest by others different (Some p) is =
    let here : p.by ≡ number = at-place (λ (q : SendPassView). q.by ≡ number) row i p by is in
    (subst (λ n. All (λ (q : SendPassView). q.by ≢ n) rest) (sym here) others, different)

-- passes of rows whose senders have rising numbers are of different senders
pub different : (number : ℕ → ℕ) → ((i j : ℕ) → i < j → number i < number j) → (i : ℕ) (rows : List (List SendPassView))
    → ((place : ℕ) (row : List SendPassView) → slice_get rows place ≡ Some row → All (λ (p : SendPassView). p.by ≡ number place) row)
    → AreOfDifferent (column i rows)
different number rising i [] by = tt
different number rising i (row ∷ rows) by =
    different-more (number zero) i row (column i rows) (by zero row refl)
    (all-column (λ (q : SendPassView). q.by ≢ number zero) i rows
    (λ place r is. All-weaker (λ (q : SendPassView). q.by ≡ number (suc place)) (λ (q : SendPassView). q.by ≢ number zero)
    (λ q there same. let lt = rising zero (suc place) (omega arith) in absurd (omega (arith, lt, there, same))) r (by (suc place) r is)))
    (different (λ n. number (suc n)) (λ a b lt. rising (suc a) (suc b) (omega (arith, lt))) i rows (λ place r is. by (suc place) r is))
    (slice_get row i) refl
