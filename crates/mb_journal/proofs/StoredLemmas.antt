-- The rows of a journal and its entries: what a row more adds, and what each row keeps.
use Rattle.std.proofs.Common.{◌≡◌, ℕ, ◌+◌, ◌-◌, ◌<◌, ◌≤◌, List, [], ◌∷◌, ◌++◌, length, take, drop, get_or, reverse, refl, ap, sym, ◌∙◌}
use Rattle.std.proofs.Common.{arith, zero, suc, length-append, length-drop}
use Rattle.std.specs.Prelude.{nat_lt, slice_range, slice_get, true, false, Some}
use Rattle.std.proofs.lemmas.List.{length-reverse, reverse-append, take-append-le, drop-append-le}
use Rattle.std.proofs.lemmas.Bool.Decides.{nat_tests}
use Rattle.std.proofs.Math.Seq.{drop-append_seam, take-length}
use Rattle.mb_actor.specs.declared.effect.Effect.{Effect}
use Rattle.mb_journal.specs.Stored.{listed, StandInOrder, start_of}
use Rattle.mb_journal.specs.JournalView.{entry_with}
use Rattle.mb_journal.specs.Rows.{WholeRow}
use Rattle.mb_journal.specs.declared.entry.Received.{Received}

pub length-listed : (from : ℕ) (rows : List WholeRow) (effects : List Effect) → length (listed from rows effects) ≡ length rows
unfolding listed
length-listed from [] effects = refl
length-listed from (row ∷ rows) effects = ap (λ n. suc n) (length-listed row.end rows effects)

-- there are as many entries as rows
pub length-entries : (rows : List WholeRow) (effects : List Effect) → length (reverse (listed 0 rows effects)) ≡ length rows
length-entries rows effects = length-reverse _ ∙ length-listed 0 rows effects

-- a row more, whose effects end later, keeps the order
pub StandInOrder-push : (from : ℕ) (rows : List WholeRow) (to : ℕ) (row : WholeRow) →
    StandInOrder from rows to → to ≤ row.end → StandInOrder from (rows ++ row ∷ []) row.end
unfolding StandInOrder
StandInOrder-push from [] to row e le = (omega (arith, e), omega arith, refl)
StandInOrder-push from (r ∷ rows) to row (a, b, rest) le = (a, omega arith, StandInOrder-push r.end rows to row rest le)

pub from-le-to : (from : ℕ) (rows : List WholeRow) (to : ℕ) → StandInOrder from rows to → from ≤ to
unfolding StandInOrder
from-le-to from [] to e = omega (arith, e)
from-le-to from (row ∷ rows) to (a, b, rest) = omega arith

-- a part of a list that ends within it is that of the longer list
range-append : (effects more : List Effect) (from to : ℕ) → from ≤ to → to ≤ length effects →
    slice_range (effects ++ more) from to ≡ slice_range effects from to
range-append effects more from to a b =
    ap (take (to - from)) (drop-append-le from effects more (omega arith))
    ∙ take-append-le (to - from) (drop from effects) more (omega (arith, length-drop from effects))

-- the part behind a list is what was appended
range-seam : (effects more : List Effect) (to : ℕ) → to ≡ length effects + length more →
    slice_range (effects ++ more) (length effects) to ≡ more
range-seam effects more to e =
    ap (take (to - length effects)) (drop-append_seam effects more)
    ∙ (ap (λ n. take n more) (omega (arith, e)) ∙ take-length more)

-- a row more, with its effects at the end, adds its entry at the end
pub listed-push : (from : ℕ) (rows : List WholeRow) (effects more : List Effect) (arrival : Received) (end : ℕ) →
    StandInOrder from rows (length effects) → end ≡ length effects + length more →
    listed from (rows ++ record { arrival = arrival; end = end } ∷ []) (effects ++ more)
    ≡ listed from rows effects ++ entry_with arrival more ∷ []
unfolding listed StandInOrder
listed-push from [] effects more arrival end e at =
    ap (λ es. entry_with arrival es ∷ []) (ap (λ n. slice_range (effects ++ more) n end) e ∙ range-seam effects more end at)
listed-push from (row ∷ rows) effects more arrival end (a, b, rest) at =
    ap (λ es. entry_with row.arrival es ∷ listed row.end (rows ++ record { arrival = arrival; end = end } ∷ []) (effects ++ more))
    (range-append effects more from row.end a b)
    ∙ ap (λ es. entry_with row.arrival (slice_range effects from row.end) ∷ es) (listed-push row.end rows effects more arrival end rest at)

-- a row more adds its entry, the newest first
pub entries-push : (rows : List WholeRow) (effects more : List Effect) (arrival : Received) (end : ℕ) →
    StandInOrder 0 rows (length effects) → end ≡ length effects + length more →
    reverse (listed 0 (rows ++ record { arrival = arrival; end = end } ∷ []) (effects ++ more))
    ≡ entry_with arrival more ∷ reverse (listed 0 rows effects)
entries-push rows effects more arrival end order at =
    ap reverse (listed-push 0 rows effects more arrival end order at) ∙ reverse-append (listed 0 rows effects) (entry_with arrival more ∷ [])

-- the entry at a place
pub listed-get : (from : ℕ) (rows : List WholeRow) (effects : List Effect) (i : ℕ) (d : WholeRow) → i < length rows →
    slice_get (listed from rows effects) i
    ≡ Some (entry_with (get_or rows i d).arrival (slice_range effects (start_of from rows i) (get_or rows i d).end))
unfolding listed start_of
listed-get from [] effects i d lt = absurd (omega (arith, lt))
listed-get from (row ∷ rows) effects zero d lt = refl
listed-get from (row ∷ rows) effects (suc i) d lt = listed-get row.end rows effects i d (omega (arith, lt))

-- the order after a push, by what the two lists become
pub order-pushed : (rows new_rows : List WholeRow) (effects new_effects more : List Effect) (arrival : Received) (end : ℕ) →
    StandInOrder 0 rows (length effects) → new_rows ≡ rows ++ record { arrival = arrival; end = end } ∷ [] → new_effects ≡ effects ++ more →
    end ≡ length new_effects → StandInOrder 0 new_rows (length new_effects)
order-pushed rows new_rows effects new_effects more arrival end order by_rows by_effects at =
    let longer : length new_effects ≡ length effects + length more = ap length by_effects ∙ length-append effects more in
    rw (by_rows, ← at) (StandInOrder-push 0 rows (length effects) (record { arrival = arrival; end = end }) order (omega arith))

-- the entries after a push, by what the two lists become
pub entries-pushed : (rows new_rows : List WholeRow) (effects new_effects more : List Effect) (arrival : Received) (end : ℕ) →
    StandInOrder 0 rows (length effects) → new_rows ≡ rows ++ record { arrival = arrival; end = end } ∷ [] → new_effects ≡ effects ++ more →
    end ≡ length new_effects →
    reverse (listed 0 new_rows new_effects) ≡ entry_with arrival more ∷ reverse (listed 0 rows effects)
entries-pushed rows new_rows effects new_effects more arrival end order by_rows by_effects at =
    let longer : length new_effects ≡ length effects + length more = ap length by_effects ∙ length-append effects more in
    rw (by_rows, by_effects) (entries-push rows effects more arrival end order (at ∙ longer))

-- the effects of the row at a place stand within those of all rows
pub range-within : (from : ℕ) (rows : List WholeRow) (to i : ℕ) (d : WholeRow) → StandInOrder from rows to → i < length rows →
    (start_of from rows i ≤ (get_or rows i d).end) × ((get_or rows i d).end ≤ to)
unfolding StandInOrder start_of
range-within from [] to i d order lt = absurd (omega (arith, lt))
range-within from (row ∷ rows) to zero d (a, b, rest) lt = (a, b)
range-within from (row ∷ rows) to (suc i) d (a, b, rest) lt = range-within row.end rows to i d rest (omega (arith, lt))

-- they begin where those of the row before end
pub start_of-suc : (from : ℕ) (rows : List WholeRow) (i : ℕ) (d : WholeRow) → i < length rows → start_of from rows (suc i) ≡ (get_or rows i d).end
unfolding start_of
start_of-suc from [] i d lt = absurd (omega (arith, lt))
start_of-suc from (row ∷ []) zero d lt = refl
start_of-suc from (row ∷ r ∷ rows) zero d lt = refl
start_of-suc from (row ∷ rows) (suc i) d lt = start_of-suc row.end rows i d (omega (arith, lt))

-- the effects of a row that was read at a place stand within those of all rows
pub range-of-row : (rows : List WholeRow) (effects : List Effect) (i from : ℕ) (row : WholeRow) → StandInOrder 0 rows (length effects) → i < length rows →
    row ≡ get_or rows i row → from ≡ start_of 0 rows i → (from ≤ row.end) × (row.end ≤ length effects)
range-of-row rows effects i from row order lt read at =
    let within = range-within 0 rows (length effects) i row order lt in
    let end = ap (λ (r : WholeRow). r.end) read in
    (omega arith, omega arith)

-- a row that was read at a place, with its effects, is the entry at that place
pub entry-of-row : (rows : List WholeRow) (effects : List Effect) (i from : ℕ) (row : WholeRow) → i < length rows →
    row ≡ get_or rows i row → from ≡ start_of 0 rows i →
    slice_get (listed 0 rows effects) i ≡ Some (entry_with row.arrival (slice_range effects from row.end))
entry-of-row rows effects i from row lt read at =
    listed-get 0 rows effects i row lt
    ∙ (ap (λ (n : ℕ). Some (entry_with (get_or rows i row).arrival (slice_range effects n (get_or rows i row).end))) (sym at)
    ∙ ap (λ (r : WholeRow). Some (entry_with r.arrival (slice_range effects from r.end))) (sym read))

-- the test of numbers by which a journal is ready
pub is-below : (n m : ℕ) → nat_lt n m ≡ true → n < m
is-below n m less = grind (arith, nat_tests)

pub below : (n m : ℕ) → n < m → nat_lt n m ≡ true
below n m less = grind (arith, nat_tests)

pub none-below : (n : ℕ) → nat_lt n 0 ≡ false
none-below n = grind (arith, nat_tests)
