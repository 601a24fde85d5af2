-- What rows say stays the same while entries are added beside them.
use Rattle.std.proofs.Common.{◌≡◌, ℕ, suc, ◌+◌, ◌<◌, ◌≤◌, List, [], ◌∷◌, ◌++◌, length, get_or, reverse, refl, ap, sym, ◌∙◌, arith}
use Rattle.std.specs.Prelude.{All, Some, map, slice_get, slice_range}
use Rattle.std.proofs.lemmas.List.{get_or_append_left, get_or-map, length-append, length-map, map_push}
use Rattle.std.proofs.lemmas.List.Elements.{All-get_or, All-head, All-push, All-tail, All-weaker}
use Rattle.mb_actor.specs.declared.effect.Effect.{Effect}
use Rattle.mb_journal.specs.JournalView.{entry_with}
use Rattle.mb_journal.specs.KeptEntriesView.{KeptEntriesView}
use Rattle.mb_journal.specs.Rows.{WholeRow, needs, whole}
use Rattle.mb_journal.specs.Stored.{listed, StandInOrder, start_of}
use Rattle.mb_journal.specs.declared.entry.Received.{Received}
use Rattle.mb_journal.specs.declared.row.Row.{Row}
use Rattle.mb_journal.specs.declared.row.Row.TheVariants as row
use Rattle.mb_journal.proofs.StoredLemmas.{length-entries, range-of-row, entry-of-row, start_of-suc}

-- there are as many entries as rows
pub length-rows : (wide : List Received) (rows : List Row) (effects : List Effect) →
    length (reverse (listed 0 (map (whole wide) rows) effects)) ≡ length rows
length-rows wide rows effects = length-entries (map (whole wide) rows) effects ∙ length-map rows (whole wide)

-- where there is room for another entry, there is a place for another row
pub place-left : (wide : List Received) (rows : List Row) (effects : List Effect) (places reserved : ℕ) (now : KeptEntriesView) →
    (let seen : KeptEntriesView = record { entries = reverse (listed 0 (map (whole wide) rows) effects); places = places; reserved = reserved } in
    seen ≡ now) →
    length now.entries < now.places → length rows < places
place-left wide rows effects places reserved now view_is room =
    let same = length-rows wide rows effects in
    let entries = ap (λ (k : KeptEntriesView). length k.entries) view_is in
    let all = ap (λ (k : KeptEntriesView). k.places) view_is in
    omega (arith, same, entries, all, room)

-- what a row says stays the same
whole-longer : (wide more : List Received) (r : Row) → needs r ≤ length wide → whole (wide ++ more) r ≡ whole wide r
whole-longer wide more (row.Handled by to answer reading number end body) there = refl
whole-longer wide more (row.System answer number end message) there = refl
whole-longer wide more (row.SetAside number end message) there = refl
whole-longer wide more (row.Dropped by to number end body) there = refl
whole-longer wide more (row.Wide place end) there =
    ap (λ (a : Received). record { arrival = a; end = end }) (get_or_append_left wide more _ place (omega arith))

-- what rows say stays the same
rows-longer : (wide more : List Received) (rows : List Row) → All (λ (r : Row). needs r ≤ length wide) rows →
    map (whole (wide ++ more)) rows ≡ map (whole wide) rows
rows-longer wide more [] there = refl
rows-longer wide more (r ∷ rows) there =
    ap (λ (w : WholeRow). w ∷ map (whole (wide ++ more)) rows) (whole-longer wide more r (All-head (λ (x : Row). needs x ≤ length wide) r rows there))
    ∙ ap (λ (ws : List WholeRow). whole wide r ∷ ws) (rows-longer wide more rows (All-tail (λ (x : Row). needs x ≤ length wide) r rows there))

-- what the rows say after a push
pub rows-pushed : (rows new_rows : List Row) (wide new_wide more : List Received) (r : Row) (says : WholeRow) →
    All (λ (r : Row). needs r ≤ length wide) rows → new_rows ≡ rows ++ r ∷ [] → new_wide ≡ wide ++ more → whole new_wide r ≡ says →
    map (whole new_wide) new_rows ≡ map (whole wide) rows ++ says ∷ []
rows-pushed rows new_rows wide new_wide more r says there by_rows by_wide by_row =
    ap (map (whole new_wide)) by_rows
    ∙ (map_push (whole new_wide) rows r
    ∙ (ap (λ (w : WholeRow). map (whole new_wide) rows ++ w ∷ []) by_row
    ∙ ap (λ (ws : List WholeRow). ws ++ says ∷ [])
    (ap (λ (list : List Received). map (whole list) rows) by_wide ∙ rows-longer wide more rows there)))

-- what the rows say is there after a push
pub there-pushed : (rows new_rows : List Row) (wide new_wide more : List Received) (r : Row) →
    All (λ (r : Row). needs r ≤ length wide) rows → new_rows ≡ rows ++ r ∷ [] → new_wide ≡ wide ++ more → needs r ≤ length new_wide →
    All (λ (r : Row). needs r ≤ length new_wide) new_rows
there-pushed rows new_rows wide new_wide more r there by_rows by_wide new_there =
    let longer : length new_wide ≡ length wide + length more = ap length by_wide ∙ length-append wide more in
    rw by_rows
    (All-push (λ (r : Row). needs r ≤ length new_wide) rows r
    (All-weaker (λ (r : Row). needs r ≤ length wide) (λ (r : Row). needs r ≤ length new_wide) (λ r le. omega arith) rows there) new_there)

-- what the row that was read at a place says is there
pub there-at : (wide : List Received) (rows : List Row) (i : ℕ) (r : Row) → i < length rows → r ≡ get_or rows i r →
    All (λ (r : Row). needs r ≤ length wide) rows → needs r ≤ length wide
there-at wide rows i r lt read there =
    let at = All-get_or (λ (r : Row). needs r ≤ length wide) rows i r lt there in
    let same = ap needs read in
    omega (arith, at, same)

-- what the row that was read at a place says stands at that place
pub whole-at : (wide : List Received) (rows : List Row) (i : ℕ) (r : Row) → i < length rows → r ≡ get_or rows i r →
    whole wide r ≡ get_or (map (whole wide) rows) i (whole wide r)
whole-at wide rows i r lt read = ap (whole wide) read ∙ sym (get_or-map (whole wide) rows i r (whole wide r) lt)

-- the effects of a row, by what was read of it, stand within those of all rows
pub range-at : (wide : List Received) (rows : List Row) (effects : List Effect) (i from to : ℕ) (r : Row) →
    StandInOrder 0 (map (whole wide) rows) (length effects) → i < length rows → r ≡ get_or rows i r →
    from ≡ start_of 0 (map (whole wide) rows) i → to ≡ (whole wide r).end → (from ≤ to) × (to ≤ length effects)
range-at wide rows effects i from to r order lt read at by_end =
    let within =
    range-of-row (map (whole wide) rows) effects i from (whole wide r) order (omega (arith, length-map rows (whole wide)))
    (whole-at wide rows i r lt read) at in
    (omega (arith, within.0, by_end), omega (arith, within.1, by_end))

-- the entry that a row and its effects are, by what was read of them
pub entry-at : (wide : List Received) (rows : List Row) (effects : List Effect) (i from to : ℕ) (r : Row) (came : Received) →
    i < length rows → r ≡ get_or rows i r → from ≡ start_of 0 (map (whole wide) rows) i → came ≡ (whole wide r).arrival → to ≡ (whole wide r).end →
    slice_get (listed 0 (map (whole wide) rows) effects) i ≡ Some (entry_with came (slice_range effects from to))
entry-at wide rows effects i from to r came lt read at by_arrival by_end =
    entry-of-row (map (whole wide) rows) effects i from (whole wide r) (omega (arith, length-map rows (whole wide))) (whole-at wide rows i r lt read) at
    ∙ (ap (λ (a : Received). Some (entry_with a (slice_range effects from (whole wide r).end))) (sym by_arrival)
    ∙ ap (λ (n : ℕ). Some (entry_with came (slice_range effects from n))) (sym by_end))

-- the effects of a row begin where those of the row before end
pub start-after : (wide : List Received) (rows : List Row) (i : ℕ) (d : Row) → i < length rows →
    start_of 0 (map (whole wide) rows) (suc i) ≡ (whole wide (get_or rows i d)).end
start-after wide rows i d lt =
    start_of-suc 0 (map (whole wide) rows) i (whole wide d) (omega (arith, length-map rows (whole wide)))
    ∙ ap (λ (w : WholeRow). w.end) (get_or-map (whole wide) rows i d (whole wide d) lt)
