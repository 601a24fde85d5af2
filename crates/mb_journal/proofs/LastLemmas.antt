-- Which of the entries are kept where the newest are, and where they stand.
use Rattle.std.proofs.Common.{◌≡◌, ℕ, zero, suc, ◌+◌, ◌-◌, ◌*◌, ◌/◌, ◌%◌, ◌<◌, ◌≤◌, ◌⊎◌, inl, inr, true, false, List, [], ◌∷◌, ◌++◌, length, reverse, refl, sym, ap, ◌∙◌, arith}
use Rattle.std.proofs.Common.{length-append}
use Rattle.std.specs.Prelude.{◌==◌, Bool, if◌then◌else◌, slice_get}
use Rattle.std.proofs.Math.Nat.{suc-mul}
use Rattle.std.proofs.lemmas.Bool.Decides.{nat_tests}
use Rattle.std.proofs.lemmas.List.{length-reverse, reverse-append}
use Rattle.std.proofs.lemmas.Nat.{div-mul-add, div-add-mod', mod_below}
use Rattle.mb_journal.specs.Entry.{Entry}
use Rattle.mb_journal.specs.JournalView.{first_of_last}
use Rattle.mb_journal.specs.LastEntries.{LastEntriesView}
use Rattle.mb_journal.specs.Store.{first_of, retention_in, stored}
use Rattle.mb_journal.specs.declared.store.Store.{Store}
use Rattle.mb_journal.specs.declared.store.Store.TheVariants.{Kept, Counted, Last}

-- ---- which are kept

not-0 : (last : ℕ) → 0 < last → (last == 0) ≡ false
not-0 last above = grind (arith, nat_tests)

first-of : (last n : ℕ) → 0 < last → first_of_last last n ≡ (n / last - 1) * last
first-of last n above = ap (λ (b : Bool). if b then n else (n / last - 1) * last) (not-0 last above)

-- while no group is full, all are kept
first-group : (last b : ℕ) → 0 < last → b < last → first_of_last last b ≡ 0
first-group last b above less =
    let none : b / last ≡ 0 = ap (λ m. m / last) (omega arith) ∙ div-mul-add 0 last b less in
    let first : (0 - 1) * last ≡ 0 = omega arith in
    first-of last b above ∙ (ap (λ m. (m - 1) * last) none ∙ first)

-- behind so many full groups, those of the group that is being filled and of the one before
later-group : (last b k : ℕ) → 0 < last → b < last → first_of_last last (b + (last + k * last)) ≡ k * last
later-group last b k above less =
    let groups : (b + (last + k * last)) / last ≡ suc k =
    ap (λ m. m / last) (omega (arith, suc-mul k last)) ∙ div-mul-add (suc k) last b less in
    let before : suc k - 1 ≡ k = omega arith in
    first-of last (b + (last + k * last)) above ∙ (ap (λ m. (m - 1) * last) groups ∙ ap (λ m. m * last) before)

-- the first entry that is kept is behind those that are gone
pub first-is : (last : ℕ) (newer older gone : List Entry) → 0 < last → length newer < last →
    ((older ≡ []) × (gone ≡ [])) ⊎ ((lists : ℕ) × (length older ≡ last) × (length gone ≡ lists * last)) →
    first_of_last last (length (newer ++ older ++ gone)) ≡ length gone
first-is last newer older gone above less (inl none) =
    let count : length (newer ++ older ++ gone) ≡ length newer =
    omega (arith, length-append (newer ++ older) gone, length-append newer older, ap length none.0, ap length none.1) in
    let no_more : 0 ≡ length gone = omega (arith, ap length none.1) in
    ap (first_of_last last) count ∙ (first-group last (length newer) above less ∙ no_more)
first-is last newer older gone above less (inr full) =
    let count : length (newer ++ older ++ gone) ≡ length newer + (last + full.0 * last) =
    omega (arith, length-append (newer ++ older) gone, length-append newer older, full.1, full.2) in
    ap (first_of_last last) count ∙ (later-group last (length newer) full.0 above less ∙ sym full.2)

pub first-seen : (last first : ℕ) (newer older gone : List Entry) (now : LastEntriesView) →
    (let seen : LastEntriesView = record { entries = newer ++ older ++ gone; last = last } in seen ≡ now) →
    first ≡ first_of_last now.last (length now.entries) → 0 < last → length newer < last →
    ((older ≡ []) × (gone ≡ [])) ⊎ ((lists : ℕ) × (length older ≡ last) × (length gone ≡ lists * last)) → first ≡ length gone
first-seen last first newer older gone now view_is is above less full =
    is
    ∙ (ap (λ (v : LastEntriesView). first_of_last v.last (length v.entries)) (sym view_is) ∙ first-is last newer older gone above less full)

-- a full list more is gone
pub gone-more : (last : ℕ) (older gone more : List Entry) → more ≡ older ++ gone →
    ((older ≡ []) × (gone ≡ [])) ⊎ ((lists : ℕ) × (length older ≡ last) × (length gone ≡ lists * last)) →
    (lists : ℕ) × (length more ≡ lists * last)
gone-more last older gone more is (inl none) =
    (0, omega (arith, ap length is, length-append older gone, ap length none.0, ap length none.1))
gone-more last older gone more is (inr full) =
    (suc full.0, omega (arith, ap length is, length-append older gone, full.1, full.2, suc-mul full.0 last))

-- ---- where they stand

-- what stands within the first of two lists, and what stands behind it
get-left : {A : Type 0} (xs ys : List A) (i : ℕ) → i < length xs → slice_get (xs ++ ys) i ≡ slice_get xs i
get-left [] ys i less = absurd (omega (arith, less))
get-left (x ∷ xs) ys zero less = refl
get-left (x ∷ xs) ys (suc i) less = get-left xs ys i (omega (arith, less))

get-right : {A : Type 0} (xs ys : List A) (i p : ℕ) → i ≡ length xs + p → slice_get (xs ++ ys) i ≡ slice_get ys p
get-right [] ys i p at = ap (slice_get ys) (omega (arith, at))
get-right (x ∷ xs) ys zero p at = absurd (omega (arith, at))
get-right (x ∷ xs) ys (suc i) p at = get-right xs ys i p (omega (arith, at))

turned : (newer older gone : List Entry) → reverse (newer ++ older ++ gone) ≡ reverse gone ++ (reverse older ++ reverse newer)
turned newer older gone = reverse-append (newer ++ older) gone ∙ ap (λ es. reverse gone ++ es) (reverse-append newer older)

-- an entry of the list before, and one of the list that is being filled
pub stands-older : (newer older gone : List Entry) (i p : ℕ) → i ≡ length gone + p → p < length older →
    slice_get (reverse (newer ++ older ++ gone)) i ≡ slice_get (reverse older) p
stands-older newer older gone i p at less =
    let gone_is = length-reverse gone in
    let older_is = length-reverse older in
    ap (λ es. slice_get es i) (turned newer older gone)
    ∙ (get-right (reverse gone) (reverse older ++ reverse newer) i p (omega (arith, gone_is))
    ∙ get-left (reverse older) (reverse newer) p (omega (arith, older_is)))

pub stands-newer : (newer older gone : List Entry) (i p : ℕ) → i ≡ length gone + (length older + p) →
    slice_get (reverse (newer ++ older ++ gone)) i ≡ slice_get (reverse newer) p
stands-newer newer older gone i p at =
    let gone_is = length-reverse gone in
    let older_is = length-reverse older in
    ap (λ es. slice_get es i) (turned newer older gone)
    ∙ (get-right (reverse gone) (reverse older ++ reverse newer) i (length older + p) (omega (arith, gone_is))
    ∙ get-right (reverse older) (reverse newer) (length older + p) p (omega (arith, older_is)))

-- ---- how many are kept

-- at least the last so many, and at most twice as many
pub first-bounds : (last n : ℕ) → (first_of_last last n ≤ n - last) × (n ≤ first_of_last last n + 2 * last)
first-bounds zero n = (omega arith, omega arith)
first-bounds (suc last) n =
    let is = first-of (suc last) n (omega arith) in
    let bounds = within (n / suc last) (n % suc last) (div-add-mod' n (suc last)) (mod_below n (suc last) (omega arith)) in
    (omega (arith, is, bounds.0), omega (arith, is, bounds.1))
  where
    within : (m r : ℕ) → m * suc last + r ≡ n → r < suc last → ((m - 1) * suc last ≤ n - suc last) × (n ≤ (m - 1) * suc last + 2 * suc last)
    within zero r is less = (omega (arith, is, less), omega (arith, is, less))
    within (suc k) r is less =
        let more = suc-mul k (suc last) in
        let before : (suc k - 1) * suc last ≡ k * suc last = ap (λ m. m * suc last) (omega arith) in
        (omega (arith, is, less, more, before), omega (arith, is, less, more, before))

pub store-bounds : (store : Store) →
    (first_of store ≤ length (stored store) - (retention_in store).last)
    × ((retention_in store).keeps_all ≡ false → length (stored store) ≤ first_of store + 2 * (retention_in store).last)
store-bounds (Kept kept) = (omega arith, λ not_all. cc)
store-bounds (Counted entries) = (omega arith, λ not_all. omega arith)
store-bounds (Last newest) =
    let bounds = first-bounds newest.value.last (length newest.value.entries) in
    (bounds.0, λ not_all. bounds.1)
