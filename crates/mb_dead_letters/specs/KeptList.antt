-- What is kept of a list (this project's own profile).
use Rattle.std.specs.Prelude.{◌≡◌, ◌⊎◌, ℕ, ◌+◌, ◌-◌, ◌*◌, ◌≤◌, Bool, true, false, List, [], ◌∷◌, ◌++◌, length, drop}

-- Where all are kept, the kept items are all. Else they are the newest: at least the last so many, or all that there are, and at most twice as many, for
-- which there is room.
pub record IsKept {T : Type 0} (keeps_all : Bool) (last number capacity : ℕ) (kept items : List T) : Type 0 where
  pub number_is : number ≡ length items
  pub all : keeps_all ≡ true → kept ≡ items
  pub newest : kept ≡ drop (length items - length kept) items
  pub within : length kept ≤ length items
  pub enough : (last ≤ length kept) ⊎ (kept ≡ items)
  pub most : keeps_all ≡ false → length kept ≤ 2 * last
  pub room : keeps_all ≡ false → 2 * last ≤ capacity

-- The kept items after one more item.
pub record IsKeptAfter {T : Type 0} (keeps_all : Bool) (last : ℕ) (item : T) (old new : List T) : Type 0 where
  pub all : keeps_all ≡ true → new ≡ old ++ item ∷ []
  pub newest : new ≡ drop (length old + 1 - length new) (old ++ item ∷ [])
  pub within : length new ≤ length old + 1
  pub enough : (last ≤ length new) ⊎ (new ≡ old ++ item ∷ [])
  pub most : keeps_all ≡ false → length new ≤ 2 * last
