-- The index of a script: where the first row of each kind is.
use Rattle.std.specs.Prelude.{◌≡◌, ℕ, ◌<◌, ◌%◌, List, length, map, drop, slice_get, slice_index_or, Option, Some, option_and_then, option_map}
use Rattle.std.specs.BTreeMap.{BTreeMap, get}
use Rattle.std.specs.Ordering.{nat_cmp}
use Rattle.mb_script.specs.Script.{RowData, row_data, row_for}
use Rattle.mb_script.specs.declared.operation.Row.{Row}

-- what an index has for a kind: what the map of the kind's remainder has
abbrev pub place_in : List (BTreeMap ℕ ℕ) → ℕ → Option ℕ
place_in index kind = option_and_then (λ (places : BTreeMap ℕ ℕ). get nat_cmp places kind) (slice_get index (kind % length index))

-- the index has, for each kind, the index of its first row from this one on
pub record IsIndexFrom (place : ℕ) (rows : List Row) (index : List (BTreeMap ℕ ℕ)) : Type 0 where
  pub within : (kind p : ℕ) → place_in index kind ≡ Some p → p < length rows
  pub found : (kind : ℕ) (d : RowData) → row_for kind (map row_data (drop place rows))
      ≡ option_map (λ p. slice_index_or (map row_data rows) p d) (place_in index kind)
