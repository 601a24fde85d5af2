-- What an index of rows finds.
use Rattle.std.proofs.Common.{◌≡◌, ℕ, ◌<◌, List, length, get_or, map, Some, None, option_map, sym, ap, ◌∙◌}
use Rattle.std.proofs.lemmas.List.{get_or-map}
use Rattle.std.specs.BTreeMap.{BTreeMap}
use Rattle.mb_script.specs.Index.{IsIndexFrom, place_in}
use Rattle.mb_script.specs.Script.{RowData, row_data, row_for}
use Rattle.mb_script.specs.declared.operation.Row.{Row}

-- the row at the place that the index has is the first of the kind
pub index_finds : (rows : List Row) (index : List (BTreeMap ℕ ℕ)) (kind p : ℕ) (row : Row) → IsIndexFrom 0 rows index
    → place_in index kind ≡ Some p → p < length rows → row ≡ get_or rows p row
    → Some (row_data row) ≡ row_for kind (map row_data rows)
index_finds rows index kind p row indexed there lt at =
    sym (indexed.found kind (row_data row) ∙ ap (option_map (λ i. get_or (map row_data rows) i (row_data row))) there
    ∙ ap Some (get_or-map row_data rows p row (row_data row) lt ∙ ap row_data (sym at)))

-- where it has none, no row is of the kind
pub index_misses : (rows : List Row) (index : List (BTreeMap ℕ ℕ)) (kind : ℕ) (d : RowData) → IsIndexFrom 0 rows index
    → place_in index kind ≡ None → None ≡ row_for kind (map row_data rows)
index_misses rows index kind d indexed there =
    sym (indexed.found kind d ∙ ap (option_map (λ i. get_or (map row_data rows) i d)) there)
