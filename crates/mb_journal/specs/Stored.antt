-- How the rows of a journal keep its entries: one after another, and all their effects in one list beside them.
use Rattle.std.specs.Prelude.{◌≡◌, ℕ, zero, suc, ◌+◌, ◌-◌, ◌*◌, ◌≤◌, List, [], ◌∷◌, All, length, map, slice_range, vec_len, vec_capacity}
use Rattle.mb_msg.specs.Limits.{most_effects}
use Rattle.mb_actor.specs.declared.effect.Effect.{Effect}
use Rattle.mb_journal.specs.Entry.{Entry}
use Rattle.mb_journal.specs.JournalView.{entry_with}
use Rattle.mb_journal.specs.Rows.{WholeRow, needs, whole}
use Rattle.mb_journal.specs.declared.kept_entries.KeptEntries.TheInside.{Inside}

-- the entries of rows, the earliest first, each with its effects; those of the first begin at this index
unfoldable pub listed : ℕ → List WholeRow → List Effect → List Entry
listed from [] effects = []
listed from (row ∷ rows) effects = entry_with row.arrival (slice_range effects from row.end) ∷ listed row.end rows effects

-- the rows' effects are one after another, from this index to that one
unfoldable pub StandInOrder : ℕ → List WholeRow → ℕ → Type 0
StandInOrder from [] to = from ≡ to
StandInOrder from (row ∷ rows) to = (from ≤ row.end) × (row.end ≤ to) × StandInOrder row.end rows to

-- where the effects of the row at an index begin: where those of the row before end
unfoldable pub start_of : ℕ → List WholeRow → ℕ → ℕ
start_of from rows zero = from
start_of from [] (suc i) = from
start_of from (row ∷ rows) (suc i) = start_of row.end rows i

-- what the rows of a journal say, the earliest first
abbrev pub rows_of : Inside → List WholeRow
rows_of j = map (whole j.wide.items) j.rows.items

-- what holds of the rows and effects of kept entries at rest: the effects of the rows are those of the list, and what they say is there; and up to
-- the number of places there is room for a row, wide or not, and all the effects of a call; and so there is up to the number that is reserved,
-- once the lists are empty
pub record IsStored (j : Inside) : Type 0 where
  pub in_order : StandInOrder 0 (rows_of j) (length j.effects.items)
  pub there : All (λ row. needs row ≤ length j.wide.items) j.rows.items
  pub row_room : j.places ≤ vec_capacity j.rows
  pub wide_room : vec_len j.wide + (j.places - vec_len j.rows) ≤ vec_capacity j.wide
  pub effect_room : vec_len j.effects + most_effects * (j.places - vec_len j.rows) ≤ vec_capacity j.effects
  pub reserved_rows : j.reserved ≤ vec_capacity j.rows
  pub reserved_wide : j.reserved ≤ vec_capacity j.wide
  pub reserved_effects : most_effects * j.reserved ≤ vec_capacity j.effects
