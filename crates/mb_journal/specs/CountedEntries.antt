-- What holds of entries that are counted.
use Rattle.std.specs.Prelude.{◌≡◌, ◌<◌, ◌≤◌, length, vec_capacity}
use Rattle.mb_msg.specs.Limits.{most_effects}
use Rattle.mb_journal.specs.Entry.{newest_effects}
use Rattle.mb_journal.specs.declared.counted_entries.CountedEntries.TheInside.{Inside}

-- what holds of counted entries at rest: the effects that are kept are those of the newest entry, where it has any; and there is room for all the
-- effects of a call
pub record HasNewest (j : Inside) : Type 0 where
  pub newest : 0 < length (newest_effects j.entries) → j.newest.items ≡ newest_effects j.entries
  pub effect_room : most_effects ≤ vec_capacity j.newest
