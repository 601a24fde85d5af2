-- The tells that a cell has still to send. They are not kept beside the journal: the newest entry records them.
use Rattle.std.specs.Prelude.{◌≡◌, ℕ, ◌-◌, ◌<◌, ◌≤◌, true, List, length, drop}
use Rattle.std.specs.List.{list_all}
use Rattle.mb_actor.specs.OutboxView.{is_tell}
use Rattle.mb_journal.specs.Acts.{Act, stop_acts}
use Rattle.mb_journal.specs.Entry.{Entry, newest_effects}

-- the acts of the last so many effects of the newest entry
abbrev pub unsent_acts : ℕ → List Entry → List Act
unsent_acts n journal = stop_acts (drop (length (newest_effects journal) - n) (newest_effects journal))

-- so many effects of the newest entry may be left to be sent: there are as many, and where some are left, all are tells
pub record IsUnsent (n : ℕ) (journal : List Entry) : Type 0 where
  pub within : n ≤ length (newest_effects journal)
  pub tells : 0 < n → list_all is_tell (newest_effects journal) ≡ true
