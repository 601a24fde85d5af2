-- What a mode of journals means (this project's own profile: Akka keeps no journal).
use Rattle.std.specs.Prelude.{ℕ, Bool, true, false}
use Rattle.mb_msg.specs.declared.journal_mode.JournalMode.{JournalMode}
use Rattle.mb_msg.specs.declared.journal_mode.JournalMode.TheVariants as mode

-- how much of a list is kept, so that it can be read: whether all of it is; and if not, how many of the newest at least
pub record Retention : Type 0 where
  pub keeps_all : Bool
  pub last : ℕ

-- how much a journal of this mode keeps of its entries
abbrev pub retention_of : JournalMode → Retention
retention_of mode.Kept = record { keeps_all = true; last = 0 }
retention_of mode.Counted = record { keeps_all = false; last = 0 }
retention_of (mode.Last last) = record { keeps_all = false; last = last }

-- a journal of this mode keeps all its entries, so that they can be read
abbrev pub keeps_all : JournalMode → Bool
keeps_all mode = (retention_of mode).keeps_all

-- how many of the newest entries a journal of this mode keeps at least, if it does not keep all
abbrev pub keeps_last : JournalMode → ℕ
keeps_last mode = (retention_of mode).last
