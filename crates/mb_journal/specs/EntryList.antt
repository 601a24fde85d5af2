-- Entries that stand in proofs alone.
use Rattle.std.specs.Prelude.{List, [], ◌∷◌}
use Rattle.mb_journal.specs.Entry.{Entry}
use Rattle.mb_journal.specs.JournalView.{entry_with}
use Rattle.mb_journal.specs.declared.entries.Past.{Past, Nothing, Then'}

-- the entries, the newest first
abbrev pub entries_of : Past → List Entry
entries_of Nothing = []
entries_of (Then' marker before arrival effects) = entry_with arrival effects.value.items ∷ entries_of before
