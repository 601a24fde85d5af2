-- Entries that were kept, and stand in proofs alone now.
use Rattle.std.specs.Prelude.{List, [], ◌++◌}
use Rattle.mb_journal.specs.Entry.{Entry}
use Rattle.mb_journal.specs.declared.gone_entries.PastLists.{PastLists, Nothing, Then'}

-- the entries of the lists, the newest first
abbrev pub gone_of : PastLists → List Entry
gone_of Nothing = []
gone_of (Then' marker before list) = list.value.entries ++ gone_of before
