use Rattle.std.proofs.Common.{length, ap, arith}
use Rattle.mb_journal.proofs.RowLemmas.{length-rows}
use Rattle.mb_journal.specs.KeptEntriesView.{KeptEntriesView}
use Rattle.mb_journal.proofs.kept_entries.KeptEntries.len.Goals as goal

pub returns : goal.returns
returns c =
    let same = length-rows c.self.inside.wide.items c.self.inside.rows.items c.self.inside.effects.items in
    let entries = ap (λ (l : KeptEntriesView). length l.entries) c.self.view_is in
    omega (arith, same, entries, c.len.ensures, c.self.inside.rows.ok.0)
