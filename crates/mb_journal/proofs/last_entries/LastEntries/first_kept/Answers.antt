use Rattle.std.proofs.Common.{◌++◌, length, sym, ap, ◌∙◌, arith, length-append}
use Rattle.mb_journal.specs.JournalView.{first_of_last}
use Rattle.mb_journal.specs.LastEntries.{LastEntriesView}
use Rattle.mb_journal.proofs.LastLemmas.{first-is}
use Rattle.mb_journal.proofs.last_entries.LastEntries.first_kept.Goals as goal

pub returns : goal.returns
returns c =
    let newer = c.self.inside.newer.entries in
    let older = c.self.inside.older.entries in
    let gone = c.self.inside.gone in
    let first =
    ap (λ (v : LastEntriesView). first_of_last v.last (length v.entries)) (sym c.self.view_is)
    ∙ first-is c.self.inside.last newer older gone c.self.invariant.above_0 c.self.invariant.not_full c.self.invariant.full_lists in
    let all = ap (λ (v : LastEntriesView). length v.entries) c.self.view_is in
    omega (arith, first, all, length-append (newer ++ older) gone, length-append newer older, c.len.ensures, c.len-2.ensures)
