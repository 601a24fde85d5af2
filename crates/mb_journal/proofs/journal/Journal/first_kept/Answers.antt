use Rattle.std.proofs.Common.{length, sym, ap, ◌∙◌, arith}
use Rattle.mb_journal.specs.JournalView.{JournalView}
use Rattle.mb_journal.proofs.LastLemmas.{store-bounds}
use Rattle.mb_journal.proofs.journal.Journal.first_kept.Goals as goal

pub returns-clause-last : goal.returns-clause-last
returns-clause-last c =
    let bounds = store-bounds c.self.inside.store in
    let all = ap (λ (j : JournalView). length j.entries) c.self.view_is in
    let last = ap (λ (j : JournalView). j.retention.last) c.self.view_is in
    omega (arith, bounds.0, all, last, c.first_kept.ensures)

pub returns-clause-most : goal.returns-clause-most
returns-clause-most c not_all =
    let bounds = store-bounds c.self.inside.store in
    let all = ap (λ (j : JournalView). length j.entries) c.self.view_is in
    let last = ap (λ (j : JournalView). j.retention.last) c.self.view_is in
    let kept = bounds.1 (ap (λ (j : JournalView). j.retention.keeps_all) c.self.view_is ∙ not_all) in
    omega (arith, kept, all, last, c.first_kept.ensures)
