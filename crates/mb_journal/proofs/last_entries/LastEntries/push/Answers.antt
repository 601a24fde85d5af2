use Rattle.std.proofs.Common.{inr, length, ap, ◌∙◌, arith}
use Rattle.mb_journal.specs.KeptEntriesView.{KeptEntriesView}
use Rattle.mb_journal.proofs.LastLemmas.{gone-more}
use Rattle.mb_journal.proofs.last_entries.LastEntries.push.Goals as goal

pub invariant_of-self-2 : goal.invariant_of-self-2
invariant_of-self-2 c =
    let cleared = c.swap.ensures.x_after ∙ c.clear.ensures in
    let filled = c.swap.ensures.y_after ∙ c.push.ensures in
    let empty = ap (λ (k : KeptEntriesView). length k.entries) cleared in
    let full = ap (λ (k : KeptEntriesView). length k.entries) filled in
    let longer = ap (λ (k : KeptEntriesView). length k.entries) c.push.ensures in
    let gone = gone-more c.self.inside.last _ _ _ c.add.ensures c.self.invariant.full_lists in
    record {
      above_0 = c.self.invariant.above_0;
      newer_room = ap (λ (k : KeptEntriesView). k.places) cleared ∙ c.self.invariant.older_reserved;
      newer_reserved = ap (λ (k : KeptEntriesView). k.reserved) cleared ∙ c.self.invariant.older_reserved;
      older_reserved = ap (λ (k : KeptEntriesView). k.reserved) filled ∙ c.self.invariant.newer_reserved;
      not_full = omega (arith, empty, c.self.invariant.above_0);
      full_lists = inr (gone.0, omega (arith, full, longer, c.len.ensures, c.self.invariant.not_full), gone.1);
    }
