use Rattle.std.proofs.Common.{◌≤◌, length, ap, arith}
use Rattle.std.proofs.lemmas.List.{reverse-reverse}
use Rattle.mb_journal.proofs.RowLemmas.{length-rows, there-at, range-at, entry-at}
use Rattle.mb_journal.specs.KeptEntriesView.{KeptEntriesView}
use Rattle.mb_journal.proofs.kept_entries.KeptEntries.get.Goals as goal

pub start_of-from-requires : goal.start_of-from-requires
start_of-from-requires c =
    let same = length-rows c.self.inside.wide.items c.self.inside.rows.items c.self.inside.effects.items in
    let entries = ap (λ (l : KeptEntriesView). length l.entries) c.self.view_is in
    omega (arith, c.self.inside.rows.ok.0)

pub index-row-requires : goal.index-row-requires
index-row-requires c =
    let same = length-rows c.self.inside.wide.items c.self.inside.rows.items c.self.inside.effects.items in
    let entries = ap (λ (l : KeptEntriesView). length l.entries) c.self.view_is in
    omega (arith, c.self.inside.rows.ok.0)

pub arrival-requires : goal.arrival-requires
arrival-requires c =
    let same = length-rows c.self.inside.wide.items c.self.inside.rows.items c.self.inside.effects.items in
    let entries = ap (λ (l : KeptEntriesView). length l.entries) c.self.view_is in
    rw c.deref-2.ensures.value
    (there-at c.self.inside.wide.items c.self.inside.rows.items _ _ (omega arith) c.index-row.ensures c.self.invariant.there)

within : (c : goal.After-end) → (c.start_of-from.result ≤ c.end.result) × (c.end.result ≤ length c.self.inside.effects.items)
within c =
    let same = length-rows c.self.inside.wide.items c.self.inside.rows.items c.self.inside.effects.items in
    let entries = ap (λ (l : KeptEntriesView). length l.entries) c.self.view_is in
    range-at c.self.inside.wide.items c.self.inside.rows.items c.self.inside.effects.items _ _ _ _ c.self.invariant.in_order (omega arith)
    c.index-row.ensures (rw c.deref.ensures.value at c.start_of-from.ensures c.self.inside.wide.items) (c.end.ensures c.self.inside.wide.items)

pub part-requires-clause-ordered : goal.part-requires-clause-ordered
part-requires-clause-ordered c = (within c).0

pub part-requires-clause-within : goal.part-requires-clause-within
part-requires-clause-within c = rw c.deref-3.ensures.value (within c).1

pub returns : goal.returns
returns c =
    let same = length-rows c.self.inside.wide.items c.self.inside.rows.items c.self.inside.effects.items in
    let entries = ap (λ (l : KeptEntriesView). length l.entries) c.self.view_is in
    rw (← c.self.view_is, reverse-reverse, c.part.ensures, c.deref-3.ensures.value)
    (entry-at c.self.inside.wide.items c.self.inside.rows.items _ _ _ _ _ _ (omega arith) c.index-row.ensures
    (rw c.deref.ensures.value at c.start_of-from.ensures c.self.inside.wide.items)
    (rw c.deref-2.ensures.value at c.arrival.ensures) (c.end.ensures c.self.inside.wide.items))
