use Rattle.std.proofs.Common.{length, ap, arith}
use Rattle.mb_journal.proofs.RowLemmas.{length-rows}
use Rattle.mb_journal.specs.KeptEntriesView.{KeptEntriesView}
use Rattle.mb_journal.proofs.kept_entries.KeptEntries.make_room.Goals as goal

pub returns-then-len-self-clause-room : goal.returns-then-len-self-clause-room
returns-then-len-self-clause-room c =
    let same = length-rows c.self.inside.wide.items c.self.inside.rows.items c.self.inside.effects.items in
    let entries = ap (λ (k : KeptEntriesView). length k.entries) c.self.view_is in
    omega (arith, same, entries, c.self.inside.rows.ok.0)

pub returns-clause-room : goal.returns-clause-room
returns-clause-room c =
    let same = length-rows c.reserve-2.new.list.items c.reserve.new.list.items c.reserve-3.new.list.items in
    omega (arith, same, c.in_ok-reserve.ensures.room, c.in_ok-reserve-2.ensures.room, c.in_ok-reserve-3.ensures.room, c.reserve.new.list.ok.0)
