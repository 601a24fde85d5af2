use Rattle.std.proofs.Common.{rules, ◌≡◌, ◌≤◌, length, reverse}
use Rattle.mb_journal.specs.JournalView.{entry_of}
use Rattle.mb_world.proofs.AlikeLemmas.{reversed-same, some-same}
use Rattle.mb_world.proofs.alike.are_journals_equal.Goals as goal

pub loop-place-preserved : goal.loop-place-preserved
loop-place-preserved c =
    let same : entry_of c.in-Some.entry ≡ entry_of c.in-Some-entry.other_entry = search rules in
    some-same (reverse c.args.one.now.entries) (reverse c.args.other.now.entries) c.loop-place.place (entry_of c.in-Some.entry)
    (entry_of c.in-Some-entry.other_entry) c.in-Some.ensures.read c.in-Some-entry.ensures.read c.loop-place.invariant same

pub returns : goal.returns
returns c holds =
    let one = c.args.one.now.entries in let other = c.args.other.now.entries in let low : length one ≤ c.loop-place.place = search rules in
    let high : length other ≤ c.loop-place.place = search rules in reversed-same one other c.loop-place.place low high c.loop-place.invariant
