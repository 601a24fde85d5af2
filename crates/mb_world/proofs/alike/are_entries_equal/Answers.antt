use Rattle.std.proofs.Common.{rules, ◌≡◌}
use Rattle.mb_journal.specs.JournalView.{entry_with}
use Rattle.mb_world.proofs.alike.are_entries_equal.Goals as goal

pub returns-then-equals : goal.returns-then-equals
returns-then-equals c holds =
    let arrival : c.args.one.arrival ≡ c.args.other.arrival = search rules in
    let effects : c.args.one.effects.now ≡ c.args.other.effects.now = c.are_equal.ensures holds in λ i. entry_with (arrival i) (effects i)
