use Rattle.std.proofs.Common.{◌≤◌, length, get_or, ap, ◌∙◌, arith}
use Rattle.mb_journal.specs.KeptEntriesView.{KeptEntriesView}
use Rattle.mb_journal.specs.Stored.{rows_of}
use Rattle.mb_journal.proofs.NewestEffects.{newest-fits, newest-read}
use Rattle.mb_journal.proofs.kept_entries.KeptEntries.newest_effect.Goals as goal

fits : (c : goal.After-len) → c.args.place ≤ length c.self.inside.effects.items
fits c =
    newest-fits (rows_of c.self.inside) c.self.inside.effects.items c.args.self.now.entries c.args.place c.self.invariant.in_order
    (ap (λ (j : KeptEntriesView). j.entries) c.self.view_is) c.requires.above_0 c.requires.within

pub overflow_sub-len : goal.overflow_sub-len
overflow_sub-len c = omega (arith, fits c, c.self.inside.effects.ok.0)

pub index-requires : goal.index-requires
index-requires c = omega (arith, fits c, c.self.inside.effects.ok.0, c.requires.above_0)

pub returns : goal.returns
returns c =
    newest-read (rows_of c.self.inside) c.self.inside.effects.items c.args.self.now.entries c.args.place c.self.invariant.in_order
    (ap (λ (j : KeptEntriesView). j.entries) c.self.view_is) c.requires.above_0 c.requires.within c.index.result.now
    (c.index.ensures ∙ ap (λ n. get_or c.self.inside.effects.items n c.index.result.now)
    (omega (arith, c.self.inside.effects.ok.0)))
