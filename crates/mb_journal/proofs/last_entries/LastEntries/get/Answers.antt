use Rattle.std.proofs.Common.{◌-◌, reverse, sym, ap, ◌∙◌, arith}
use Rattle.std.specs.Prelude.{slice_get}
use Rattle.mb_journal.specs.LastEntries.{LastEntriesView}
use Rattle.mb_journal.proofs.LastLemmas.{first-seen, stands-older, stands-newer}
use Rattle.mb_journal.proofs.last_entries.LastEntries.get.Goals as goal

pub returns-then-place-older : goal.returns-then-place-older
returns-then-place-older c =
    let gone =
    first-seen _ _ _ _ _ _ c.self.view_is c.first_kept.ensures c.self.invariant.above_0 c.self.invariant.not_full
    c.self.invariant.full_lists in
    let place = c.args.index - c.first_kept.result in
    ap (λ (v : LastEntriesView). slice_get (reverse v.entries) c.args.index) (sym c.self.view_is)
    ∙ (stands-older c.self.inside.newer.entries c.self.inside.older.entries c.self.inside.gone c.args.index place
    (omega (arith, gone, c.requires.kept, c.first_kept.ensures)) (omega (arith, c.len-older.ensures))
    ∙ c.get.ensures)

pub returns : goal.returns
returns c =
    let gone =
    first-seen _ _ _ _ _ _ c.self.view_is c.first_kept.ensures c.self.invariant.above_0 c.self.invariant.not_full
    c.self.invariant.full_lists in
    let place = c.args.index - c.first_kept.result - c.len-older.result in
    ap (λ (v : LastEntriesView). slice_get (reverse v.entries) c.args.index) (sym c.self.view_is)
    ∙ (stands-newer c.self.inside.newer.entries c.self.inside.older.entries c.self.inside.gone c.args.index place
    (omega (arith, gone, c.requires.kept, c.first_kept.ensures, c.len-older.ensures))
    ∙ c.get-2.ensures)
