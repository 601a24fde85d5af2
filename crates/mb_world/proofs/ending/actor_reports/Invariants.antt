use Rattle.std.proofs.Common.{◌≡◌, length}
use Rattle.std.specs.Vec.Iter.{into_iter_items}
use Rattle.mb_world.proofs.EndLemmas.{IsRestOf}
use Rattle.mb_world.proofs.ending.actor_reports.Given as goal

abbrev pub invariant-loop-cell : goal.invariant-loop-cell
invariant-loop-cell g l = record {
  as_many : length (into_iter_items l.mailboxes) ≡ length (into_iter_items l.cell-iterator);
  shown : IsRestOf g.K.Behaviours.after g.K.Behaviours.gives (into_iter_items l.cell-iterator) (into_iter_items l.mailboxes) l.fn.cells.items
      l.fn.mailboxes.items l.reports.items;
}
