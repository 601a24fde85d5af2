use Rattle.std.proofs.Common.{◌≡◌, ◌+◌, ◌++◌, length, vec_capacity}
use Rattle.std.specs.Vec.Iter.{into_iter_items}
use Rattle.mb_build.specs.BehavesAsPlanned.{BehaveAsPlanned}
use Rattle.mb_build.proofs.CellLemmas.{cells_from}
use Rattle.mb_build.proofs.cells.add_cells.Given as goal

abbrev pub invariant-loop-actor : goal.invariant-loop-actor
invariant-loop-actor g l = record {
  whole : l.cells.items ++ cells_from (length l.parents + 1) l.journal l.journal_limit l.parents (length l.cells.items) (into_iter_items l.plans)
      ≡ l.initial.cells.items ++ cells_from (length l.parents + 1) l.journal l.journal_limit l.parents 1 l.fn.plans.items;
  as_many : length (into_iter_items l.plans) ≡ length (into_iter_items l.actor-iterator);
  left : length l.cells.items + length (into_iter_items l.actor-iterator) ≡ length l.parents + 1;
  room : vec_capacity l.cells ≡ length l.parents + 1;
  behaved : BehaveAsPlanned g.A.Actor.content g.A.Actor.after g.A.Actor.gives g.K.Behaviours.after g.K.Behaviours.gives (length l.cells.items)
      (into_iter_items l.actor-iterator);
}
