use Rattle.std.proofs.Common.{◌≡◌, ◌++◌, ◌≤◌, drop, length, take, vec_capacity}
use Rattle.std.specs.Vec.Iter.{into_iter_items}
use Rattle.mb_build.specs.NewHomes.{AreAtFirst, directory_of}
use Rattle.mb_build.proofs.FreshLemmas.{AreSettled}
use Rattle.mb_build.proofs.HomeLemmas.{whose}
use Rattle.mb_build.proofs.homes.add_homes.Given as goal

abbrev pub invariant-loop-cell : goal.invariant-loop-cell
invariant-loop-cell g l = record {
  cells : l.yielded ++ into_iter_items l.cell-iterator ≡ l.fn.cells.items;
  count : length l.homes.items ≡ length l.yielded;
  room : length l.fn.cells.items ≤ vec_capacity l.homes;
  takes : into_iter_items l.takes ≡ drop (length l.homes.items) l.fn.takes.items;
  rows : into_iter_items l.rows ≡ drop (length l.homes.items) (into_iter_items l.initial.rows);
  first : AreAtFirst (directory_of (whose l.fn.cells.items) l.fn.takes.items) (drop 1 l.fn.takes.items) 0 (whose l.yielded)
      (take (length l.homes.items) l.fn.takes.items) l.homes.items;
  settled : AreSettled g.K.Behaviours.gives 0 l.homes.items;
}
