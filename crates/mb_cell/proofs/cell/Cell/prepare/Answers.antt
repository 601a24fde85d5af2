use Rattle.std.proofs.Common.{rules}
use Rattle.mb_cell.proofs.CellLaws.{lists-short}
use Rattle.mb_cell.proofs.cell.Cell.prepare.Goals as goal

pub make_room-requires-clause-few_children : goal.make_room-requires-clause-few_children
make_room-requires-clause-few_children g c = (lists-short _ _ _ _ _ c.self.invariant.0).children

pub make_room-requires-clause-few_watchers : goal.make_room-requires-clause-few_watchers
make_room-requires-clause-few_watchers g c = (lists-short _ _ _ _ _ c.self.invariant.0).watchers

pub make_room-requires-clause-few_watched : goal.make_room-requires-clause-few_watched
make_room-requires-clause-few_watched g c = (lists-short _ _ _ _ _ c.self.invariant.0).watching

pub returns-then-is_err-clause-err : goal.returns-then-is_err-clause-err
returns-then-is_err-clause-err g c = search rules

pub returns-then-is_full-clause-full : goal.returns-then-is_full-clause-full
returns-then-is_full-clause-full g c = search rules

pub returns-clause-ok : goal.returns-clause-ok
returns-clause-ok g c = search rules

pub invariant_of-self : goal.invariant_of-self
invariant_of-self g c = search rules

pub invariant_of-self-2 : goal.invariant_of-self-2
invariant_of-self-2 g c = search rules
