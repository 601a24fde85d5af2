use Rattle.std.proofs.Common.{◌≡◌, ◌+◌, ◌++◌, drop}
use Rattle.mb_build.specs.Identities.{children_from}
use Rattle.mb_causal_order.proofs.planned_cells.children.Given as goal

abbrev pub invariant-loop-parent : goal.invariant-loop-parent
invariant-loop-parent l = (l.number ≡ l.parent-index + 1)
    × (l.children.items ++ children_from l.number l.this.0 (drop l.parent-index l.parents) ≡ children_from 1 l.this.0 l.parents)
