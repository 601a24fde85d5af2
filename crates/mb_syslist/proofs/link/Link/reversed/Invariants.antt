use Rattle.std.proofs.Common.{◌≡◌, ◌++◌, reverse, length}
use Rattle.mb_syslist.specs.Boxes.{boxed}
use Rattle.mb_syslist.proofs.link.Link.reversed.Given as goal

-- what is turned already, with what is left before it, is the whole
abbrev pub invariant-loop-entry : goal.invariant-loop-entry
invariant-loop-entry l = reverse (boxed l.left) ++ boxed l.turned ≡ reverse (boxed l.initial.left)

abbrev pub decreases-loop-entry : goal.decreases-loop-entry
decreases-loop-entry l = length (boxed l.left)
