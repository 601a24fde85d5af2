use Rattle.std.proofs.Common.{◌≡◌, ◌+◌, ◌++◌, drop}
use Rattle.mb_trace.specs.Actors.{children_from}
use Rattle.mb_trace.proofs.steps.children_of_guardian.Given as goal

-- the children so far, and those among the actors that are left
abbrev pub invariant-loop-index : goal.invariant-loop-index
invariant-loop-index l = l.children.items ++ children_from (l.index + 1) 0 (drop l.index l.actors) ≡ children_from 1 0 l.actors
