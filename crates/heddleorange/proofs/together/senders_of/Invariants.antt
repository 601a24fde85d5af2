use Rattle.std.proofs.Common.{◌≡◌, ◌++◌, map, vec_capacity}
use Rattle.std.specs.Vec.Iter.{into_iter_items}
use Rattle.heddleorange.proofs.together.senders_of.Given as goal

abbrev pub invariant-loop-job : goal.invariant-loop-job
invariant-loop-job g l = (l.yielded ++ into_iter_items l.job-iterator ≡ l.fn.jobs.items) × (l.senders.items ≡ map (λ j. j.sender) l.yielded)
    × (vec_capacity l.senders ≡ vec_capacity l.initial.senders)
