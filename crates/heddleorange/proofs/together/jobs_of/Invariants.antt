use Rattle.std.proofs.Common.{◌≡◌, ◌++◌, length, map, take}
use Rattle.std.specs.Vec.Iter.{into_iter_items}
use Rattle.heddleorange.proofs.together.jobs_of.Given as goal

abbrev pub invariant-loop-sender : goal.invariant-loop-sender
invariant-loop-sender g l = (l.yielded ++ into_iter_items l.sender-iterator ≡ l.fn.senders.items) × (map (λ j. j.sender) l.jobs.items ≡ l.yielded)
    × (map (λ j. j.sends.items) l.jobs.items ≡ map (λ v. v.items) (take (length l.jobs.items) l.sends))
