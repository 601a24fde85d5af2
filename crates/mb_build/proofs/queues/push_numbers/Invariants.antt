use Rattle.std.proofs.Common.{◌≡◌, ◌++◌, ◌-◌, ◌≤◌}
use Rattle.mb_queue.specs.Made.{numbers_of}
use Rattle.mb_build.specs.Numbers.{numbers}
use Rattle.mb_build.proofs.queues.push_numbers.Given as goal

abbrev pub invariant-loop-number : goal.invariant-loop-number
invariant-loop-number l =
    (numbers_of l.senders.items ≡ numbers_of l.initial.senders.items ++ numbers l.first (l.number - l.first)) × (l.first ≤ l.number)
