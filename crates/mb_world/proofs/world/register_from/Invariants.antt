use Rattle.std.proofs.Common.{◌≡◌, length}
use Rattle.mb_world.specs.Dispatched.{marks_of}
use Rattle.mb_world.proofs.world.register_from.Given as goal

abbrev pub invariant-loop-number : goal.invariant-loop-number
invariant-loop-number l =
    (marks_of l.dispatcher.mailboxes.items ≡ marks_of l.initial.dispatcher.mailboxes.items)
    × (length l.dispatcher.logs.items ≡ length l.initial.dispatcher.logs.items)
