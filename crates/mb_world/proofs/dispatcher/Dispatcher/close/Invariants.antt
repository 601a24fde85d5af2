use Rattle.std.proofs.Common.{◌≡◌, length}
use Rattle.mb_world.specs.Dispatched.{marks_of}
use Rattle.mb_world.proofs.dispatcher.Dispatcher.close.Given as goal

abbrev pub invariant-loop-message : goal.invariant-loop-message
invariant-loop-message l =
    (goal.iterator-loop-message).can_next l.message-iterator
    × (goal.iterator-loop-message).is_finite l.message-iterator
    × (marks_of l.self.mailboxes.items ≡ marks_of l.initial.self.mailboxes.items)
    × (length l.self.logs.items ≡ length l.initial.self.logs.items)
