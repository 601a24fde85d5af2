use Rattle.std.specs.List.{IsFirstBest}
use Rattle.mb_message_queue.specs.MessageQueue.{goes_before}
use Rattle.mb_message_queue.proofs.order.next_place.Given as goal

abbrev pub invariant-loop-i : goal.invariant-loop-i
invariant-loop-i l = IsFirstBest (goes_before l.mailbox) l.envelopes l.i l.best
