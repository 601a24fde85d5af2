use Rattle.mb_system.proofs.Senders.{sender-still}
use Rattle.mb_dispatch_tests.proofs.sender_call.put.Goals as goal

pub put-requires-clause-same_gates : goal.put-requires-clause-same_gates
put-requires-clause-same_gates g c = (c.requires.same_gates.same_gates.0, c.requires.same_gates.same_gates.1)

pub put-requires-clause-all : goal.put-requires-clause-all
put-requires-clause-all g c = c.requires.same_gates.all

pub returns-clause-same_gates : goal.returns-clause-same_gates
returns-clause-same_gates g c =
    sender-still _ _ _ c.requires.same_gates c.put.ensures.leaves.same_gates.0 c.put.ensures.leaves.same_gates.1 c.put.ensures.leaves.same.1 c.put.ensures.leaves.queues

pub returns-clause-same_sender : goal.returns-clause-same_sender
returns-clause-same_sender g c = c.put.ensures.leaves.same.0
