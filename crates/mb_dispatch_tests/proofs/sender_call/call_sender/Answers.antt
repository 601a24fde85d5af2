use Rattle.std.proofs.Common.{ap}
use Rattle.mb_pool.specs.Places.{gates_of}
use Rattle.mb_system.proofs.Senders.{sender-same, sender-still}
use Rattle.mb_dispatch_tests.proofs.sender_call.call_sender.Goals as goal

pub tell-requires-clause-same_gates : goal.tell-requires-clause-same_gates
tell-requires-clause-same_gates g c = (c.requires.same_gates.same_gates.0, c.requires.same_gates.same_gates.1)

pub tell-requires-clause-all : goal.tell-requires-clause-all
tell-requires-clause-all g c = (c.requires.same_gates.all, c.requires.same_gates.same_gates.2)

pub stop-requires-clause-same_gates : goal.stop-requires-clause-same_gates
stop-requires-clause-same_gates g c = (c.requires.same_gates.same_gates.0, c.requires.same_gates.same_gates.1)

pub stop-requires-clause-all : goal.stop-requires-clause-all
stop-requires-clause-all g c = (c.requires.same_gates.all, c.requires.same_gates.same_gates.2)

pub look-requires-clause-same_gates : goal.look-requires-clause-same_gates
look-requires-clause-same_gates g c = c.requires.same_gates.same_gates.0

pub look-requires-clause-all : goal.look-requires-clause-all
look-requires-clause-all g c = c.requires.same_gates.all

pub returns-in-Tell-clause-same_gates : goal.returns-in-Tell-clause-same_gates
returns-in-Tell-clause-same_gates g c =
    sender-still _ _ _ c.requires.same_gates c.tell.ensures.leaves.same_gates.0 c.tell.ensures.leaves.same_gates.1 c.tell.ensures.leaves.same.1 c.tell.ensures.leaves.queues

pub returns-in-Stop-clause-same_gates : goal.returns-in-Stop-clause-same_gates
returns-in-Stop-clause-same_gates g c =
    sender-same _ _ _ c.requires.same_gates c.stop.ensures.leaves.same_gates.0 c.stop.ensures.leaves.same_gates.1 c.stop.ensures.same.1

pub returns-in-Look-clause-same_gates : goal.returns-in-Look-clause-same_gates
returns-in-Look-clause-same_gates g c =
    let same = c.look.ensures.same in
    sender-same _ _ _ c.requires.same_gates same.4 (ap (λ run_queue. gates_of run_queue.feed) same.3) same.1

pub returns-in-Tell-clause-same_sender : goal.returns-in-Tell-clause-same_sender
returns-in-Tell-clause-same_sender g c = c.tell.ensures.leaves.same.0

pub returns-in-Stop-clause-same_sender : goal.returns-in-Stop-clause-same_sender
returns-in-Stop-clause-same_sender g c = ap (λ send_log. send_log.by) c.stop.ensures.same.0

pub returns-in-Look-clause-same_sender : goal.returns-in-Look-clause-same_sender
returns-in-Look-clause-same_sender g c = ap (λ send_log. send_log.by) c.look.ensures.same.0
