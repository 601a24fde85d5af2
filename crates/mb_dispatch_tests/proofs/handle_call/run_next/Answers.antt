use Rattle.std.proofs.Common.{subst}
use Rattle.std.specs.Global.{Box}
use Rattle.std.specs.Prelude.{Option}
use Rattle.mb_gate.specs.Untouched.{Origin}
use Rattle.mb_home.specs.Contents.{Contents}
use Rattle.mb_home.specs.Fresh.{IsFreshClaim}
use Rattle.mb_dispatch_tests.proofs.Kept.{took}
use Rattle.mb_dispatch_tests.proofs.handle_call.run_next.Goals as goal

pub run_mailbox-requires-clause-same_gates : goal.run_mailbox-requires-clause-same_gates
run_mailbox-requires-clause-same_gates g c = took c.args.system.now.gates c.args.handle.now c.take.new.self c.take.ensures.same c.requires.same_gates

pub run_mailbox-requires-clause-untouched : goal.run_mailbox-requires-clause-untouched
run_mailbox-requires-clause-untouched g c =
    subst (λ (o : Option (Origin (Box Contents))). IsFreshClaim g.K.Behaviours.gives o c.in-Some.claim) c.requires.same_gates.1 c.in-Some.ensures.untouched

pub run_mailbox-requires-clause-same_count : goal.run_mailbox-requires-clause-same_count
run_mailbox-requires-clause-same_count g c = c.args.system.now.directory

pub returns-in-None : goal.returns-in-None
returns-in-None g c = record { same_gates = took c.args.system.now.gates c.args.handle.now c.take.new.self c.take.ensures.same c.requires.same_gates }
