use Rattle.mb_dispatch_tests.proofs.handle_call.register.Goals as goal

pub register-is_pushed-requires-clause-same_gates : goal.register-is_pushed-requires-clause-same_gates
register-is_pushed-requires-clause-same_gates g c = (c.requires.same_gates.0, c.requires.same_gates.1)
