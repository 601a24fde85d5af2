use Rattle.std.proofs.Common.{sym, ◌∙◌}
use Rattle.mb_gate_tests.proofs.sends.queues.threads.run_three.Goals as goal

-- the last take gave nothing, and did not change the discipline
pub expect_all_taken-requires-clause-in_order : goal.expect_all_taken-requires-clause-in_order
expect_all_taken-requires-clause-in_order g c = λ discipline. c.in-None.ensures.given_all.in_order (sym c.take.ensures.same.1 ∙ discipline)
