use Rattle.std.proofs.Common.{◌≡◌, ◌≤◌, vec_len}
use Rattle.mb_supervision.proofs.act_queue.make_nodes.Given as goal

abbrev pub invariant-loop-made : goal.invariant-loop-made
invariant-loop-made l = record { as_counted : vec_len l.nodes ≡ l._made; no_fewer : vec_len l.fn.nodes ≤ vec_len l.nodes }
