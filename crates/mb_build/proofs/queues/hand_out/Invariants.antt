use Rattle.std.proofs.Common.{◌≡◌, ◌≤◌, length, map, vec_len}
use Rattle.mb_build.specs.Handed.{handed}
use Rattle.mb_build.proofs.queues.hand_out.Given as goal

abbrev pub invariant-loop-send : goal.invariant-loop-send
invariant-loop-send l =
    (handed (map (λ row. row.items) l.rows) l.sends.items ≡ handed (map (λ row. row.items) l.initial.rows) l.initial.sends.items)
    × (length l.rows ≡ length l.initial.rows) × (length l.sends.items ≤ length l.rows)

abbrev pub decreases-loop-send : goal.decreases-loop-send
decreases-loop-send l = vec_len l.sends
