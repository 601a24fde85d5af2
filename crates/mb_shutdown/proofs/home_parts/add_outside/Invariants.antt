use Rattle.std.proofs.Common.{◌≡◌, ◌+◌, ◌<◌, ◌≤◌, ◌^◌, ◌++◌, length, map, vec_capacity}
use Rattle.std.specs.Prelude.{All}
use Rattle.std.specs.Vec.Iter.{into_iter_items}
use Rattle.mb_shutdown.specs.HomeParts.{sent_of}
use Rattle.mb_shutdown.proofs.home_parts.add_outside.Given as goal

abbrev pub invariant-loop-outsider : goal.invariant-loop-outsider
invariant-loop-outsider l =
    (map (λ r. r.items) l.rows.items ≡ map (λ r. r.items) l.initial.rows.items ++ map (λ o. o.sends.items) l.yielded)
    × (map sent_of l.senders.items ≡ map sent_of l.initial.senders.items ++ map (λ o. (o.send_log.sent, o.send_log.dead.items, o.send_log.dead.retention)) l.yielded)
    × All (λ o. o.send_log.sent < 2 ^ 64) l.yielded
    × (l.yielded ++ into_iter_items l.outsider-iterator ≡ l.fn.outside.items)
    × (length l.rows.items + length (into_iter_items l.outsider-iterator) ≤ vec_capacity l.rows)
    × (length l.senders.items + length (into_iter_items l.outsider-iterator) ≤ vec_capacity l.senders)
