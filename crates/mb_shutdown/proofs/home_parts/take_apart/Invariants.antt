use Rattle.std.proofs.Common.{◌≡◌, ◌++◌, map, vec_capacity}
use Rattle.std.specs.Vec.Iter.{into_iter_items}
use Rattle.mb_shutdown.specs.HomeParts.{AreApart}
use Rattle.mb_shutdown.proofs.home_parts.take_apart.Given as goal

abbrev pub invariant-loop-left : goal.invariant-loop-left
invariant-loop-left g l =
    AreApart l.yielded l.ended.items l.takes.items (map (λ r. r.items) l.rows.items) l.senders.items
    × (l.yielded ++ into_iter_items l.left-iterator ≡ l.fn.all.items)
    × (vec_capacity l.ended ≡ vec_capacity l.initial.ended) × (vec_capacity l.takes ≡ vec_capacity l.initial.takes)
    × (vec_capacity l.rows ≡ vec_capacity l.initial.rows) × (vec_capacity l.senders ≡ vec_capacity l.initial.senders)
