use Rattle.std.proofs.Common.{◌≡◌, map, take}
use Rattle.std.specs.Prelude.{filter}
use Rattle.mb_trace_forms.specs.Order.{is_among, single}
use Rattle.mb_trace_forms.proofs.order.entries_at.Given as goal

-- the parts so far are the places so far
abbrev pub invariant-loop-place : goal.invariant-loop-place
invariant-loop-place l = l.parts.items ≡ map single (filter (is_among l.actors) (take l.place-index l.places))
