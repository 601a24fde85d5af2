use Rattle.std.proofs.Common.{◌≡◌, ◌≤◌, ℕ, List, Some, drop, length, map, slice_get, vec_capacity}
use Rattle.std.specs.Vec.Iter.{into_iter_items, into_iter_len}
use Rattle.mb_msg.specs.declared.envelope.Envelope.{Envelope}
use Rattle.mb_report.specs.declared.report.ActorReport.{ActorReport}
use Rattle.mb_shutdown.specs.Shown.{ShowsOne}
use Rattle.mb_shutdown.proofs.actor_reports.report_on.Given as goal

abbrev pub invariant-loop-one : goal.invariant-loop-one
invariant-loop-one g l =
    (into_iter_items l.one-iterator ≡ drop (length l.actors.items) l.fn.ended.items)
    × (into_iter_items l.lefts ≡ drop (length l.actors.items) l.fn.lefts.items)
    × (length l.actors.items ≤ length l.fn.ended.items)
    × (vec_capacity l.actors ≡ vec_capacity l.initial.actors)
    × (into_iter_len l.one-iterator ≡ length (into_iter_items l.one-iterator))
    × ((place : ℕ) (e : _) (left : List Envelope) (n : ℕ) (a : ActorReport) → slice_get l.fn.ended.items place ≡ Some e
    → slice_get (map (λ r. r.items) l.fn.lefts.items) place ≡ Some left → slice_get l.waiting place ≡ Some n
    → slice_get l.actors.items place ≡ Some a → ShowsOne g.K.Behaviours.after e left n a)
