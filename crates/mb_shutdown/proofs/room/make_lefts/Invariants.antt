use Rattle.std.proofs.Common.{◌≡◌, length, vec_capacity}
use Rattle.std.specs.List.{AllZip}
use Rattle.mb_gate.specs.Accessors.{pass_view, pass_id}
use Rattle.mb_gate.specs.Rule.{IsPart}
use Rattle.mb_shutdown.specs.Rooms.{AreCounted, HasOnlyCounted, IsEmptyWithRoom}
use Rattle.mb_shutdown.proofs.room.make_lefts.Given as goal

abbrev pub invariant-loop-number : goal.invariant-loop-number
invariant-loop-number g l =
    (pass_id l.pass ≡ pass_id l.initial.pass) × IsPart (pass_view l.initial.pass).log (pass_view l.pass).log
    × (length l.counts.items ≡ l.number) × AllZip IsEmptyWithRoom l.counts.items l.lefts.items
    × (vec_capacity l.counts ≡ vec_capacity l.initial.counts) × (vec_capacity l.lefts ≡ vec_capacity l.initial.lefts)
    × (length l.lefts.items ≡ l.number)
    × AreCounted (pass_view l.pass).log l.counts.items × HasOnlyCounted (pass_view l.initial.pass) (pass_view l.pass)
