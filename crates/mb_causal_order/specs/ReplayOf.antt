-- What a replay is of.
use Rattle.std.specs.Prelude.{List}
use Rattle.mb_msg.specs.declared.order.SenderOrder.{SenderOrder}
use Rattle.mb_journal.specs.Identity.{Identity}
use Rattle.mb_report.specs.declared.report.ActorReport.{ActorReport}
use Rattle.mb_causal_order.specs.Replayed.{IsAccounted}
use Rattle.mb_causal_order.specs.declared.place.Place.{Place}
use Rattle.mb_causal_order.specs.declared.replay.Replay.{Replay}

-- the entries of this order, and no others, were replayed
abbrev pub IsReplayOf : List Identity → List SenderOrder → List ActorReport → List Place → Replay → Type 0
IsReplayOf who orders actors order replay = IsAccounted who orders actors order replay.cells.items replay.outstanding.rows.items
