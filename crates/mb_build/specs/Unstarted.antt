-- The cells of a new system (`akka.actor.ActorCell`, before its Create).
use Rattle.std.specs.Prelude.{[], false}
use Rattle.mb_cell.specs.CellView.{CellView}
use Rattle.mb_journal.specs.Identity.{Identity}

-- The cell of an actor to which nothing came yet.
abbrev pub unstarted : Identity → CellView
unstarted who = record { who = who; journal = []; acts = []; is_ready = false }
