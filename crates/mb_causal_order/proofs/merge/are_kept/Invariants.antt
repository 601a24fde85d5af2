use Rattle.std.proofs.Common.{◌≡◌, true, take}
use Rattle.std.specs.Prelude.{All}
use Rattle.mb_report.specs.declared.report.ActorReport.{ActorReport}
use Rattle.mb_causal_order.proofs.merge.are_kept.Given as goal

-- the journals so far keep their entries
abbrev pub invariant-loop-actor : goal.invariant-loop-actor
invariant-loop-actor l = All (λ (a : ActorReport). a.journal.retention.keeps_all ≡ true) (take l.actor-index l.actors)
