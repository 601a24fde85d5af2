use Rattle.std.proofs.Common.{◌≡◌, true, take}
use Rattle.std.specs.Prelude.{All}
use Rattle.mb_report.specs.declared.report.ActorReport.{ActorReport}
use Rattle.mb_trace.proofs.kept.keep_entries.Given as goal

-- the actors so far keep their entries and what was cleaned up
abbrev pub invariant-loop-actor : goal.invariant-loop-actor
invariant-loop-actor l = All (λ (a : ActorReport). (a.journal.retention.keeps_all ≡ true) × (a.cleaned.retention.keeps_all ≡ true)) (take l.actor-index l.actors)
