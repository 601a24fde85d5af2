-- That the journals of a report extend those that were seen.
use Rattle.std.specs.Prelude.{◌≡◌, Some, slice_get}
use Rattle.mb_actor.specs.declared.phase.Phase.TheVariants.{Ended as EndedPhase}
use Rattle.mb_gate.specs.Rule.{Extends}
use Rattle.mb_gate.specs.View.{View, Observation, Read, Saw, Counted, Looked, Sent, Unsent, Took, Pushed, Drained, Ended}
use Rattle.mb_ghost.specs.Seen.{Each}
use Rattle.mb_report.specs.declared.report.ActorReport.{ActorReport}
use Rattle.mb_report.specs.declared.report.Report.{Report}

-- The journal that is reported of the actor extends the one that was seen. An actor whose list was seen ended is reported as ended.
abbrev pub ReportExtends : Report → Observation → Type 0
ReportExtends report (Saw actor journal) =
    (a : ActorReport) → slice_get report.actors.items actor ≡ Some a → Extends a.journal.entries journal
ReportExtends report (Read actor word) = Unit {0}
ReportExtends report (Counted actor waiting) = Unit {0}
ReportExtends report (Looked actor has_work) = Unit {0}
ReportExtends report (Sent actor n) = Unit {0}
ReportExtends report (Unsent actor n) = Unit {0}
ReportExtends report (Took actor n) = Unit {0}
ReportExtends report (Pushed actor number message) = Unit {0}
ReportExtends report (Drained actor given) = Unit {0}
ReportExtends report (Ended actor given) =
    (a : ActorReport) → slice_get report.actors.items actor ≡ Some a → a.phase ≡ EndedPhase

-- The journals of the report extend all that this view has seen.
abbrev pub ReportExtendsAll : Report → View → Type 0
ReportExtendsAll report view = Each (ReportExtends report) view.log
