-- What a report keeps of its run (this project's own profile: Akka keeps neither journals nor dead letters).
use Rattle.mb_msg.specs.JournalMode.{retention_of}
use Rattle.mb_msg.specs.declared.plan.Plan.{Plan}
use Rattle.mb_report.specs.Keeps.{Keeps}
use Rattle.mb_report.specs.declared.report.Report.{Report}

-- The report keeps as much as the plan says of each journal, of the envelopes that were cleaned up, and of the dead letters of each sender: all, so that they
-- can be read, or at least so many of the newest.
abbrev pub KeepsAsPlanned : Plan → Report → Type 0
KeepsAsPlanned plan report = Keeps (retention_of plan.journal) report
