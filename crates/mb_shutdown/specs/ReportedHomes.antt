-- That a report is made of what the gates gave back.
use Rattle.std.specs.Prelude.{◌≡◌, ℕ, List, length}
use Rattle.mb_actor.specs.Behaviour.{Moment, Reply}
use Rattle.mb_gate.specs.View.{View}
use Rattle.mb_home.specs.Contents.{Contents}
use Rattle.mb_home.specs.Directory.{DirectoryEntry}
use Rattle.mb_shutdown.specs.Homes.{HomesReturned}
use Rattle.mb_report.specs.declared.report.Report.{Report}
use Rattle.mb_shutdown.specs.Refused.{LeavesCounted}

-- The report is made of what gates with this directory gave back: each home came back; and the report shows the homes' journals, counts all that each
-- list gave, shows as cleaned up and as dead letters what the homes have, and leaves as many envelopes as were read as waiting.
pub record IsOfHomes (gives : ℕ → Moment → Reply → Type 0) (directory : List DirectoryEntry) (report : Report) : Type 0 where
  pub first : Contents
  pub same_directory : first.directory ≡ directory
  pub view : View
  pub home : HomesReturned gives first (length directory) view report
  pub counted : LeavesCounted view.log report
