-- A line as the code keeps it (this project's own profile).
use Rattle.std.specs.Prelude.{string_bytes}
use Rattle.mb_report.specs.Lines.{LineData}
use Rattle.mb_report.specs.declared.line.Line.{Line}

-- a line of the code, as contracts see it
abbrev pub kept : Line → LineData
kept line = record {
  name = string_bytes line.name;
  phase = line.phase;
  state = line.state;
  suspended = line.suspended;
  handled = line.handled;
  left = line.left;
  dead = line.dead;
  restarts = line.restarts;
}
