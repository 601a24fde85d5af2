use Rattle.std.proofs.Common.{◌≡◌, drop, map}
use Rattle.mb_script.specs.Script.{row_data, row_for}
use Rattle.mb_trace.proofs.state.row_of_kind.Given as goal

abbrev pub invariant-loop-row : goal.invariant-loop-row
invariant-loop-row l = row_for l.kind (map row_data l.rows) ≡ row_for l.kind (map row_data (drop l.row-index l.rows))
