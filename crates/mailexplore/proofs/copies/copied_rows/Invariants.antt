use Rattle.std.proofs.Common.{◌≡◌, map, take}
use Rattle.mb_script.specs.Script.{row_data}
use Rattle.mailexplore.proofs.copies.copied_rows.Given as goal

abbrev pub invariant-loop-row : goal.invariant-loop-row
invariant-loop-row l = map row_data l.copies.items ≡ map row_data (take l.row-index l.rows)
