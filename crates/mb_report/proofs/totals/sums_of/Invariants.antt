use Rattle.std.proofs.Common.{◌≡◌, ◌*◌, ◌≤◌, ◌^◌, take, sum_by}
use Rattle.mb_report.specs.declared.line.Line.{Line}
use Rattle.mb_report.proofs.totals.sums_of.Given as goal

-- each total is the sum over the lines so far
abbrev pub invariant-loop-line : goal.invariant-loop-line
invariant-loop-line l = record {
  handled : l.sums.handled ≡ sum_by (λ (line : Line). line.handled) (take l.line-index l.lines);
  left : l.sums.left ≡ sum_by (λ (line : Line). line.left) (take l.line-index l.lines);
  dead : l.sums.dead ≡ sum_by (λ (line : Line). line.dead) (take l.line-index l.lines);
  handled_fits : l.sums.handled ≤ l.line-index * 2 ^ 72;
  left_fits : l.sums.left ≤ l.line-index * 2 ^ 72;
  dead_fits : l.sums.dead ≤ l.line-index * 2 ^ 72;
}
