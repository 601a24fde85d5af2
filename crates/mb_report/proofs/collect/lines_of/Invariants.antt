use Rattle.std.proofs.Common.{◌≡◌, ◌<◌, ◌^◌, ◌++◌, ◌∷◌, codes, drop, length, map, string_bytes}
use Rattle.std.specs.List.{All}
use Rattle.mb_report.specs.Kept.{kept}
use Rattle.mb_report.specs.Lines.{lines_from}
use Rattle.mb_report.specs.declared.line.Line.{Line}
use Rattle.mb_report.proofs.collect.lines_of.Given as goal

-- the lines so far, and those of the actors that are left, are all lines
abbrev pub invariant-loop-id : goal.invariant-loop-id
invariant-loop-id l = record {
  whole : map kept l.lines.items ++ lines_from l.report.senders.items l.id (drop l.id (codes "guardian" ∷ map string_bytes l.names))
      (drop l.id l.report.actors.items)
      ≡ lines_from l.report.senders.items 0 (codes "guardian" ∷ map string_bytes l.names) l.report.actors.items;
  within_limit : length l.lines.items ≡ l.id;
  below_bound : All (λ (line : Line). line.dead < 2 ^ 72) l.lines.items;
}
