use Rattle.std.proofs.Common.{◌≡◌, ◌*◌, ◌≤◌, ◌^◌, take}
use Rattle.mb_report.specs.Counts.{refused_to}
use Rattle.mb_report.proofs.refused.refused_to.Given as goal

-- the letters of the senders so far are counted
abbrev pub invariant-loop-sender : goal.invariant-loop-sender
invariant-loop-sender l = record {
  counted : l.refused ≡ refused_to l.id.0 (take l.sender-index l.senders);
  within : l.refused ≤ l.sender-index * 2 ^ 64;
}
