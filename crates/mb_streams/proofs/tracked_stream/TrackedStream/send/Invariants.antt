use Rattle.std.proofs.Common.{◌≡◌, ◌-◌, ◌≤◌, length, take}
use Rattle.std.specs.Io.KnownBytes.{Appends}
use Rattle.mb_streams.proofs.tracked_stream.TrackedStream.send.Given as goal

abbrev pub invariant-loop-sent : goal.invariant-loop-sent
invariant-loop-sent g l = record {
  within : l.sent ≤ length l.bytes;
  so_far : Appends (g.W.Write.contents l.fn.self.stream) (g.W.Write.contents l.self.stream) (take l.sent l.bytes);
  same : l.self.failed ≡ l.fn.self.failed;
}

abbrev pub decreases-loop-sent : goal.decreases-loop-sent
decreases-loop-sent g l = length l.bytes - l.sent
