use Rattle.std.proofs.Common.{◌≡◌, ◌-◌, ◌≤◌, length, vec_len}
use Rattle.std.specs.Io.KnownBytes.{Consumes}
use Rattle.mb_streams.proofs.input.read_input.Given as goal

abbrev pub invariant-loop-chunk : goal.invariant-loop-chunk
invariant-loop-chunk g l = record {
  read : Consumes (g.R.Read.remaining l.fn.reader.stream) (g.R.Read.remaining l.reader.stream) l.text.items;
  within : vec_len l.text ≤ 1048577;
  chunk : length l.chunk ≡ 8192;
  same : l.reader.failed ≡ l.fn.reader.failed;
}

abbrev pub decreases-loop-chunk : goal.decreases-loop-chunk
decreases-loop-chunk g l = 1048577 - vec_len l.text
