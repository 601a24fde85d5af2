use Rattle.std.proofs.Common.{◌≡◌, ◌+◌, take}
use Rattle.mb_trace.specs.Text.{entries_in}
use Rattle.mb_trace.proofs.coverage.have_entries.Given as goal

-- the turns so far have as many as are no longer left
abbrev pub invariant-loop-turn : goal.invariant-loop-turn
invariant-loop-turn l = l.left + entries_in l.actor (take l.turn-index l.turns) ≡ l.entries
