use Rattle.std.proofs.Common.{◌≡◌, reverse, take}
use Rattle.mb_world.proofs.alike.are_journals_equal.Given as goal

abbrev pub invariant-loop-place : goal.invariant-loop-place
invariant-loop-place l = take l.place (reverse l.one.entries) ≡ take l.place (reverse l.other.entries)
