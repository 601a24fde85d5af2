use Rattle.std.proofs.Common.{◌≡◌, take}
use Rattle.mb_world.proofs.compared.are_equal.Given as goal

abbrev pub invariant-loop-place : goal.invariant-loop-place
invariant-loop-place g l = take l.place l.one ≡ take l.place l.other
