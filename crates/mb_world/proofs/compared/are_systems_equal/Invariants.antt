use Rattle.std.proofs.Common.{◌≡◌, take}
use Rattle.mb_world.proofs.compared.are_systems_equal.Given as goal

abbrev pub invariant-loop-place : goal.invariant-loop-place
invariant-loop-place l = take l.place l.one.items ≡ take l.place l.other.items
