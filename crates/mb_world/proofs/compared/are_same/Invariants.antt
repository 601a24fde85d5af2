use Rattle.std.proofs.Common.{◌≡◌, map, take}
use Rattle.mb_world.proofs.compared.are_same.Given as goal

abbrev pub invariant-loop-place : goal.invariant-loop-place
invariant-loop-place g l = map g.T.Compared.part (take l.place l.one) ≡ map g.T.Compared.part (take l.place l.other)
