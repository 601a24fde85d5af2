use Rattle.std.proofs.Common.{map}
use Rattle.std.specs.Prelude.{IsPermutation}
use Rattle.mb_shutdown.proofs.Places.{ArePlaced}
use Rattle.mb_shutdown.proofs.missing.sort_by_number.Given as goal

abbrev pub invariant-loop-place : goal.invariant-loop-place
invariant-loop-place g l = record {
  same : IsPermutation l.all l.initial.all;
  placed : ArePlaced (map g.T.Numbered.numbered l.all) l.place;
}
