use Rattle.std.proofs.Common.{◌∙◌, ap, arith, length, map}
use Rattle.std.proofs.lemmas.List.Sorted.{IsPermutation-refl, IsPermutation-sym, IsPermutation-trans}
use Rattle.std.proofs.lemmas.Option.{slice_get_within}
use Rattle.mb_build.specs.Numbers.{numbers}
use Rattle.mb_shutdown.proofs.Lists.{length-mapped}
use Rattle.mb_shutdown.proofs.Places.{none-placed, numbers-placed, placed-more, still-there}
use Rattle.mb_shutdown.proofs.missing.sort_by_number.Goals as goal

pub loop-place-init : goal.loop-place-init
loop-place-init g c = record {
  same = IsPermutation-refl c.args.all.now;
  placed = none-placed (map g.T.Numbered.numbered c.args.all.now);
}

pub unreachable-requires : goal.unreachable-requires
unreachable-requires g c =
    c.in_default.ensures (still-there g.T.Numbered.numbered c.loop-place.all c.args.all.now (length c.args.all.now) c.loop-place.place
    c.loop-place.invariant.same c.requires.present c.loop-place-test.true)

pub swap-requires : goal.swap-requires
swap-requires g c =
    let now = c.loop-place.all in
    let lt = slice_get_within (map g.T.Numbered.numbered now) c.in-Some.other c.loop-place.place c.in-Some.ensures in
    let many = length-mapped g.T.Numbered.numbered now in record {
      a_in_bounds = omega (arith, c.loop-place-test.true, c.loop-place.auto.all);
      b_in_bounds = omega (arith, lt, many);
    }

pub loop-place-preserved : goal.loop-place-preserved
loop-place-preserved g c =
    let now = c.loop-place.all in
    let new = c.swap.new.self in record {
      same = IsPermutation-trans new now c.args.all.now (IsPermutation-sym now new c.swap.ensures.permutation) c.loop-place.invariant.same;
      placed = placed-more g.T.Numbered.numbered now new c.loop-place.place c.in-Some.other c.loop-place.invariant.placed
          (omega (arith, c.loop-place-test.true, c.loop-place.auto.all)) c.in-Some.ensures c.swap.ensures.after;
    }

pub returns : goal.returns
returns g c = record {
  numbers = numbers-placed g.T.Numbered.numbered c.loop-place.all c.loop-place.place
      (omega (arith, c.loop-place-test.false, c.loop-place.auto.all)) c.loop-place.invariant.placed ∙ ap (numbers 0) c.loop-place.auto.all;
  same = c.loop-place.invariant.same;
}
