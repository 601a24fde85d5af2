use Rattle.std.proofs.Common.{None, arith}
use Rattle.std.proofs.lemmas.Option.{slice_get_within}
use Rattle.heddleorange.proofs.broken_off.missing.Goals as goal

pub unreachable-requires : goal.unreachable-requires
unreachable-requires c =
    let one = c.requires.one in let lt = slice_get_within c.args.actors.now one.0 None one.1 in let past = c.loop-number-test.false in
    c.loop-number.invariant one.0 (omega (arith, lt, past)) one.1
