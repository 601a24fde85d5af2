use Rattle.std.proofs.Common.{arith}
use Rattle.mb_dispatch.proofs.Pairs.{first-and-others}
use Rattle.mb_dispatch.proofs.paired.+pairs.Goals as goal

pub each_pair_in_parallel-one_pair_beside_others-first-requires-clause-one : goal.each_pair_in_parallel-one_pair_beside_others-first-requires-clause-one
each_pair_in_parallel-one_pair_beside_others-first-requires-clause-one g t c κs within =
    (first-and-others (g.T.PairedTask.ready c.args.shared.now) _ _ _ _ _ _ c.in-Some.ensures.cases.0 c.in-Some-split_first_mut.ensures.cases.0
    c.requires.ready).0

pub each_pair_in_parallel-one_pair_beside_others-first-requires-clause-others :
    goal.each_pair_in_parallel-one_pair_beside_others-first-requires-clause-others
each_pair_in_parallel-one_pair_beside_others-first-requires-clause-others g t c κs within =
    let tasks = c.in-Some.ensures.cases in let values = c.in-Some-split_first_mut.ensures.cases in record {
      same_count = omega (arith, tasks.1, values.1, c.requires.same_count);
      ready = (first-and-others (g.T.PairedTask.ready c.args.shared.now) _ _ _ _ _ _ tasks.0 values.0 c.requires.ready).1;
    }
