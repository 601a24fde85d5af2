use Rattle.std.proofs.Common.{◌<◌, ◌≡◌, arith, length}
use Rattle.mb_dispatch.proofs.Pairs.{first-and-others}
use Rattle.mb_dispatch.proofs.paired.+each_in_turn.Goals as goal

pub perform_with-first-requires : goal.perform_with-first-requires
perform_with-first-requires g t c = record {
  ready = (first-and-others (g.T.PairedTask.ready c.args.shared.now) _ _ _ _ _ _ c.in-Some.ensures.cases.0 c.in-Some-split_first_mut.ensures.cases.0
      c.requires.ready).0;
}

pub each_in_turn-rest-requires : goal.each_in_turn-rest-requires
each_in_turn-rest-requires g t c κs within =
    let tasks = c.in-Some.ensures.cases in let values = c.in-Some-split_first_mut.ensures.cases in
    let shorter : length c.in-Some.other_tasks.now < length c.args.tasks.now = omega (arith, tasks.1) in
    let same : length c.in-Some.other_tasks.now ≡ length c.in-Some-split_first_mut.other_values.now = omega (arith, tasks.1, values.1, c.requires.same_count) in
    let rest = (first-and-others (g.T.PairedTask.ready c.args.shared.now) _ _ _ _ _ _ tasks.0 values.0 c.requires.ready).1 in
    (omega (arith, shorter, c.decreases), (within.0, (within.1.0, (within.1.1.0, (within.1.1.1, record { same_count = same; ready = rest })))))
