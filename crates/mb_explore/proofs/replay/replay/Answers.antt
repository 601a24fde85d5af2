use Rattle.std.proofs.Common.{◌<◌, ◌≤◌, length, subst, arith, take_all}
use Rattle.std.proofs.lemmas.List.{get_or_default}
use Rattle.mb_explore.specs.Orders.{LeadsTo}
use Rattle.mb_explore.proofs.OrderLemmas.{leads-along}
use Rattle.mb_explore.proofs.replay.replay.Goals as goal

pub loop-choice-preserved : goal.loop-choice-preserved
loop-choice-preserved g c =
    let was = c.loop-choice.invariant in let order = c.args.schedule.now in let place = c.loop-choice.choice-index in
    let within : place < length order = omega arith in (
      was.0,
      was.1,
      leads-along was.0 c.loop-choice.world c.step.new.self order place within _ (get_or_default order place _ _ within) was.2 c.in_ok-step.ensures.possible
          c.in_ok-step.ensures.made,
    )

pub returns : goal.returns
returns g c =
    let was = c.loop-choice.invariant in let order = c.args.schedule.now in let all : length order ≤ c.loop-choice.choice-index = omega arith in
    (was.0, was.1, subst (λ l. LeadsTo was.0 l c.loop-choice.world) (take_all c.loop-choice.choice-index order all) was.2)
